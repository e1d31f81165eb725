use Rattle.std.proofs.Common.{◌≡◌, ◌+◌, ◌*◌, ◌≤◌, ◌^◌, length}
use Rattle.pn_text.specs.Lines.{lines}
use Rattle.rv_asm.specs.FirstPass.{draft_after_lines, blank_draft, text_end, data_end}
use Rattle.rv_asm.proofs.first_pass.pass.Given as goal

abbrev pub invariant-lines : goal.invariant-lines
invariant-lines l = record {
  left : l.line + length l.rest ≤ length l.text;
  text_room : text_end l.draft ≤ 65536 + l.line * 2 ^ 64;
  data_room : data_end l.draft ≤ 16777216 + l.line * 2 ^ 64;
  passes : draft_after_lines (l.line + 1) l.draft (lines l.rest) ≡ draft_after_lines 1 blank_draft (lines l.text);
}

abbrev pub decreases-lines : goal.decreases-lines
decreases-lines l = length l.rest
