use Rattle.std.proofs.Common.{◌≡◌, ◌+◌, false, drop}
use Rattle.pn_text.specs.Blanks.{blank_len}
use Rattle.pn_text.proofs.blanks.blank_len.Given as goal

abbrev pub invariant-loop-i : goal.invariant-loop-i
invariant-loop-i l = blank_len l.in_comment (drop l.i l.text) + l.i ≡ blank_len false l.text
