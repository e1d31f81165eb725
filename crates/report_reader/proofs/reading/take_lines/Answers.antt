use Rattle.std.proofs.Common.{◌≡◌, ◌<◌, ◌+◌, true, false, Some, None, drop, length, rules, sym, ap, ◌∙◌, arith, length-drop}
use Rattle.std.proofs.lemmas.List.{take_rest, drop-drop}
use Rattle.report_reader.specs.Drafts.{after}
use Rattle.report_reader.specs.Reading.{first_due_line, report_from}
use Rattle.report_reader.proofs.TakeLines.{fault_step, line_step}
use Rattle.report_reader.proofs.Taken.{few_after, is_right, is_wrong}
use Rattle.report_reader.proofs.reading.take_lines.Goals as goal

pub returns-then-not-branch-clause-told : goal.returns-then-not-branch-clause-told
returns-then-not-branch-clause-told c =
    let bytes = c.args.bytes.now in
    let at = c.lines.at in
    let d = c.lines.draft in
    let line = c.in-Some.line.now in
    let first : first_due_line d.due (drop at bytes) ≡ Some line = sym (rw (take_rest bytes at) at c.in-Some.ensures.line) in
    let no : c.in_ok-after.field-0 ≡ false = search rules in
    let wrong : after d line ≡ None = is_wrong c.in_ok-after.field-0 c.after.new.self (after d line) c.in_ok-after.ensures no in
    sym c.lines.invariant.rest ∙ fault_step d at (drop at bytes) line (omega (arith, length-drop at bytes, c.lines-test.true)) first wrong

pub lines-preserved : goal.lines-preserved
lines-preserved c =
    let bytes = c.args.bytes.now in
    let at = c.lines.at in
    let d = c.lines.draft in
    let next = c.after.new.self in
    let line = c.in-Some.line.now in
    let left = length-drop at bytes in
    let first : first_due_line d.due (drop at bytes) ≡ Some line = sym (rw (take_rest bytes at) at c.in-Some.ensures.line) in
    let inside : length line < length (drop at bytes) = rw (take_rest bytes at) at c.in-Some.ensures.within in
    let yes : c.in_ok-after.field-0 ≡ true = search rules in
    let said : after d line ≡ Some next = is_right c.in_ok-after.field-0 next (after d line) c.in_ok-after.ensures yes in
    record {
      inside = omega (arith, left, inside);
      rest =
          ap (report_from next (at + (length line + 1)) 0) (sym (drop-drop (length line + 1) at bytes))
          ∙ sym (line_step d next at (drop at bytes) line inside first said)
          ∙ c.lines.invariant.rest;
      harts = few_after d next line said c.lines.invariant.harts;
    }
