use Rattle.std.proofs.Common.{◌≡◌, ◌<◌, ◌+◌, ℕ, List, Option, Some, None, drop, length, sym, ap, ◌∙◌, arith, length-drop, subst}
use Rattle.std.specs.List.{All}
use Rattle.std.specs.Option.{option_to_list}
use Rattle.advice.specs.Advice.{HasTicks}
use Rattle.std.proofs.lemmas.List.{take_rest, drop-drop}
use Rattle.advice.specs.Lines.{due_after, first_line, told_in}
use Rattle.advice.specs.Reading.{onto, verdicts_from, verdicts_of}
use Rattle.advice.specs.declared.verdict.Verdict.{Verdict}
use Rattle.advice.proofs.ReadLines.{cut_step, fault_step, line_step, onto_onto, ticks_onto}
use Rattle.advice.proofs.reading.read_verdicts.Goals as goal

pub returns-in_default-after-clause-told : goal.returns-in_default-after-clause-told
returns-in_default-after-clause-told c =
    let report = c.args.report.now in
    let at = c.lines.at in
    let first : first_line c.lines.due (drop at report) ≡ Some c.in-Some.line.now = sym (rw (take_rest report at) at c.in-Some.ensures.line) in
    let wrong : due_after c.lines.due c.in-Some.line.now ≡ None = sym c.after.ensures ∙ c.in_default-after.is in
    sym c.lines.invariant.rest
    ∙ ap (onto c.lines.verdicts.items) (fault_step c.lines.due at (drop at report) c.in-Some.line.now (omega (arith, length-drop at report, c.lines-test.true)) first wrong)

pub returns-in_default-clause-told : goal.returns-in_default-clause-told
returns-in_default-clause-told c =
    let report = c.args.report.now in
    let at = c.lines.at in
    let cut : first_line c.lines.due (drop at report) ≡ None = sym (rw (take_rest report at) at c.in_default.ensures.line) in
    sym c.lines.invariant.rest
    ∙ ap (onto c.lines.verdicts.items) (cut_step c.lines.due at (drop at report) (omega (arith, length-drop at report, c.lines-test.true)) cut)

pub lines-preserved : goal.lines-preserved
lines-preserved c =
    let report = c.args.report.now in
    let at = c.lines.at in
    let due = c.lines.due in
    let line = c.in-Some.line.now in
    let next = c.in-Some-after.next in
    let vs = c.lines.verdicts.items in
    let left = length-drop at report in
    let first : first_line due (drop at report) ≡ Some line = sym (rw (take_rest report at) at c.in-Some.ensures.line) in
    let inside : length line < length (drop at report) = rw (take_rest report at) at c.in-Some.ensures.within in
    let said : due_after due line ≡ Some next = sym c.after.ensures ∙ c.in-Some-after.is in
    let told : c.in_ok-told_in.field-0 ≡ told_in due line = c.in_ok-told_in.ensures.told in
    let rest : onto vs (onto (option_to_list c.in_ok-told_in.field-0) (verdicts_from next (at + (length line + 1)) 0 (drop (at + (length line + 1)) report))) ≡ verdicts_of report =
    ap (λ (v : Option Verdict). onto vs (onto (option_to_list v) (verdicts_from next (at + (length line + 1)) 0 (drop (at + (length line + 1)) report)))) told
    ∙ ap (λ (bytes : List ℕ). onto vs (onto (option_to_list (told_in due line)) (verdicts_from next (at + (length line + 1)) 0 bytes))) (sym (drop-drop (length line + 1) at report))
    ∙ ap (onto vs) (sym (line_step due next at (drop at report) line inside first said))
    ∙ c.lines.invariant.rest in
    record {
      inside = omega (arith, left, inside);
      rest =
          ap (λ (all : List Verdict). onto all (verdicts_from next (at + (length line + 1)) 0 (drop (at + (length line + 1)) report))) c.in_ok-add_told.ensures
          ∙ sym (onto_onto vs (option_to_list c.in_ok-told_in.field-0) (verdicts_from next (at + (length line + 1)) 0 (drop (at + (length line + 1)) report)))
          ∙ rest;
      ticks = subst (λ (all : List Verdict). All HasTicks all) (sym c.in_ok-add_told.ensures) (ticks_onto vs c.in_ok-told_in.field-0 c.lines.invariant.ticks c.in_ok-told_in.ensures.ticks);
    }
