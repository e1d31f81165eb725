use Rattle.std.proofs.Common.{◌≡◌, refl, sym, ap, ◌∙◌, take, get_or}
use Rattle.std.proofs.lemmas.List.{take_all}
use Rattle.resource_tree.specs.FocusTexts.{every_axis}
use Rattle.resource_tree.specs.FormStates.{after_all}
use Rattle.resource_tree.specs.declared.form.Stage.TheVariants.{Start}
use Rattle.resource_tree.proofs.FormStates.{state}
use Rattle.resource_tree.proofs.Faults.{one_more, stops_at, ends_early, is_focus}
use Rattle.resource_tree.proofs.form.form_fault.Goals as goal

pub returns-in-None : goal.returns-in-None
returns-in-None c =
    stops_at c.args.text.now c.loop-number.number (get_or c.args.text.now c.loop-number.number 0) c.loop-number.state c.loop-number-test.true refl c.loop-number.invariant
    (sym c.after.ensures ∙ c.in-None.is)

pub loop-number-preserved : goal.loop-number-preserved
loop-number-preserved c =
    one_more c.args.text.now c.loop-number.number (get_or c.args.text.now c.loop-number.number 0) c.loop-number.state c.loop-number-test.true refl c.loop-number.invariant
    ∙ sym c.after.ensures ∙ c.in-Some.is

pub returns-then-is_whole : goal.returns-then-is_whole
returns-then-is_whole c =
    let e : take c.loop-number.number c.args.text.now ≡ c.args.text.now = take_all c.loop-number.number c.args.text.now c.loop-number-test.false in
    is_focus c.args.text.now c.loop-number.state (ap (after_all (state every_axis Start)) (sym e) ∙ c.loop-number.invariant) (sym c.is_whole.ensures ∙ c.if-is_whole.true)

pub returns-else-is_whole : goal.returns-else-is_whole
returns-else-is_whole c =
    let e : take c.loop-number.number c.args.text.now ≡ c.args.text.now = take_all c.loop-number.number c.args.text.now c.loop-number-test.false in
    ends_early c.args.text.now c.loop-number.state (ap (after_all (state every_axis Start)) (sym e) ∙ c.loop-number.invariant) (sym c.is_whole.ensures ∙ c.if-is_whole.false)
