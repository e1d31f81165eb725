use Rattle.std.proofs.Common.{◌≡◌, take, Some}
use Rattle.resource_tree.specs.FocusTexts.{every_axis}
use Rattle.resource_tree.specs.FormStates.{after_all}
use Rattle.resource_tree.specs.declared.form.Stage.TheVariants.{Start}
use Rattle.resource_tree.proofs.FormStates.{state}
use Rattle.resource_tree.proofs.form.form_fault.Given as goal

abbrev pub invariant-loop-number : goal.invariant-loop-number
invariant-loop-number l = after_all (state every_axis Start) (take l.number l.text) ≡ Some l.state
