use Rattle.std.proofs.Common.{◌≡◌, ◌-◌, length}
use Rattle.mdl_check.specs.Rules.{leads_to, is_cyclic}
use Rattle.mdl_check.proofs.ancestors.leads_back.Given as goal

abbrev pub invariant-loop-step : goal.invariant-loop-step
invariant-loop-step l = leads_to l.parents (length l.parents - l._step) l.place l.next ≡ is_cyclic l.parents l.place
