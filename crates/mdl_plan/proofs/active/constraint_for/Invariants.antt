use Rattle.std.proofs.Common.{◌≡◌, drop}
use Rattle.mdl_plan.specs.Active.{constraint_for}
use Rattle.mdl_plan.proofs.active.constraint_for.Given as goal

abbrev pub invariant-loop-name : goal.invariant-loop-name
invariant-loop-name l = constraint_for l.constraints l.path (drop l.name-index l.names) ≡ constraint_for l.constraints l.path l.names
