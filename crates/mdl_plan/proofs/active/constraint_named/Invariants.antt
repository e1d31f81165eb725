use Rattle.std.proofs.Common.{◌≡◌, drop}
use Rattle.mdl_check.specs.Names.{constraint_named}
use Rattle.mdl_plan.proofs.active.constraint_named.Given as goal

abbrev pub invariant-loop-constraint : goal.invariant-loop-constraint
invariant-loop-constraint l = constraint_named (drop l.constraint-index l.constraints) l.name ≡ constraint_named l.constraints l.name
