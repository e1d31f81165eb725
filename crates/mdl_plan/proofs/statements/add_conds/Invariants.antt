use Rattle.std.proofs.Common.{◌≡◌, ◌++◌, take, map}
use Rattle.mdl_plan.specs.Statements.{cond_of}
use Rattle.mdl_plan.proofs.statements.add_conds.Given as goal

abbrev pub invariant-loop-condition : goal.invariant-loop-condition
invariant-loop-condition l = l.conds.items ≡ l.fn.conds.items ++ map (cond_of l.variable l.value) (take l.condition-index l.conditions)
