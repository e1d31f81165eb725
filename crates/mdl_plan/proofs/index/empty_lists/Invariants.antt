use Rattle.std.proofs.Common.{map}
use Rattle.mdl_plan.specs.Numbers.{AreEmpty}
use Rattle.mdl_plan.proofs.index.empty_lists.Given as goal

abbrev pub invariant-loop-proc : goal.invariant-loop-proc
invariant-loop-proc l = AreEmpty l._proc (map (λ list. list.items) l.lists.items)
