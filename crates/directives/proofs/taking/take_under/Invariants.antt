use Rattle.std.proofs.Common.{List, ℕ, ◌+◌, length}
use Rattle.directives.specs.Standing.{count, IsLeftOf}
use Rattle.directives.proofs.Pruning.{IsTaking}
use Rattle.directives.proofs.taking.take_under.Given as goal

abbrev pub invariant-loop-parent : goal.invariant-loop-parent
invariant-loop-parent l = record {
  rest : IsLeftOf l.fn.slots l.slots;
  taking : (moved : List ℕ) → IsTaking l.fn.slots moved l.name l.slots l.parents.items;
}

abbrev pub decreases-loop-parent : goal.decreases-loop-parent
decreases-loop-parent l = count l.slots + length l.parents.items
