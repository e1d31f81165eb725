use Rattle.std.proofs.Common.{◌≡◌, ◌+◌, ◌++◌, drop, map}
use Rattle.std.specs.List.{filter}
use Rattle.mdl_plan.specs.Busy.{is_put_there}
use Rattle.mdl_plan.specs.Pieces.{counter_pieces}
use Rattle.mdl_plan.proofs.pieces.add_counters.Given as goal

abbrev pub invariant-loop-counter : goal.invariant-loop-counter
invariant-loop-counter l = record {
  variable : l.variable ≡ l.counter-index + 1;
  all : l.pieces.items ++ filter (is_put_there l.prepend) (counter_pieces l.variable (drop l.counter-index (map (λ c. c.now) l.counters)))
      ≡ l.fn.pieces.items ++ filter (is_put_there l.prepend) (counter_pieces 1 (map (λ c. c.now) l.counters));
}
