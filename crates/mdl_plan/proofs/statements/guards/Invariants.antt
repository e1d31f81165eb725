use Rattle.std.proofs.Common.{◌≡◌, ◌+◌, ◌++◌, drop, map}
use Rattle.mdl_plan.specs.Statements.{guards}
use Rattle.mdl_plan.proofs.statements.guards.Given as goal

abbrev pub invariant-loop-counter : goal.invariant-loop-counter
invariant-loop-counter l = record {
  variable : l.variable ≡ l._counter-index + 1;
  all : l.conds.items ++ guards l.variable (drop l._counter-index (map (λ c. c.now) l.counters)) ≡ guards 1 (map (λ c. c.now) l.counters);
}
