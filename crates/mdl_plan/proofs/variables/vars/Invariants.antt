use Rattle.std.proofs.Common.{◌≡◌, ◌<◌, ◌^◌, ◌∷◌, take, map}
use Rattle.std.specs.List.{AllByRecursion}
use Rattle.mdl_plan.specs.Plans.{base_var, counter_var}
use Rattle.mdl_plan.proofs.variables.vars.Given as goal

abbrev pub invariant-loop-counter : goal.invariant-loop-counter
invariant-loop-counter l = record {
  vars : l.vars.items ≡ base_var l.metric l.active ∷ map counter_var (take l.counter-index (map (λ c. c.now) l.counters));
  narrow : AllByRecursion (λ v. v.initially < 2 ^ 32) l.vars.items;
}
