use Rattle.std.proofs.Common.{◌≡◌, List, ℕ, Some, map}
use Rattle.directives.specs.Hypotheses.{is_named}
use Rattle.directives.specs.Standing.{under, is_child, places_where}
use Rattle.directives.proofs.standing.Standing.of.Given as goal

abbrev pub invariant-loop-item : goal.invariant-loop-item
invariant-loop-item l = record {
  slots : l.slots.items ≡ map Some l.yielded;
  named : (name : List ℕ) → under l.named name ≡ places_where (is_named name) 0 l.yielded;
  children : (name : List ℕ) → under l.children name ≡ places_where (is_child name) 0 l.yielded;
}
