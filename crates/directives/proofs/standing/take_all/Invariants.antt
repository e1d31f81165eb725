use Rattle.std.proofs.Common.{◌≡◌, ◌++◌}
use Rattle.std.specs.List.{range_with_len}
use Rattle.directives.specs.Standing.{items_in_slots, items_left}
use Rattle.directives.proofs.standing.take_all.Given as goal

abbrev pub invariant-loop-place : goal.invariant-loop-place
invariant-loop-place l = record {
  slots : l.slots ≡ items_left (range_with_len 0 l.place) l.initial.slots;
  out : l.out.items ≡ l.initial.out.items ++ items_in_slots (range_with_len 0 l.place) l.initial.slots;
}
