use Rattle.std.proofs.Common.{◌≡◌, ◌++◌, take}
use Rattle.directives.specs.Standing.{items_in_slots, items_left}
use Rattle.directives.proofs.taking.take_items.Given as goal

abbrev pub invariant-loop-place : goal.invariant-loop-place
invariant-loop-place l = record {
  slots : l.slots ≡ items_left (take l.place-index l.places) l.initial.slots;
  out : l.out.items ≡ l.initial.out.items ++ items_in_slots (take l.place-index l.places) l.initial.slots;
}
