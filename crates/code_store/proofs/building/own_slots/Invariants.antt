use Rattle.std.proofs.Common.{◌≡◌, map, take}
use Rattle.tramp_spec.specs.Marks.{own}
use Rattle.code_store.proofs.building.own_slots.Given as goal

abbrev pub invariant-loop-word : goal.invariant-loop-word
invariant-loop-word l = l.slots.items ≡ map own (take l.word-index l.words)
