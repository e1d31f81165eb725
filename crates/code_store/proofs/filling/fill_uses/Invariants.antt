use Rattle.std.proofs.Common.{◌≡◌, ◌++◌, replicate}
use Rattle.std.specs.Vec.{vec_capacity}
use Rattle.code_store.specs.declared.word_use.WordUse.TheVariants.{Unwritten}
use Rattle.code_store.proofs.filling.fill_uses.Given as goal

abbrev pub invariant-loop : goal.invariant-loop
invariant-loop l = record {
  items : l.uses.items ≡ l.initial.uses.items ++ replicate l.counter Unwritten;
  capacity : vec_capacity l.uses ≡ vec_capacity l.initial.uses;
}
