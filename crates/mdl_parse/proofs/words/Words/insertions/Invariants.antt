use Rattle.std.proofs.Common.{◌≡◌, length}
use Rattle.mdl_parse.specs.Picks.{is_insertion}
use Rattle.mdl_parse.specs.Steps.{many_at}
use Rattle.mdl_parse.specs.Parts.{insertion_at}
use Rattle.mdl_parse.proofs.Loops.{with_front}
use Rattle.mdl_parse.proofs.words.Words.insertions.Given as goal

abbrev pub invariant-insertions : goal.invariant-insertions
invariant-insertions l = record {
  read : many_at is_insertion (insertion_at l.most) l.fn.self ≡ with_front l.insertions.items (many_at is_insertion (insertion_at l.most) l.self);
}

abbrev pub decreases-insertions : goal.decreases-insertions
decreases-insertions l = length l.self
