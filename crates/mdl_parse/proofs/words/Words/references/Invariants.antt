use Rattle.std.proofs.Common.{◌≡◌, length, codes}
use Rattle.mdl_parse.specs.Shapes.{is_keyword}
use Rattle.mdl_parse.specs.Steps.{many_at}
use Rattle.mdl_parse.specs.Items.{reference_at}
use Rattle.mdl_parse.proofs.Loops.{with_front}
use Rattle.mdl_parse.proofs.words.Words.references.Given as goal

abbrev pub invariant-names : goal.invariant-names
invariant-names l = record {
  read : many_at (is_keyword (codes "constraint")) reference_at l.fn.self ≡ with_front l.names.items (many_at (is_keyword (codes "constraint")) reference_at l.self);
}

abbrev pub decreases-names : goal.decreases-names
decreases-names l = length l.self
