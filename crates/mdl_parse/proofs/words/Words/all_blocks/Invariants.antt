use Rattle.std.proofs.Common.{◌≡◌, length, codes}
use Rattle.mdl_parse.specs.Shapes.{is_keyword}
use Rattle.mdl_parse.specs.Steps.{many_at}
use Rattle.mdl_parse.specs.Parts.{block_at}
use Rattle.mdl_parse.proofs.Loops.{with_front}
use Rattle.mdl_parse.proofs.words.Words.all_blocks.Given as goal

abbrev pub invariant-each : goal.invariant-each
invariant-each l = record {
  read : many_at (is_keyword (codes "foreach")) (block_at l.most) l.fn.self ≡ with_front l.blocks.items (many_at (is_keyword (codes "foreach")) (block_at l.most) l.self);
}

abbrev pub decreases-each : goal.decreases-each
decreases-each l = length l.self
