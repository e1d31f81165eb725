use Rattle.std.proofs.Common.{◌≡◌, length}
use Rattle.mdl_parse.specs.Picks.{is_var}
use Rattle.mdl_parse.specs.Steps.{many_at}
use Rattle.mdl_parse.specs.Parts.{statement_at}
use Rattle.mdl_parse.proofs.Loops.{with_front}
use Rattle.mdl_parse.proofs.words.Words.statements.Given as goal

abbrev pub invariant-statements : goal.invariant-statements
invariant-statements l = record {
  read : many_at is_var (statement_at l.most) l.fn.self ≡ with_front l.statements.items (many_at is_var (statement_at l.most) l.self);
}

abbrev pub decreases-statements : goal.decreases-statements
decreases-statements l = length l.self
