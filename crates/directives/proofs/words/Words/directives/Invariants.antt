use Rattle.std.proofs.Common.{◌≡◌, length}
use Rattle.mdl_parse.specs.Picks.{is_any}
use Rattle.mdl_parse.specs.Steps.{many_at}
use Rattle.mdl_parse.proofs.Loops.{with_front}
use Rattle.directives.specs.Reading.{directive_at}
use Rattle.directives.proofs.words.Words.directives.Given as goal

abbrev pub invariant-directives : goal.invariant-directives
invariant-directives l = record {
  read : many_at is_any directive_at l.fn.self.words_ahead ≡ with_front l.directives.items (many_at is_any directive_at l.self.words_ahead);
  ending : l.self.ending ≡ l.fn.self.ending;
}

abbrev pub decreases-directives : goal.decreases-directives
decreases-directives l = length l.self.words_ahead
