use Rattle.std.proofs.Common.{◌≡◌, length}
use Rattle.pn_text.specs.declared.token.Sign.TheVariants.{Comma}
use Rattle.mdl_parse.specs.Picks.{is_sign}
use Rattle.mdl_parse.specs.Steps.{many_at}
use Rattle.mdl_parse.specs.Parts.{another_at, names_at}
use Rattle.mdl_parse.proofs.Loops.{with_front}
use Rattle.mdl_parse.proofs.words.Words.names.Given as goal

abbrev pub invariant-names : goal.invariant-names
invariant-names l = record {
  read : names_at l.fn.self ≡ with_front l.names.items (many_at (is_sign Comma) another_at l.self);
}

abbrev pub decreases-names : goal.decreases-names
decreases-names l = length l.self
