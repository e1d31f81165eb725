use Rattle.std.proofs.Common.{◌≡◌, ◌++◌, length}
use Rattle.pn_text.specs.Scans.{tokens_of}
use Rattle.mdl_parse.proofs.lexing.tokenize.Given as goal

abbrev pub invariant-tokens : goal.invariant-tokens
invariant-tokens l = record {
  all : l.all.items ++ l.scanner.tokens ≡ (tokens_of l.text).tokens;
  ending : l.scanner.ending ≡ (tokens_of l.text).ending;
}

abbrev pub decreases-tokens : goal.decreases-tokens
decreases-tokens l = length l.scanner.tokens
