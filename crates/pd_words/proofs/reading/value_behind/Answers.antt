use Rattle.std.proofs.Common.{rules, ◌≡◌, ◌∙◌, None, arith, length, sym}
use Rattle.std.proofs.lemmas.Bool.{eqb-false}
use Rattle.std.proofs.lemmas.Str.Pattern.{strip_prefix_char}
use Rattle.pd_words.proofs.TypedWords.{value_without}
use Rattle.pd_words.proofs.reading.value_behind.Goals as goal

pub returns-in-None : goal.returns-in-None
returns-in-None c =
    let none : c.strip_prefix.result ≡ None = search rules in
    value_without c.args.rest.now c.strip_prefix.result (eqb-false (length c.args.rest.now) 0 (sym c.is_empty.ensures ∙ c.if-is_empty.false)) none
    (strip_prefix_char 61 c.args.rest.now c.strip_prefix.result c.strip_prefix.ensures.cases (omega arith))
