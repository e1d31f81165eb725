use Rattle.std.proofs.Common.{rules, ◌≡◌, None, Some, arith, sym, ◌∙◌, length}
use Rattle.std.proofs.lemmas.Bool.{eqb-false}
use Rattle.std.proofs.lemmas.Str.Pattern.{strip_prefix_char}
use Rattle.pd_words.proofs.TypedWords.{plain_word, flag_word}
use Rattle.pd_words.proofs.word_kind.WordKind.of.Goals as goal

pub returns-in_default-clause-kind : goal.returns-in_default-clause-kind
returns-in_default-clause-kind c =
    let none : c.strip_prefix.result ≡ None = search rules in
    plain_word c.args.word.now c.strip_prefix.result none (strip_prefix_char 45 c.args.word.now c.strip_prefix.result c.strip_prefix.ensures.cases (omega arith))

pub returns-in_default-strip_prefix-clause-kind : goal.returns-in_default-strip_prefix-clause-kind
returns-in_default-strip_prefix-clause-kind c =
    let some : c.strip_prefix.result ≡ Some c.in-Some.flag = search rules in
    let none : c.strip_prefix-2.result ≡ None = search rules in
    flag_word c.args.word.now c.strip_prefix.result c.in-Some.flag c.strip_prefix-2.result some
    (strip_prefix_char 45 c.args.word.now c.strip_prefix.result c.strip_prefix.ensures.cases (omega arith))
    (eqb-false (length c.in-Some.flag.now) 0 (sym c.is_empty.ensures ∙ c.if-is_empty.false))
    none
    (strip_prefix_char 45 c.in-Some.flag.now c.strip_prefix-2.result c.strip_prefix-2.ensures.cases (omega arith))
