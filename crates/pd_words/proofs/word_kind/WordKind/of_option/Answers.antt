use Rattle.std.proofs.Common.{None, arith}
use Rattle.std.proofs.lemmas.Str.Pattern.{split_once_first}
use Rattle.pd_words.proofs.TypedWords.{only_name}
use Rattle.pd_words.proofs.word_kind.WordKind.of_option.Goals as goal

pub returns-in-None-clause-kind : goal.returns-in-None-clause-kind
returns-in-None-clause-kind c = only_name c.args.text.now (split_once_first 61 c.args.text.now None c.in-None.ensures.cases (omega arith))
