use Rattle.std.proofs.Common.{None, arith}
use Rattle.std.proofs.lemmas.Str.Pattern.{split_once_first}
use Rattle.command_words.proofs.Words.{only_name}
use Rattle.command_words.proofs.word_kind.WordKind.of_option.Goals as goal

pub returns-in-None : goal.returns-in-None
returns-in-None c = only_name c.args.text.now (split_once_first 61 c.args.text.now None c.in-None.ensures.cases (omega arith))
