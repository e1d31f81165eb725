use Rattle.std.proofs.Common.{arith}
use Rattle.code_points.proofs.Words.{word_there, no_word}
use Rattle.code_points.proofs.text.word.Goals as goal

pub returns-then-text-place : goal.returns-then-text-place
returns-then-text-place c = no_word c.args.text_at c.args.at c.args.text.now (omega arith) (omega arith) (omega arith)

pub returns : goal.returns
returns c = word_there c.args.text_at c.args.at c.split_word.result.0 c.args.text.now (omega arith) (omega arith) (omega arith) c.split_word.ensures.word
