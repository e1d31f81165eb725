use Rattle.std.proofs.Common.{arith}
use Rattle.std.proofs.lemmas.Grind.{common_steps}
use Rattle.prim_code.proofs.Lengths.{length_body}
use Rattle.prim_code.proofs.counting.words_of.Goals as goal

pub returns-clause-body : goal.returns-clause-body
returns-clause-body c = λ slots. grind (arith, common_steps, length_body slots c.args.stmts.now)
