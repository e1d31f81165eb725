use Rattle.std.proofs.Common.{arith}
use Rattle.std.proofs.lemmas.Grind.{common_steps}
use Rattle.tramp_spec.specs.Statements.{body_of}
use Rattle.prim_code.proofs.compiling.compile.Goals as goal

pub returns-clause-words : goal.returns-clause-words
unfolding body_of
returns-clause-words c = grind (arith, common_steps)
