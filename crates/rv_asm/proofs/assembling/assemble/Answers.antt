use Rattle.std.proofs.Common.{rules}
use Rattle.std.proofs.lemmas.Result.{MatchResult-weaker}
use Rattle.rv_asm.specs.Assembly.{assembled}
use Rattle.rv_asm.proofs.AssembledImages.{assembled_is}
use Rattle.rv_asm.proofs.assembling.assemble.Goals as goal

pub returns-clause-meaning : goal.returns-clause-meaning
unfolding assembled
returns-clause-meaning c = search rules

pub returns-clause-image : goal.returns-clause-image
returns-clause-image c =
    MatchResult-weaker c.completed.result (returns-clause-meaning c) (λ image meant. (assembled_is c.args.text.now image meant).sound c.requires) (λ fault _. tt)

pub returns-clause-unscratched : goal.returns-clause-unscratched
returns-clause-unscratched c =
    MatchResult-weaker c.completed.result (returns-clause-meaning c) (λ image meant. (assembled_is c.args.text.now image meant).unscratched) (λ fault _. tt)

pub returns-clause-named : goal.returns-clause-named
returns-clause-named c =
    MatchResult-weaker c.completed.result (returns-clause-meaning c) (λ image meant. (assembled_is c.args.text.now image meant).names) (λ fault _. tt)

pub returns-clause-modules : goal.returns-clause-modules
returns-clause-modules c =
    MatchResult-weaker c.completed.result (returns-clause-meaning c) (λ image meant. (assembled_is c.args.text.now image meant).modules) (λ fault _. tt)
