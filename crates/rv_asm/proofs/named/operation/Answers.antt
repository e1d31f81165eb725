use Rattle.std.proofs.Common.{◌∙◌, sym, Some, None}
use Rattle.rv_asm.proofs.Forms.{operation_is}
use Rattle.rv_asm.proofs.named.operation.Goals as goal

pub returns-in-Some : goal.returns-in-Some
returns-in-Some c = operation_is c.args.name.now c.args.text.now (Some c.in-Some.statement) (sym c.in-Some.is ∙ c.plain_statement.ensures)

pub returns-in-None : goal.returns-in-None
returns-in-None c = c.named_statement.ensures ∙ operation_is c.args.name.now c.args.text.now None (sym c.in-None.is ∙ c.plain_statement.ensures)
