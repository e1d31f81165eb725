use Rattle.std.proofs.Common.{◌≡◌, ◌++◌, take, map}
use Rattle.mdl_plan.specs.Statements.{stmt_of}
use Rattle.mdl_plan.proofs.statements.Terms.add_stmts.Given as goal

abbrev pub invariant-loop-statement : goal.invariant-loop-statement
invariant-loop-statement l = l.stmts.items ≡ l.fn.stmts.items ++ map (stmt_of l.self l.piece) (take l.statement-index l.statement-items)
