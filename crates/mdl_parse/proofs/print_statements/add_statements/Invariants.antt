use Rattle.std.proofs.Common.{◌≡◌, ◌++◌, drop}
use Rattle.std.specs.List.{flat_map}
use Rattle.mdl_parse.specs.Grammar.{statement_words}
use Rattle.mdl_parse.proofs.print_statements.add_statements.Given as goal

abbrev pub invariant-loop-statement : goal.invariant-loop-statement
invariant-loop-statement l = l.line ++ flat_map statement_words (drop l.statement-index l.statements) ≡ l.initial.line ++ flat_map statement_words l.statements
