use Rattle.std.proofs.Common.{◌≡◌, map}
use Rattle.mdl_parse.specs.ButLines.{statement_but_line}
use Rattle.mdl_shipped.proofs.lines.insertion_but_lines.Given as goal

abbrev pub invariant-loop-statement : goal.invariant-loop-statement
invariant-loop-statement l = l.stmts.items ≡ map statement_but_line l.yielded
