use Rattle.std.proofs.Common.{◌≡◌, ◌++◌}
use Rattle.mdl_parse.specs.Printing.{indent}
use Rattle.mdl_parse.proofs.line.add_indent.Given as goal

abbrev pub invariant-levels : goal.invariant-levels
invariant-levels l = l.out.items ≡ l.initial.out.items ++ indent l.counter
