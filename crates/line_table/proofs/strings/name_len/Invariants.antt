use Rattle.std.proofs.Common.{◌≡◌, ◌+◌, drop}
use Rattle.line_table.specs.Strings.{name_len}
use Rattle.line_table.proofs.strings.name_len.Given as goal

abbrev pub invariant-loop-i : goal.invariant-loop-i
invariant-loop-i l = name_len l.bytes ≡ l.i + name_len (drop l.i l.bytes)
