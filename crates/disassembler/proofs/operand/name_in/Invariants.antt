use Rattle.std.proofs.Common.{◌≡◌, map, drop}
use Rattle.disassembler.specs.Operands.{name_by}
use Rattle.disassembler.proofs.operand.name_in.Given as goal

abbrev pub invariant-loop-row : goal.invariant-loop-row
invariant-loop-row l = name_by (λ n. n) l.register (map (λ row. (row.0.now, row.1)) (drop l.row-index l.rows)) ≡ name_by (λ n. n) l.register (map (λ row. (row.0.now, row.1)) l.rows)
