use Rattle.std.proofs.Common.{◌≡◌, map, drop}
use Rattle.disassembler.specs.FormsSeen.{name_with, named_instr}
use Rattle.disassembler.proofs.mnemonics.named_name.Given as goal

abbrev pub invariant-loop-row : goal.invariant-loop-row
invariant-loop-row l = name_with named_instr l.word (map (λ row. (row.0.now, row.1)) (drop l.row-index l.rows)) ≡ name_with named_instr l.word (map (λ row. (row.0.now, row.1)) l.rows)
