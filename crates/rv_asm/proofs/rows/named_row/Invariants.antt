use Rattle.std.proofs.Common.{◌≡◌, map, drop}
use Rattle.rv_asm.specs.Registers.{named}
use Rattle.rv_asm.proofs.rows.named_row.Given as goal

abbrev pub invariant-loop-row : goal.invariant-loop-row
invariant-loop-row g l = named l.name (map (λ row. (row.0.now, row.1)) (drop l.row-index l.rows)) ≡ named l.name (map (λ row. (row.0.now, row.1)) l.rows)
