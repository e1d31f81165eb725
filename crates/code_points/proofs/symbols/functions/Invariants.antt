use Rattle.std.proofs.Common.{◌≡◌, map, take}
use Rattle.std.specs.List.{filter}
use Rattle.code_points.specs.Procedures.{is_func}
use Rattle.code_points.proofs.symbols.functions.Given as goal

abbrev pub invariant-loop-symbol : goal.invariant-loop-symbol
invariant-loop-symbol l = map (λ s. s.now) l.found.items ≡ filter (λ s. is_func s.kind) (take l.symbol-index l.symbols)
