use Rattle.std.proofs.Common.{◌≡◌, map, take}
use Rattle.source_text.proofs.files.each_unit.Given as goal

abbrev pub invariant-loop-unit : goal.invariant-loop-unit
invariant-loop-unit l = map (λ u. u.now) l.found.items ≡ take l.unit-index l.units
