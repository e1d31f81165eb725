use Rattle.std.proofs.Common.{◌≡◌, take}
use Rattle.std.specs.List.{filter}
use Rattle.code_points.specs.Objects.{is_data}
use Rattle.code_points.proofs.data_objects.objects.Given as goal

abbrev pub invariant-loop-symbol : goal.invariant-loop-symbol
invariant-loop-symbol l = l.objects.items ≡ filter (is_data l.image) (take l.symbol-index l.image.symbols)
