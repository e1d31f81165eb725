use Rattle.std.proofs.Common.{◌≡◌, map}
use Rattle.mdl_parse.specs.ButLines.{item_but_lines}
use Rattle.mdl_shipped.proofs.lines.but_lines.Given as goal

abbrev pub invariant-loop-item : goal.invariant-loop-item
invariant-loop-item l = l.items.items ≡ map item_but_lines l.yielded
