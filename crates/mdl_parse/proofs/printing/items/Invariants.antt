use Rattle.std.proofs.Common.{◌≡◌, ◌++◌, drop}
use Rattle.std.specs.List.{flat_map}
use Rattle.mdl_parse.specs.Printing.{line_text, item_lines}
use Rattle.mdl_parse.proofs.printing.items.Given as goal

abbrev pub invariant-loop-item : goal.invariant-loop-item
invariant-loop-item l = l.out.items ++ flat_map line_text (flat_map item_lines (drop l.item-index l.items)) ≡ flat_map line_text (flat_map item_lines l.items)
