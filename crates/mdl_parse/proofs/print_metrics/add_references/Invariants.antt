use Rattle.std.proofs.Common.{◌≡◌, ◌++◌, drop, map}
use Rattle.std.specs.List.{flat_map}
use Rattle.mdl_parse.specs.Printing.{line_text, reference_line}
use Rattle.mdl_parse.proofs.print_metrics.add_references.Given as goal

abbrev pub invariant-loop-name : goal.invariant-loop-name
invariant-loop-name l =
    l.out.items ++ flat_map line_text (map reference_line (drop l.name-index l.names)) ≡ l.initial.out.items ++ flat_map line_text (map reference_line l.names)
