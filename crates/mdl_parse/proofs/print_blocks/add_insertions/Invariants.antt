use Rattle.std.proofs.Common.{◌≡◌, ◌++◌, drop, map}
use Rattle.std.specs.List.{flat_map}
use Rattle.mdl_parse.specs.Printing.{line_text, insertion_line}
use Rattle.mdl_parse.proofs.print_blocks.add_insertions.Given as goal

abbrev pub invariant-loop-insertion : goal.invariant-loop-insertion
invariant-loop-insertion l =
    l.out.items ++ flat_map line_text (map (insertion_line l.level) (drop l.insertion-index l.insertions)) ≡ l.initial.out.items ++ flat_map line_text (map (insertion_line l.level) l.insertions)
