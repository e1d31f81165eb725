use Rattle.std.proofs.Common.{◌≡◌, ◌++◌, drop}
use Rattle.std.specs.Prelude.{None}
use Rattle.std.specs.Option.{option_map}
use Rattle.report_view.specs.Searches.{tree_lines}
use Rattle.report_view.proofs.tree_lines.add_tree.Given as goal

-- what is written, and the lines that are left, make all the lines
abbrev pub invariant-loop-row : goal.invariant-loop-row
invariant-loop-row l =
    l.out.items ++ tree_lines l.parts (option_map (λ phase. phase.now) l.before) (drop l.row-index l.rows)
    ≡ l.initial.out.items ++ tree_lines l.parts None l.rows
