use Rattle.std.proofs.Common.{◌≡◌, ◌++◌, drop}
use Rattle.std.specs.Prelude.{None}
use Rattle.std.specs.Option.{option_map}
use Rattle.report_picture.specs.TreeLines.{lines_from}
use Rattle.report_picture.proofs.tree_lines.lines_of.Given as goal

-- the lines so far, and those that are left, are all
abbrev pub invariant-loop-place : goal.invariant-loop-place
invariant-loop-place l =
    l.lines.items ++ lines_from l.parts (option_map (λ phase. phase.now) l.before) (drop l.place l.rows) ≡ lines_from l.parts None l.rows
