use Rattle.std.proofs.Common.{◌≡◌, ◌++◌, drop}
use Rattle.report.specs.SearchTexts.{node_lines}
use Rattle.report.proofs.search_lines.add_nodes.Given as goal

-- what is written, and the lines that are left, make all the lines
abbrev pub invariant-loop-number : goal.invariant-loop-number
invariant-loop-number l = l.out.items ++ node_lines l.window l.number (drop l.number l.parts) ≡ l.initial.out.items ++ node_lines l.window 0 l.parts
