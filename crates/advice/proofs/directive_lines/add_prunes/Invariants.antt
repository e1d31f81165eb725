use Rattle.std.proofs.Common.{◌≡◌, ◌++◌, drop, flat_map}
use Rattle.advice.specs.Directives.{prune_line}
use Rattle.advice.proofs.directive_lines.add_prunes.Given as goal

-- what is written, and the lines that are left, make all the lines
abbrev pub invariant-loop-one : goal.invariant-loop-one
invariant-loop-one l = l.out.items ++ flat_map prune_line (drop l.one-index l.hypotheses) ≡ l.initial.out.items ++ flat_map prune_line l.hypotheses
