use Rattle.std.proofs.Common.{◌≡◌, ◌++◌, drop, flat_map}
use Rattle.report_diff.specs.Matches.{alone_text}
use Rattle.report_diff.specs.Verdicts.{lone_true_node}
use Rattle.report_diff.proofs.nodes.add_lone_true_nodes.Given as goal

-- what is written, and the lines that are left, make all the lines
abbrev pub invariant-loop-found : goal.invariant-loop-found
invariant-loop-found l = l.out.items ++ flat_map (alone_text (lone_true_node l.report) l.parts) (drop l.found-index l.matches) ≡ l.initial.out.items ++ flat_map (alone_text (lone_true_node l.report) l.parts) l.matches
