use Rattle.std.proofs.Common.{◌≡◌, ◌++◌, drop}
use Rattle.report_diff.specs.Verdicts.{node_names}
use Rattle.report_diff.proofs.nodes.node_names.Given as goal

-- the names so far, and those that are left, are all
abbrev pub invariant-loop-part : goal.invariant-loop-part
invariant-loop-part l = l.names.items ++ node_names (drop l.part-index l.parts) ≡ node_names l.parts
