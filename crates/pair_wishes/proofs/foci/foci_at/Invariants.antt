use Rattle.std.proofs.Common.{◌≡◌, ◌++◌, drop, flat_map}
use Rattle.pair_wishes.specs.Foci.{focus_at}
use Rattle.pair_wishes.proofs.foci.foci_at.Given as goal

-- the foci so far, and those of the nodes that are left, are all
abbrev pub invariant-loop-node : goal.invariant-loop-node
invariant-loop-node l = l.foci.items ++ flat_map (focus_at l.focus) (drop l.node-index l.nodes) ≡ flat_map (focus_at l.focus) l.nodes
