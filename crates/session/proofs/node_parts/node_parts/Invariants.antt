use Rattle.std.proofs.Common.{◌≡◌, map, take}
use Rattle.session.specs.Parts.{node_part}
use Rattle.session.proofs.node_parts.node_parts.Given as goal

abbrev pub invariant-loop-node : goal.invariant-loop-node
invariant-loop-node l = l.parts.items ≡ map (node_part l.inputs) (take l.node-index l.nodes)
