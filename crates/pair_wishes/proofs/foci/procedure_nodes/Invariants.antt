use Rattle.std.proofs.Common.{◌≡◌, ◌++◌, drop, map}
use Rattle.pair_wishes.specs.Foci.{procedure_node}
use Rattle.pair_wishes.proofs.foci.procedure_nodes.Given as goal

-- the nodes so far, and those of the procedures that are left, are all
abbrev pub invariant-loop-proc : goal.invariant-loop-proc
invariant-loop-proc l = l.nodes.items ++ map procedure_node (map (λ proc. proc.now) (drop l.proc-index l.procs)) ≡ map procedure_node (map (λ proc. proc.now) l.procs)
