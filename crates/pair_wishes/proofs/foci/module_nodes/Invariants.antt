use Rattle.std.proofs.Common.{◌≡◌, ◌++◌, drop, map}
use Rattle.first_places.specs.Groups.{first_mentions}
use Rattle.pair_wishes.specs.Foci.{module_node}
use Rattle.pair_wishes.proofs.foci.module_nodes.Given as goal

-- the nodes that were seen, and those of the procedures that are left, are all, and of those seen each is taken once
abbrev pub invariant-loop-proc : goal.invariant-loop-proc
invariant-loop-proc l =
    (l.seen ++ map module_node (map (λ proc. proc.now) (drop l.proc-index l.procs)) ≡ map module_node (map (λ proc. proc.now) l.procs))
    × (l.distinct.items ≡ first_mentions l.seen)
