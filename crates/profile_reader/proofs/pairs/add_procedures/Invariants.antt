use Rattle.std.proofs.Common.{◌≡◌, ◌++◌, drop, flat_map}
use Rattle.profile_reader.specs.Pairs.{procedure_pairs}
use Rattle.profile_reader.proofs.pairs.add_procedures.Given as goal

-- the pairs so far, and those of the procedures that are left, are all
abbrev pub invariant-loop-procedure : goal.invariant-loop-procedure
invariant-loop-procedure l =
    l.pairs.items ++ flat_map procedure_pairs (drop l.procedure-index l.procedures)
    ≡ l.initial.pairs.items ++ flat_map procedure_pairs l.procedures
