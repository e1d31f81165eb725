use Rattle.std.proofs.Common.{◌≡◌, ◌++◌, drop, flat_map}
use Rattle.profile_text.specs.Callgrind.{procedure_costs}
use Rattle.profile_text.proofs.callgrind.add_procedures.Given as goal

-- what is written, and the lines that are left, make all the lines
abbrev pub invariant-loop-proc : goal.invariant-loop-proc
invariant-loop-proc l =
    l.out.items ++ flat_map (procedure_costs l.text.image.now l.text.profile.now) (drop l.proc-index l.procs)
    ≡ l.initial.out.items ++ flat_map (procedure_costs l.text.image.now l.text.profile.now) l.procs
