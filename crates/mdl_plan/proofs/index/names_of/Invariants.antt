use Rattle.std.proofs.Common.{◌≡◌, take}
use Rattle.mdl_plan.specs.Scopes.{names_of}
use Rattle.mdl_plan.proofs.index.names_of.Given as goal

abbrev pub invariant-loop-proc : goal.invariant-loop-proc
invariant-loop-proc l = l.names ≡ names_of (take l.proc-index l.procs)
