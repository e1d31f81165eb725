use Rattle.std.proofs.Common.{◌≡◌, ◌++◌, ◌-◌}
use Rattle.std.specs.Prelude.{string_bytes}
use Rattle.stress_run.specs.Program.{procedures}
use Rattle.stress_run.proofs.program.procedures.Given as goal

-- what is written, and the procedures that are left, make all the procedures
abbrev pub invariant-loop-number : goal.invariant-loop-number
invariant-loop-number l = string_bytes l.text ++ procedures (l.procs - l.number) l.number l.draws ≡ procedures l.procs 0 l.seed
