use Rattle.std.proofs.Common.{◌≡◌, ◌++◌, ◌-◌}
use Rattle.std.specs.Prelude.{string_bytes}
use Rattle.stress_run.specs.Program.{calls}
use Rattle.stress_run.proofs.program.calls.Given as goal

-- what is written, and the calls that are left, make all the calls
abbrev pub invariant-loop-number : goal.invariant-loop-number
invariant-loop-number l = string_bytes l.text ++ calls (l.procs - l.number) l.number ≡ calls l.procs 0
