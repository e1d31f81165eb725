use Rattle.std.proofs.Common.{◌≡◌, ◌++◌, ◌-◌}
use Rattle.std.specs.Prelude.{string_bytes}
use Rattle.stress_run.specs.Configuration.{wishes}
use Rattle.stress_run.proofs.configuration.wishes.Given as goal

-- what is written, and the wishes that are left, make all the wishes
abbrev pub invariant-loop-number : goal.invariant-loop-number
invariant-loop-number l = string_bytes l.text ++ wishes (l.count - l.number) l.number ≡ wishes l.count 0
