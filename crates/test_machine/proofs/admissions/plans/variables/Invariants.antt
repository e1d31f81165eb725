use Rattle.std.proofs.Common.{◌≡◌, ◌*◌, length}
use Rattle.std.specs.Prelude.{if◌then◌else◌}
use Rattle.instrument.specs.Admission.{slot_count}
use Rattle.test_machine.proofs.admissions.plans.variables.Given as goal

abbrev pub invariant-loop : goal.invariant-loop
invariant-loop l = record { slots : slot_count l.vars.items ≡ (if l.timers then 2 else 1) * l.counter; len : length l.vars.items ≡ l.counter }
