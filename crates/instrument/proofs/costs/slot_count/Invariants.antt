use Rattle.std.proofs.Common.{◌≡◌, ◌+◌, drop}
use Rattle.instrument.specs.Admission as table
use Rattle.instrument.proofs.costs.slot_count.Given as goal

abbrev pub invariant-loop-var : goal.invariant-loop-var
invariant-loop-var l = l.slots + table.slot_count (drop l.var-index l.vars) ≡ table.slot_count l.vars
