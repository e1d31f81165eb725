use Rattle.std.proofs.Common.{◌≡◌, ◌+◌, ◌≤◌, ◌++◌, drop, length}
use Rattle.std.specs.Prelude.{vec_capacity, vec_len}
use Rattle.instrument.specs.Admission as table
use Rattle.instrument.proofs.slots.slots_from.Given as goal

abbrev pub invariant-loop-var : goal.invariant-loop-var
invariant-loop-var l = record {
  slots : l.slots.items ++ table.slots_from l.slot (drop l.var-index l.vars) ≡ table.slots_from l.first l.vars;
  count : l.slot + table.slot_count (drop l.var-index l.vars) ≡ l.first + table.slot_count l.vars;
  len : vec_len l.slots ≡ l.var-index;
  room : length l.vars ≤ vec_capacity l.slots;
}
