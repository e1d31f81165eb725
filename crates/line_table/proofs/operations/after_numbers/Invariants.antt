use Rattle.std.proofs.Common.{◌≡◌, ◌-◌, ◌≤◌, length}
use Rattle.line_table.specs.Programs.{after_numbers}
use Rattle.line_table.proofs.operations.after_numbers.Given as goal

-- the numbers that are left lead to the same place
abbrev pub invariant-loop : goal.invariant-loop
invariant-loop l = record {
  forward : l.at ≤ l.next;
  within : l.next ≤ length l.bytes;
  left : after_numbers (l.count - l.counter) l.bytes l.next ≡ after_numbers l.count l.bytes l.at;
}
