use Rattle.std.proofs.Common.{◌≡◌, ◌≤◌, length, drop}
use Rattle.line_table.specs.Paths.{values_from, no_values}
use Rattle.line_table.proofs.forms.entry_at.Given as goal

-- the values that are left give the same entry
abbrev pub invariant-loop-format : goal.invariant-loop-format
invariant-loop-format l = record {
  forward : l.at ≤ l.next;
  within : l.next ≤ length l.bytes;
  left : values_from l.ends (drop l.format-index l.formats) l.bytes l.entry l.next ≡ values_from l.ends l.formats l.bytes no_values l.at;
}
