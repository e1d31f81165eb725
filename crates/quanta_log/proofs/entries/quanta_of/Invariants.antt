use Rattle.std.proofs.Common.{◌≡◌, ◌+◌, ◌-◌, ◌*◌, ◌++◌}
use Rattle.quanta_log.specs.Fields.{head_len, entry_len}
use Rattle.quanta_log.specs.Meaning.{quanta_at, entries_fault}
use Rattle.quanta_log.proofs.entries.quanta_of.Given as goal

abbrev pub invariant-loop : goal.invariant-loop
invariant-loop l = record {
  place : l.at ≡ head_len l.version + l.counter * entry_len l.version;
  fault : entries_fault l.version l.harts l.bytes (l.count - l.counter) l.at ≡ entries_fault l.version l.harts l.bytes l.count (head_len l.version);
  quanta : l.quanta.items ++ quanta_at l.version l.bytes (l.count - l.counter) l.at ≡ quanta_at l.version l.bytes l.count (head_len l.version);
}
