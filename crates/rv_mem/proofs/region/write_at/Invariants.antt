use Rattle.std.proofs.Common.{◌≡◌, ◌+◌, ◌-◌, length}
use Rattle.rv_mem.specs.Regions.{with_number}
use Rattle.rv_mem.proofs.region.write_at.Given as goal

abbrev pub invariant-loop-i : goal.invariant-loop-i
invariant-loop-i l = record {
  written : with_number (l.n - l.i) l.bytes (l.place + l.i) l.rest ≡ with_number l.n l.initial.bytes l.place l.v;
  same_length : length l.bytes ≡ length l.initial.bytes;
}
