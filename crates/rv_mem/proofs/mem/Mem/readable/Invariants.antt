use Rattle.std.proofs.Common.{◌≡◌, ◌-◌, Err, IsOk}
use Rattle.rv_word.specs.Memory.{bytes_at}
use Rattle.rv_word.specs.declared.outcome.MemStop.{MemStop}
use Rattle.rv_mem.proofs.mem.Mem.readable.Given as goal

abbrev pub invariant-loop-i : goal.invariant-loop-i
invariant-loop-i l = record {
  refuses : (e : MemStop) → bytes_at (l.n - l.i) l.self l.next ≡ Err e → bytes_at l.n l.self l.at ≡ Err e;
  reads : IsOk (bytes_at (l.n - l.i) l.self l.next) → IsOk (bytes_at l.n l.self l.at);
}
