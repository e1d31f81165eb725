use Rattle.std.proofs.Common.{◌≡◌, ◌≤◌, length, map, take}
use Rattle.std.specs.VecDeque.{deque_capacity, deque_len}
use Rattle.prim_code.specs.Counts.{site_words}
use Rattle.instrument.proofs.site_memory.buffers_for.Given as goal

abbrev pub invariant-loop-site : goal.invariant-loop-site
invariant-loop-site l = record {
  buffers : l.buffers.items ≡ map site_words (take l.site-index l.sites);
  len : deque_len l.buffers ≡ l.site-index;
  capacity : length l.sites ≤ deque_capacity l.buffers;
}
