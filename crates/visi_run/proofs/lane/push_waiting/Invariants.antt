use Rattle.std.proofs.Common.{◌≡◌, ◌+◌, ◌≤◌, ◌++◌, length, take}
use Rattle.std.specs.VecDeque.{deque_len, deque_capacity}
use Rattle.visi_run.proofs.lane.push_waiting.Given as goal

abbrev pub invariant-loop-item : goal.invariant-loop-item
invariant-loop-item l = record {
  items : l.waiting.items ≡ l.fn.waiting.items ++ take l.item-index l.items;
  room : length l.items + deque_len l.waiting ≤ deque_capacity l.waiting + l.item-index;
}
