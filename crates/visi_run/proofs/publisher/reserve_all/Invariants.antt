use Rattle.std.proofs.Common.{◌≡◌, take, vec_len}
use Rattle.visi_run.specs.Lanes.{alls_of, lines_of, HaveRoom}
use Rattle.visi_run.proofs.publisher.reserve_all.Given as goal

abbrev pub invariant-loop-i : goal.invariant-loop-i
invariant-loop-i l = record {
  alls : alls_of l.lanes.items ≡ alls_of l.fn.lanes.items;
  lines : lines_of l.lanes.items ≡ lines_of l.fn.lanes.items;
  room : HaveRoom l.fn.count (take l.i l.lanes.items);
  count : vec_len l.lanes ≡ l.i-end;
}
