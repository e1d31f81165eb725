use Rattle.std.proofs.Common.{◌≡◌, vec_len}
use Rattle.visi_run.specs.Lanes.{alls_of, lines_of}
use Rattle.visi_run.proofs.publisher.offer_all.Given as goal

abbrev pub invariant-loop-i : goal.invariant-loop-i
invariant-loop-i g l = record {
  alls : alls_of l.lanes.items ≡ alls_of l.fn.lanes.items;
  lines : lines_of l.lanes.items ≡ lines_of l.fn.lanes.items;
  count : vec_len l.lanes ≡ l.i-end;
}
