use Rattle.std.proofs.Common.{◌≡◌, ◌≤◌, take, map, length, vec_len}
use Rattle.std.specs.Prelude.{vec_capacity}
use Rattle.visi_run.specs.Lanes.{alls_of, lines_of}
use Rattle.visi_run.proofs.publisher.settle_all.Given as goal

abbrev pub invariant-loop-watch : goal.invariant-loop-watch
invariant-loop-watch g l = record {
  alls : alls_of l.lanes.items ≡ alls_of l.fn.lanes.items;
  lines : lines_of l.lanes.items ≡ lines_of l.fn.lanes.items;
  at : l.i ≡ length l.yielded;
  lists : map (λ v. v.items) l.lists.items ≡ take l.i (alls_of l.fn.lanes.items);
  count : vec_len l.lists ≡ l.i;
  room : length l.fn.views.items ≤ vec_capacity l.lists;
}
