use Rattle.std.proofs.Common.{◌≡◌, [], length}
use Rattle.session_spec.specs.declared.data.LatestSample.{LatestSample}
use Rattle.std.specs.Prelude.{List}
use Rattle.std.specs.List.{AllByRecursion}
use Rattle.visi_run.specs.Streams.{Watch, watch_lines}
use Rattle.visi_run.specs.Lanes.{lines_of, alls_of}
use Rattle.visi_run.proofs.publisher.open_all.Given as goal

abbrev pub invariant-loop-view : goal.invariant-loop-view
invariant-loop-view l = record {
  count : length l.lanes.items ≡ l._view;
  lines : watch_lines l.watches.items ≡ lines_of l.lanes.items;
  none : AllByRecursion (λ (xs : List LatestSample). xs ≡ []) (alls_of l.lanes.items);
  fresh : AllByRecursion (λ (w : Watch). w.taken ≡ []) l.watches.items;
}
