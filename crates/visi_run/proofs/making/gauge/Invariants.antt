use Rattle.std.proofs.Common.{◌≡◌, ◌≤◌, [], length, vec_len}
use Rattle.std.specs.Prelude.{vec_capacity}
use Rattle.crossbeam_utils.specs.Seq.{cell_view}
use Rattle.std.specs.List.{AllByRecursion}
use Rattle.visi_run.specs.Sights.{opening_sight}
use Rattle.visi_run.specs.Gauges.{AreOf, Reader}
use Rattle.visi_run.proofs.making.gauge.Given as goal

abbrev pub invariant-loop-reader : goal.invariant-loop-reader
invariant-loop-reader l = record {
  table : l.pass.table_id ≡ l.cell.table.shared.table_id;
  view : cell_view l.pass ≡ opening_sight;
  of : AreOf l.cell.table.shared.table_id l.all.items;
  fresh : AllByRecursion (λ (x : Reader). x.list ≡ []) l.all.items;
  count : vec_len l.all ≡ l._reader;
  len : length l.all.items ≡ l._reader;
  room : l.fn.readers ≤ vec_capacity l.all;
}
