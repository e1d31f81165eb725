use Rattle.std.proofs.Common.{◌≡◌, true}
use Rattle.crossbeam_utils.specs.Seq.{cell_view}
use Rattle.visi_run.specs.Sights.{sight}
use Rattle.visi_run.specs.Gauges.{lists_of}
use Rattle.visi_run.proofs.dial.take_in.Given as goal

abbrev pub invariant-loop-reader : goal.invariant-loop-reader
invariant-loop-reader l = record {
  table : l.writer.table_id ≡ l.cell.table.shared.table_id;
  view : cell_view l.writer ≡ sight true (cell_view l.fn.writer).wrote (lists_of l.yielded);
}
