use Rattle.std.proofs.Common.{◌≡◌, ◌≤◌, ◌+◌, length, vec_len}
use Rattle.std.specs.Prelude.{vec_capacity}
use Rattle.atomic_table.specs.Seated.{TableId}
use Rattle.visi_run.specs.Streams.{watch_lines}
use Rattle.visi_run.specs.Gauges.{AreOf}
use Rattle.visi_run.specs.Watching.{seat_lines, AreSeatsOf}
use Rattle.visi_run.proofs.seats.pair.Given as goal

abbrev pub invariant-loop-view : goal.invariant-loop-view
invariant-loop-view l = record {
  lines : seat_lines l.seats.items ≡ watch_lines l.yielded;
  seats : (cell : TableId) → AreOf cell l.fn.readers.items → AreSeatsOf cell l.seats.items;
  left : (cell : TableId) → AreOf cell l.fn.readers.items → AreOf cell l.readers.items;
  readers : length l.readers.items + length l.yielded ≡ length l.fn.views.items;
  parkers : length l.parkers.items + length l.yielded ≡ length l.fn.views.items;
  count : vec_len l.seats ≡ length l.yielded;
  room : length l.fn.views.items ≤ vec_capacity l.seats;
}
