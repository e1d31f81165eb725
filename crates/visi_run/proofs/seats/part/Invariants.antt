use Rattle.std.proofs.Common.{◌≡◌, ◌≤◌, length, vec_len}
use Rattle.std.specs.Prelude.{vec_capacity}
use Rattle.atomic_table.specs.Seated.{TableId}
use Rattle.visi_run.specs.Streams.{watch_lines}
use Rattle.visi_run.specs.Gauges.{AreOf}
use Rattle.visi_run.specs.Watching.{seat_lines, AreSeatsOf}
use Rattle.visi_run.proofs.seats.part.Given as goal

abbrev pub invariant-loop-seat : goal.invariant-loop-seat
invariant-loop-seat l = record {
  lines : watch_lines l.views.items ≡ seat_lines l.yielded;
  readers : (cell : TableId) → AreSeatsOf cell l.yielded → AreOf cell l.readers.items;
  len : length l.readers.items ≡ length l.yielded;
  views_count : vec_len l.views ≡ length l.yielded;
  readers_count : vec_len l.readers ≡ length l.yielded;
  views_room : length l.fn.seats.items ≤ vec_capacity l.views;
  readers_room : length l.fn.seats.items ≤ vec_capacity l.readers;
}
