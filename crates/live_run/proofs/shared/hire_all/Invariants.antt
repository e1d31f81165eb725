use Rattle.std.proofs.Common.{◌≡◌, ◌≤◌, [], length, vec_len}
use Rattle.std.specs.Prelude.{vec_capacity}
use Rattle.live_run.specs.Seats.{fresh_seats}
use Rattle.live_run.specs.Views.{a_book, keeping}
use Rattle.live_run.proofs.shared.hire_all.Given as goal

abbrev pub invariant-loop-worker : goal.invariant-loop-worker
invariant-loop-worker g l = record {
  table : l.book.table_id ≡ g.I.RunName.word;
  me : l.book.me ≡ (keeping (a_book (length g.I.RunName.first) [] l.worker), []);
  seats : l.seats.items ≡ fresh_seats l.worker;
  count : vec_len l.seats ≡ l.worker;
  room : l.fn.workers ≤ vec_capacity l.seats;
}
