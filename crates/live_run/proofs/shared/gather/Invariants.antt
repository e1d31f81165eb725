use Rattle.std.proofs.Common.{◌≡◌, ◌≤◌, [], length, vec_len, map}
use Rattle.std.specs.Prelude.{vec_capacity}
use Rattle.live_run.specs.declared.view.Book.{Book}
use Rattle.live_run.specs.Locked.{IsGathered}
use Rattle.live_run.specs.Seats.{SeatData}
use Rattle.live_run.specs.Views.{keeping}
use Rattle.live_run.proofs.shared.gather.Given as goal

abbrev pub invariant-loop-seat : goal.invariant-loop-seat
invariant-loop-seat g l = record {
  table : l.book.table_id ≡ g.I.RunName.word;
  free : l.book.me.1 ≡ [];
  gathered : (b : Book) → l.fn.book.me ≡ (keeping b, []) → IsGathered b l.yielded l.book.me.0;
  answer : map (λ v. v.items) l.answer.items ≡ map (λ (c : SeatData). c.receipts) l.yielded;
  count : vec_len l.answer ≡ length l.yielded;
  room : length l.fn.seats.items ≤ vec_capacity l.answer;
}
