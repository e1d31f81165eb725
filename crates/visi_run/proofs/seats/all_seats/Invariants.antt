use Rattle.std.proofs.Common.{◌≡◌, ◌≤◌, length, vec_len, map, Ok}
use Rattle.std.specs.Prelude.{vec_capacity}
use Rattle.visi_run.proofs.seats.all_seats.Given as goal

abbrev pub invariant-loop-answer : goal.invariant-loop-answer
invariant-loop-answer l = record {
  seats : l.yielded ≡ map (λ x. Ok x) l.seats.items;
  count : vec_len l.seats ≡ length l.yielded;
  room : length l.fn.results.items ≤ vec_capacity l.seats;
}
