use Rattle.std.proofs.Common.{◌≡◌, ◌+◌, ◌-◌, ◌≤◌, length}
use Rattle.std.specs.Prelude.{drop, vec_len, vec_capacity}
use Rattle.session_pairs.proofs.Places.{Walk}
use Rattle.session_pairs.proofs.Walks.{AreSampled}
use Rattle.session_pairs.proofs.sampling.sample_pairs.Given as goal

abbrev pub invariant-loop-turn : goal.invariant-loop-turn
invariant-loop-turn l = record {
  walk : Walk (AreSampled l.fn.machine.state l.fn.time l.marks l.fn.pairs.all.items l.fn.latest.items l.fn.tests.items l.latest.items l.tests.items l.wished) l.fn.machine.state.placer
      l.pairs.all.items (drop l.turn l.pairs.live.items);
  live : l.pairs.live ≡ l.fn.pairs.live;
  few : vec_len l.pairs.live ≤ vec_len l.pairs.all;
  wished : l.wished ≤ l.turn;
  many : vec_len l.pairs.all ≡ vec_len l.fn.pairs.all;
  capacity : vec_capacity l.pairs.all ≡ vec_capacity l.fn.pairs.all;
  no_less : vec_capacity l.fn.latest ≤ vec_capacity l.latest;
  tests_no_less : vec_capacity l.fn.tests ≤ vec_capacity l.tests;
  room : vec_len l.latest + (vec_len l.pairs.all - l.turn) ≤ vec_capacity l.latest;
  test_room : vec_len l.tests + (vec_len l.pairs.all - l.turn) ≤ vec_capacity l.tests;
  places : length l.sample.readings ≡ length l.fn.sample.readings;
}
