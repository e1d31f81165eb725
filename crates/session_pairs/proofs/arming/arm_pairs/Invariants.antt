use Rattle.std.proofs.Common.{◌≡◌, length}
use Rattle.std.specs.Prelude.{drop, vec_capacity, vec_len}
use Rattle.machine.specs.Events.{IsQuiet}
use Rattle.session_pairs.proofs.Armings.{AreArmed}
use Rattle.session_pairs.proofs.Places.{Walk}
use Rattle.session_pairs.proofs.arming.arm_pairs.Given as goal

abbrev pub invariant-loop-turn : goal.invariant-loop-turn
invariant-loop-turn l = record {
  walk : Walk (AreArmed l.fn.time l.fn.machine.state l.fn.pairs.all.items (length l.fn.machine.state.core.harts) l.machine.state) l.machine.state.placer l.pairs.all.items (drop l.turn l.pairs.live.items);
  ready : l.machine.ready ≡ l.fn.machine.ready;
  live : l.pairs.live ≡ l.fn.pairs.live;
  many : vec_len l.pairs.all ≡ vec_len l.fn.pairs.all;
  capacity : vec_capacity l.pairs.all ≡ vec_capacity l.fn.pairs.all;
  quiet : IsQuiet l.machine.state.core;
  same : length l.machine.state.core.harts ≡ length l.fn.machine.state.core.harts;
  places : length l.sample.readings ≡ length l.fn.sample.readings;
}
