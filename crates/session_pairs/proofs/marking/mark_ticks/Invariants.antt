use Rattle.std.proofs.Common.{◌≡◌}
use Rattle.std.specs.Prelude.{take, vec_capacity, vec_len}
use Rattle.session_spec.specs.Readings.{ticks_of}
use Rattle.session_pairs.proofs.marking.mark_ticks.Given as goal

abbrev pub invariant-loop-hart : goal.invariant-loop-hart
invariant-loop-hart l = record {
  done : take l.hart l.marks.items ≡ take l.hart (ticks_of l.fn.machine.state);
  many : vec_len l.marks ≡ vec_len l.fn.marks;
  capacity : vec_capacity l.marks ≡ vec_capacity l.fn.marks;
}
