use Rattle.std.proofs.Common.{◌≡◌, ◌+◌, ◌-◌, ◌*◌, ◌≤◌, ◌^◌}
use Rattle.std.specs.List.{range_with_len}
use Rattle.session_spec.specs.Readings.{ticks_between, ticks_of}
use Rattle.session_pairs.proofs.marking.ticks_since.Given as goal

abbrev pub invariant-loop-hart : goal.invariant-loop-hart
invariant-loop-hart l = record {
  ahead : l.first ≤ l.hart;
  coming : l.ticks + ticks_between (range_with_len l.hart (l.first + l.count - l.hart)) l.marks (ticks_of l.fn.machine.state)
      ≡ ticks_between (range_with_len l.first l.count) l.marks (ticks_of l.fn.machine.state);
  few : l.ticks ≤ (l.hart - l.first) * 2 ^ 58;
}
