use Rattle.std.proofs.Common.{◌≡◌, ◌*◌, ◌≤◌, ◌-◌, drop, length, map}
use Rattle.std.specs.List.{flat_map}
use Rattle.machine.specs.Replays.{Legal, replay}
use Rattle.block_count.specs.Course.{placing}
use Rattle.block_count.proofs.placing.place_all.Given as goal

-- what is left can happen, and comes to the same end
abbrev pub invariant-loop-counter : goal.invariant-loop-counter
invariant-loop-counter l = record {
  may : Legal (flat_map placing (map (λ c. c.now) (drop l.counter-index l.counters))) l.machine.core;
  room : 2 * (length l.counters - l.counter-index) ≤ l.machine.room;
  all : replay (flat_map placing (map (λ c. c.now) (drop l.counter-index l.counters))) l.machine.core ≡ replay (flat_map placing (map (λ c. c.now) l.counters)) l.initial.machine.core;
}
