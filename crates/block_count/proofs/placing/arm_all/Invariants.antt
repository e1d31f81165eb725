use Rattle.std.proofs.Common.{◌≡◌, drop, map}
use Rattle.machine.specs.Replays.{Legal, replay}
use Rattle.block_count.specs.Course.{arming}
use Rattle.block_count.proofs.placing.arm_all.Given as goal

-- what is left can happen, and comes to the same end
abbrev pub invariant-loop-counter : goal.invariant-loop-counter
invariant-loop-counter l = record {
  may : Legal (map arming (map (λ c. c.now) (drop l.counter-index l.counters))) l.machine.core;
  all : replay (map arming (map (λ c. c.now) (drop l.counter-index l.counters))) l.machine.core ≡ replay (map arming (map (λ c. c.now) l.counters)) l.initial.machine.core;
}
