use Rattle.std.proofs.Common.{◌≡◌, take}
use Rattle.block_count.specs.Readings.{ticks_seen}
use Rattle.block_count.proofs.reading.ticks.Given as goal

abbrev pub invariant-loop-number : goal.invariant-loop-number
invariant-loop-number l = l.ticks.items ≡ take l.number (ticks_seen l.machine.core)
