use Rattle.std.proofs.Common.{◌≡◌, take}
use Rattle.block_count.specs.Readings.{stops_seen}
use Rattle.block_count.proofs.reading.stops.Given as goal

abbrev pub invariant-loop-number : goal.invariant-loop-number
invariant-loop-number l = l.stops.items ≡ take l.number (stops_seen l.budget l.machine.core)
