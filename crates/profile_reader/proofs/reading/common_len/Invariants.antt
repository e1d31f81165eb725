use Rattle.std.proofs.Common.{◌≡◌, ◌+◌, ◌-◌, ◌≤◌, drop, length}
use Rattle.profile_reader.specs.Reading.{common_len}
use Rattle.profile_reader.proofs.reading.common_len.Given as goal

-- what is counted, and what the rests have in common, make all
abbrev pub invariant-loop-count : goal.invariant-loop-count
invariant-loop-count l = l.count + common_len (drop l.count l.one) (drop l.count l.other) ≡ common_len l.one l.other

abbrev pub decreases-loop-count : goal.decreases-loop-count
decreases-loop-count l = length l.one - l.count
