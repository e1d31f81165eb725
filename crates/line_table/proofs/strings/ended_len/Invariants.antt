use Rattle.std.proofs.Common.{◌≡◌, ◌≤◌, length, drop}
use Rattle.line_table.specs.Strings.{ended_len}
use Rattle.line_table.proofs.strings.ended_len.Given as goal

abbrev pub invariant-loop-end : goal.invariant-loop-end
invariant-loop-end l = record { within : l.end ≤ length l.bytes; none : ended_len (drop l.end l.bytes) ≡ 0 }

abbrev pub decreases-loop-end : goal.decreases-loop-end
decreases-loop-end l = l.end
