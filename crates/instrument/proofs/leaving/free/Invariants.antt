use Rattle.std.proofs.Common.{length}
use Rattle.instrument.proofs.Freed.{IsFreeing}
use Rattle.instrument.proofs.leaving.free.Given as goal

abbrev pub invariant-loop-room : goal.invariant-loop-room
invariant-loop-room l = IsFreeing l.point l.initial.text l.text l.initial.roster l.roster

abbrev pub decreases-loop-room : goal.decreases-loop-room
decreases-loop-room l = length l.text.book.rooms
