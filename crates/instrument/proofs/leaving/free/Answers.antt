use Rattle.instrument.proofs.Freed.{freeing_ended, freeing_mini, of_parts}
use Rattle.instrument.proofs.leaving.free.Goals as goal

pub loop-room-preserved-then-not-room : goal.loop-room-preserved-then-not-room
loop-room-preserved-then-not-room c =
    let e = c.in-Some.ensures in
    freeing_mini c.args.point c.in-Some.room c.args.text.now c.loop-room.text c.take_unlinked.new.self c.args.roster.now c.loop-room.roster c.settle.new.roster c.loop-room.invariant e.taken
    (record { program = e.program; agenda = e.agenda; spare = e.spare; takes = e.takes; entries = e.entries }) c.settle.ensures

pub returns-clause-roster : goal.returns-clause-roster
returns-clause-roster c =
    let k = c.loop-room.invariant in
    of_parts c.loop-room.roster _ c.args.roster.now.room c.args.roster.now.takes (freeing_ended c.args.point c.args.text.now c.loop-room.text c.args.roster.now c.loop-room.roster k c.in_default.ensures.none) k.room k.slots
