use Rattle.tool_space.proofs.Gives.{join_in_order}
use Rattle.tool_space.proofs.hole.put.Goals as goal

pub join-requires-then-place-gt0-clause-order : goal.join-requires-then-place-gt0-clause-order
join-requires-then-place-gt0-clause-order c =
    rw c.join.ensures.holes (join_in_order c.insert-room_is_there.new.self.items c.args.place _ _
    (rw (c.insert-room_is_there.ensures.items, c.insert-room_is_there.ensures.succeeds c.requires.room) c.requires.order))
