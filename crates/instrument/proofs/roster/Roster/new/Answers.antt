use Rattle.std.proofs.Common.{◌∙◌, ap}
use Rattle.tool_space.specs.Rooms.{new_space}
use Rattle.instrument.proofs.Slotted.{roster_new}
use Rattle.instrument.proofs.roster.Roster.new.Goals as goal

pub invariant_of-result : goal.invariant_of-result
invariant_of-result c = roster_new _ _ _ _ (c.in_ok-new.ensures ∙ ap (λ n. new_space n 4094) c.from.ensures) c.new.ensures.items c.new.ensures.len
