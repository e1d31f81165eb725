-- Two instruments at one point come and go, and a third comes after them: what the book then is.
use Rattle.std.specs.Prelude.{◌≡◌, ℕ, true, false, Some, None, [], ◌∷◌}
use Rattle.tramp_spec.specs.Marks.{tool}
use Rattle.tramp_spec.specs.declared.block.Block.{Block}
use Rattle.instrument.specs.Books.{Book, base_room, mini_room, with_blocks, without_site, with_hold, leaving}
use Rattle.instrument.specs.declared.entry.Entry.TheVariants.{WriteBase, WriteMini, LinkMini, LinkPoint, UnlinkMini, UnlinkPoint, Free}
use Rattle.instrument.specs.declared.room.Room.{Room}

-- blocks at the point 0x10000, each of one word
abbrev pub a_base : ℕ → Block
a_base at = record { point = 0x10000; at = at; words = tool 0 ∷ []; base = true }

abbrev pub a_mini : ℕ → Block
a_mini at = record { point = 0x10000; at = at; words = tool 0 ∷ []; base = false }

-- the first gets a base block, which the second uses too; then both are dropped
abbrev pub two_come : Book
two_come =
    with_blocks 1 (record { base = None; mini = a_mini 0x11008 })
    (with_blocks 0 (record { base = Some (a_base 0x11000); mini = a_mini 0x11004 }) (record { rooms = []; agenda = [] }))

abbrev pub two_go : Book
two_go = without_site (mini_room 1 (a_mini 0x11008)) (without_site (mini_room 0 (a_mini 0x11004)) two_come)

-- the third gets a base block of its own, since the first one's unlinking was asked for
abbrev pub third_comes : Book
third_comes = with_blocks 2 (record { base = Some (a_base 0x1100c); mini = a_mini 0x11010 }) two_go

abbrev pub room_leaving : Room → Room
room_leaving x = with_hold (λ y. leaving y.hold) x

-- The point is unlinked at the second dropping, and not at the first.
pub record ComesAndGoes : Type 0 where
  pub rooms : third_comes.rooms
      ≡ room_leaving (base_room (a_base 0x11000)) ∷ room_leaving (mini_room 0 (a_mini 0x11004))
      ∷ room_leaving (mini_room 1 (a_mini 0x11008)) ∷ base_room (a_base 0x1100c) ∷ mini_room 2 (a_mini 0x11010) ∷ []
  pub agenda : third_comes.agenda
      ≡ WriteBase (a_base 0x11000) ∷ WriteMini (a_mini 0x11004) ∷ LinkMini 0x10000 0x11004 ∷ LinkPoint 0x10000 0x11000
      ∷ WriteMini (a_mini 0x11008) ∷ LinkMini 0x10000 0x11008
      ∷ UnlinkMini 0x10000 0x11004 ∷ Free 0x10000
      ∷ UnlinkMini 0x10000 0x11008 ∷ UnlinkPoint 0x10000 0x11000 ∷ Free 0x10000
      ∷ WriteBase (a_base 0x1100c) ∷ WriteMini (a_mini 0x11010) ∷ LinkMini 0x10000 0x11010 ∷ LinkPoint 0x10000 0x1100c ∷ []
