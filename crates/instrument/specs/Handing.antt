-- What an entry of the agenda is in the machine, when it is done.
use Rattle.std.specs.Prelude.{ℕ, ◌==◌, ◌&&◌, Bool, Option, Some, None}
use Rattle.std.specs.List.{list_any}
use Rattle.tramp_spec.specs.Blocks.{mini_words}
use Rattle.tramp_spec.specs.Codes.{Code}
use Rattle.tramp_spec.specs.declared.block.Block.{Block}
use Rattle.machine.specs.Cores.{Row, Core}
use Rattle.machine.specs.Events as events
use Rattle.machine.specs.Events.{Event, current_base, next_of}
use Rattle.machine.specs.Places.{holds}
use Rattle.machine.specs.Instruments.{body_of_block}
use Rattle.instrument.specs.declared.entry.Entry.{Entry}
use Rattle.instrument.specs.declared.entry.Entry.TheVariants.{WriteBase, WriteMini, LinkMini, LinkPoint, UnlinkMini, UnlinkPoint, Free}

-- to where the head of a base block leads
abbrev pub head_of : Code → Option Row → ℕ
head_of code None = 0
head_of code (Some b) = next_of code b

-- a mini block that leads on to an address
abbrev pub leading : Block → ℕ → Block
leading b next = record b { words = mini_words b.at (body_of_block b) next }

-- A mini block is written so that it leads on to where the head of its point's base block leads just then.
abbrev pub event_of : Core → Entry → Event
event_of c (WriteBase b) = events.Write b
event_of c (WriteMini b) = events.Write (leading b (head_of c.code (current_base c.rows b.point)))
event_of c (LinkMini p m) = events.LinkMini p m
event_of c (LinkPoint p m) = events.LinkPoint p
event_of c (UnlinkMini p m) = events.UnlinkMini p m
event_of c (UnlinkPoint p m) = events.UnlinkPoint p
event_of c (Free p) = events.Free p

-- a hart is inside a block of the point
abbrev pub is_barred : Core → ℕ → Bool
is_barred c p = list_any (λ r. (r.point == p) && list_any (λ x. x.inside && holds r x.pc) c.harts) c.rows
