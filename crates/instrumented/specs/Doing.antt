-- For proofs alone: what is handed out of the agenda, when it can be done, and how many blocks it writes.
use Rattle.std.specs.Prelude.{ℕ, ◌+◌, ◌*◌, ◌<◌, ◌^◌, IsSome, Bool, true, false, List, [], ◌∷◌, length}
use Rattle.tramp_spec.specs.declared.block.Block.{Block}
use Rattle.machine.specs.Cores.{Core}
use Rattle.machine.specs.Effects.{after_event}
use Rattle.machine.specs.Events as events
use Rattle.machine.specs.Events.{May, MayWrite, current_base}
use Rattle.instrument.specs.Handing.{head_of, is_barred, leading}
use Rattle.instrument.specs.Placements.{Placements, freed, put_back}
use Rattle.instrument.specs.Shown.{shown}
use Rattle.instrument.specs.declared.entry.Entry.{Entry}
use Rattle.instrument.specs.declared.event.Event.{Event}
use Rattle.instrument.specs.declared.event.Event.TheVariants.{WriteBase, WriteMini, LinkMini, LinkPoint, UnlinkMini, UnlinkPoint, Free}

-- ---- blocks to be written

abbrev pub writes : Event → ℕ
writes (WriteBase b) = 1
writes (WriteMini b) = 1
writes (LinkMini p m) = 0
writes (LinkPoint p) = 0
writes (UnlinkMini p m) = 0
writes (UnlinkPoint p) = 0
writes (Free p) = 0

abbrev pub writes_in : List Entry → ℕ
writes_in [] = 0
writes_in (e ∷ es) = writes (shown e) + writes_in es

-- ---- the machine's event

-- the mini block as it is written: it leads on to where its point's head leads
abbrev pub led : Core → Block → Block
led c b = leading b (head_of c.code (current_base c.rows b.point))

abbrev pub machine_event : Core → Event → events.Event
machine_event c (WriteBase b) = events.Write b
machine_event c (WriteMini b) = events.Write (led c b)
machine_event c (LinkMini p m) = events.LinkMini p m
machine_event c (LinkPoint p) = events.LinkPoint p
machine_event c (UnlinkMini p m) = events.UnlinkMini p m
machine_event c (UnlinkPoint p) = events.UnlinkPoint p
machine_event c (Free p) = events.Free p

-- a mini block can be written so that it follows the head of its point
pub record CanWriteMini (c : Core) (b : Block) : Type 0 where
  pub some : 0 < length b.words
  pub low : b.at + 4 * length b.words < 2 ^ 63
  pub base : IsSome (current_base c.rows b.point)
  pub may : MayWrite c (led c b)

-- what is handed out can be done; a Free that a hart bars is put back
abbrev pub IsDoable : Core → Event → Type 0
IsDoable c (WriteBase b) = MayWrite c b
IsDoable c (WriteMini b) = CanWriteMini c b
IsDoable c (LinkMini p m) = May c (events.LinkMini p m)
IsDoable c (LinkPoint p) = May c (events.LinkPoint p)
IsDoable c (UnlinkMini p m) = May c (events.UnlinkMini p m)
IsDoable c (UnlinkPoint p) = May c (events.UnlinkPoint p)
IsDoable c (Free p) = Unit {0}

-- ---- a Free

abbrev pub freed_core : Bool → ℕ → Core → Core
freed_core true p c = c
freed_core false p c = after_event c (events.Free p)

abbrev pub freed_placements : Bool → ℕ → Placements → Placements
freed_placements true p q = put_back p q
freed_placements false p q = freed p q

-- ---- what doing it makes

abbrev pub handed_core : Core → Event → Core
handed_core c (WriteBase b) = after_event c (events.Write b)
handed_core c (WriteMini b) = after_event c (events.Write (led c b))
handed_core c (LinkMini p m) = after_event c (events.LinkMini p m)
handed_core c (LinkPoint p) = after_event c (events.LinkPoint p)
handed_core c (UnlinkMini p m) = after_event c (events.UnlinkMini p m)
handed_core c (UnlinkPoint p) = after_event c (events.UnlinkPoint p)
handed_core c (Free p) = freed_core (is_barred c p) p c

abbrev pub handed_placements : Core → Event → Placements → Placements
handed_placements c (WriteBase b) q = q
handed_placements c (WriteMini b) q = q
handed_placements c (LinkMini p m) q = q
handed_placements c (LinkPoint p) q = q
handed_placements c (UnlinkMini p m) q = q
handed_placements c (UnlinkPoint p) q = q
handed_placements c (Free p) q = freed_placements (is_barred c p) p q
