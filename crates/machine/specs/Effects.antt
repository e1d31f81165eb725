-- What the events make of the patched machine. All that isn't named stays.
use Rattle.std.specs.Prelude.{ℕ, ◌==◌, ◌&&◌, not, if◌then◌else◌, Bool, Option, Some, None, List, [], ◌∷◌, ◌++◌, map, filter, length}
use Rattle.std.specs.FinMap.{insert}
use Rattle.pn_types.specs.declared.placed.Placed.{Placed}
use Rattle.rv_word.specs.Memory.{Memory}
use Rattle.rv_word.specs.Plain.{program_word}
use Rattle.tramp_spec.specs.Codes.{Code, put_words}
use Rattle.tramp_spec.specs.Marks.{own, enter, tool}
use Rattle.tramp_spec.specs.Jumps.{jump_word}
use Rattle.tramp_spec.specs.Slots.{places_of, set_places}
use Rattle.tramp_spec.specs.Harts.{Hart}
use Rattle.tramp_spec.specs.declared.block.Block.{Block}
use Rattle.frame_walk.specs.Openings.{opening}
use Rattle.frame_walk.specs.Walks.{start_of, walk_from}
use Rattle.machine.specs.Cores.{Status, Written, Live, Retired, Row, Core, is_current}
use Rattle.machine.specs.Turns.{turn, ticks_next}
use Rattle.machine.specs.Events.{Event, Turn, Write, LinkMini, UnlinkMini, LinkPoint, UnlinkPoint, Free, Arm, Sample, current_base, row_at, link_at, next_of, is_linked, before}

-- ---- words and blocks

-- the word that leads from a block to the next leads to an address
abbrev pub lead_to : Row → ℕ → Code → Code
lead_to r target code = insert code (link_at r) (tool (jump_word (link_at r) target))

abbrev pub row_of : Block → Row
row_of b = record { point = b.point; at = b.at; len = length b.words; base = b.base; status = Written }

-- blocks change their status alone
abbrev pub with_status : (Row → Status) → Row → Row
with_status f r = record r { status = f r }

-- the block at m has a status
abbrev pub at_set : ℕ → Status → Row → Status
at_set m status r = if r.at == m then status else r.status

-- what is linked at a point is retired
abbrev pub retired_at : ℕ → Row → Status
retired_at p r = if (r.point == p) && is_linked r then Retired else r.status

-- a retired block of the point isn't kept
abbrev pub is_kept : ℕ → Row → Bool
is_kept p r = not ((r.point == p) && not (is_current r.status))

-- ---- effects

abbrev pub with_block : Block → Core → Core
with_block b c = record c { code = put_words b.at b.words c.code; rows = c.rows ++ row_of b ∷ [] }

-- the base leads to the mini block, which is live
abbrev pub mini_linked : Option Row → ℕ → Core → Core
mini_linked None m c = c
mini_linked (Some base) m c = record c { code = lead_to base m c.code; rows = map (with_status (at_set m Live)) c.rows }

-- the block that leads to the mini block leads to the mini block's next, and the mini block is retired
abbrev pub mini_unlinked : Option Row → Option Row → ℕ → Core → Core
mini_unlinked None mini m c = c
mini_unlinked (Some holder) None m c = c
mini_unlinked (Some holder) (Some mini) m c =
    record c { code = lead_to holder (next_of c.code mini) c.code; rows = map (with_status (at_set m Retired)) c.rows }

-- the jump to the base block stands at the point, and the base is live
abbrev pub point_linked : Option Row → ℕ → Core → Core
point_linked None p c = c
point_linked (Some base) p c =
    record c { code = insert c.code p (enter (jump_word p base.at)); rows = map (with_status (at_set base.at Live)) c.rows }

-- the program's word stands at the point, and its base and live mini blocks are retired
abbrev pub point_unlinked : Option ℕ → ℕ → Core → Core
point_unlinked None p c = c
point_unlinked (Some word) p c = record c { code = insert c.code p (own word); rows = map (with_status (retired_at p)) c.rows }

-- the slots of the instrument are set to its opening values for a hart, which walks its frames in this memory
abbrev pub armed_in : Memory → Placed → Hart → Hart
armed_in m i x =
    record x { bank = set_places (places_of i) (opening i.opens (walk_from m (start_of x.stop x.pc x.regs)) i.vars) x.ticks x.bank }

abbrev pub armed_hart : Core → Placed → Hart → Hart
armed_hart c i x = armed_in c.prog.mem i x

-- The machine after an event.
abbrev pub after_event : Core → Event → Core
after_event c (Turn h) = turn c h
after_event c (Write block) = with_block block c
after_event c (LinkMini p m) = mini_linked (current_base c.rows p) m c
after_event c (UnlinkMini p m) = mini_unlinked (before c m) (row_at c.rows m) m c
after_event c (LinkPoint p) = point_linked (current_base c.rows p) p c
after_event c (UnlinkPoint p) = point_unlinked (program_word c.program p) p c
after_event c (Free p) = record c { rows = filter (is_kept p) c.rows }
after_event c (Arm i) = record c { harts = map (armed_hart c i) c.harts }
after_event c (Sample i) = c

-- the harts whose ticks an event is: that of a turn which is one
abbrev pub owned : Core → Event → List ℕ
owned c (Turn h) = if ticks_next c h then h ∷ [] else []
owned c (Write block) = []
owned c (LinkMini p m) = []
owned c (UnlinkMini p m) = []
owned c (LinkPoint p) = []
owned c (UnlinkPoint p) = []
owned c (Free p) = []
owned c (Arm i) = []
owned c (Sample i) = []
