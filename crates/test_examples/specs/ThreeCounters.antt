-- An example: three counters at the loop's point. Two of their mini blocks, or all blocks of the point, are unlinked while a hart
-- is inside, which goes on through them.
use Rattle.std.specs.Prelude.{◌≡◌, ℕ, false, Some, List, [], ◌∷◌, ◌++◌, map}
use Rattle.std.specs.FinMap.{get}
use Rattle.pn_types.specs.declared.placed.Placed.{Placed}
use Rattle.tramp_spec.specs.Blocks.{mini_words}
use Rattle.tramp_spec.specs.Marks.{own}
use Rattle.tramp_spec.specs.Statements.{body_of}
use Rattle.tramp_spec.specs.declared.block.Block.{Block}
use Rattle.machine.specs.Cores.{Core, Retired}
use Rattle.machine.specs.Events.{Event, Write, LinkMini, UnlinkMini, UnlinkPoint, Free, Arm, Sample, May}
use Rattle.test_examples.specs.FirstTurns.{turns}
use Rattle.test_examples.specs.LoopCounted.{loop_core, count_up, rounds, linking}
use Rattle.machine.specs.Readings.{readings}
use Rattle.machine.specs.Replays.{replay, Legal, owns}
use Rattle.machine.specs.States.{settling}

-- ---- counters of the loop's rounds

-- one on a slot, whose mini block is at an address
abbrev pub counter_on : ℕ → ℕ → Placed
counter_on slot mini = record { vars = rounds.vars; slots = slot ∷ []; sites = record { at = 0x10000; mini = mini } ∷ []; opens = [] }

abbrev pub mini_on : ℕ → ℕ → ℕ → Block
mini_on slot mini next = record { point = 0x10000; at = mini; words = mini_words mini (body_of (slot ∷ []) count_up) next; base = false }

-- the first's mini block leads to the tail, the second's to the first's, and the third's to the second's; the fourth's stands where
-- the first's was, on its slot, and leads to the third's
abbrev pub first : Placed
first = counter_on 2 0x11010

abbrev pub second : Placed
second = counter_on 3 0x11024

abbrev pub third : Placed
third = counter_on 4 0x11038

abbrev pub fourth : Placed
fourth = counter_on 2 0x11010

abbrev pub adding : List Event
adding = Write (mini_on 3 0x11024 0x11010) ∷ LinkMini 0x10000 0x11024 ∷ Write (mini_on 4 0x11038 0x11024) ∷ LinkMini 0x10000 0x11038 ∷ []

abbrev pub arming : List Event
arming = Arm first ∷ Arm second ∷ Arm third ∷ []

-- ---- two mini blocks are unlinked

-- the loop with three counters
abbrev pub counted : Core
counted = replay (linking ++ adding ++ arming) (loop_core 1000)

-- the hart is at the second's mini block
abbrev pub at_second : Core
at_second = replay (turns 8) counted

abbrev pub passing_by : List Event
passing_by = UnlinkMini 0x10000 0x11024 ∷ UnlinkMini 0x10000 0x11010 ∷ []

abbrev pub passed_by : Core
passed_by = replay passing_by at_second

-- the hart has gone through both, and on to the program
abbrev pub gone_on : Core
gone_on = replay (turns 12) passed_by

-- the fourth's mini block takes the room of the first's
abbrev pub renewing : List Event
renewing = Free 0x10000 ∷ Write (mini_on 2 0x11010 0x11038) ∷ LinkMini 0x10000 0x11010 ∷ Arm fourth ∷ []

abbrev pub renewed : Core
renewed = replay renewing gone_on

-- three rounds more
abbrev pub ended : Core
ended = replay (turns 45) renewed

pub record MinisUnlinked : Type 0 where
  pub counts : Legal (linking ++ adding ++ arming) (loop_core 1000)
  pub comes : Legal (turns 8) counted
  pub stands : map (λ x. x.pc) at_second.harts ≡ 0x11024 ∷ []
  pub unlinks : Legal passing_by at_second
  -- nothing is freed as long as the hart is inside
  pub held : May passed_by (Free 0x10000) → ⊥
  pub settles : settling passed_by ≡ turns 12
  pub goes_on : Legal (turns 12) passed_by
  pub tick : owns (turns 12) passed_by ≡ 0 ∷ []
  pub passed : readings first (0 ∷ []) gone_on ≡ 1
  pub renews : Legal renewing gone_on
  pub rounds : Legal (turns 45) renewed
  pub three : owns (turns 45) renewed ≡ 0 ∷ 0 ∷ 0 ∷ []
  pub ticks : map (λ x. x.ticks) ended.harts ≡ 4 ∷ []
  pub quiet : May ended (Sample third)
  pub third_reads : readings third (0 ∷ []) ended ≡ 4
  pub fourth_reads : readings fourth (0 ∷ []) ended ≡ 3

-- ---- the point is unlinked

-- the hart is at the third's mini block
abbrev pub at_third : Core
at_third = replay (turns 3) counted

abbrev pub left : Core
left = replay (UnlinkPoint 0x10000 ∷ []) at_third

-- the hart has gone through all three
abbrev pub gone_out : Core
gone_out = replay (turns 17) left

pub record PointUnlinked : Type 0 where
  pub comes : Legal (turns 3) counted
  pub stands : map (λ x. x.pc) at_third.harts ≡ 0x11038 ∷ []
  pub unlinks : Legal (UnlinkPoint 0x10000 ∷ []) at_third
  pub retired : map (λ r. r.status) left.rows ≡ Retired ∷ Retired ∷ Retired ∷ Retired ∷ []
  pub held : May left (Free 0x10000) → ⊥
  pub settles : settling left ≡ turns 17
  pub goes_out : Legal (turns 17) left
  pub tick : owns (turns 17) left ≡ 0 ∷ []
  pub frees : May gone_out (Free 0x10000)
  -- the next turn is a tick, by the program's own word
  pub word : get gone_out.code 0x10000 ≡ Some (own 0x6f)
  pub goes_round : Legal (turns 1) gone_out
  pub next : owns (turns 1) gone_out ≡ 0 ∷ []
