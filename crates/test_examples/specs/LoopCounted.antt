-- An example: a hart goes round a loop of one word, which a counter counts. Armed before three rounds, it reads 3 after them.
use Rattle.std.specs.Prelude.{◌≡◌, ℕ, true, false, List, [], ◌∷◌, ◌++◌, codes, replicate}
use Rattle.pn_types.specs.declared.image.Image.{Image}
use Rattle.pn_types.specs.declared.placed.Placed.{Placed}
use Rattle.pn_types.specs.declared.plan.Act.TheVariants.{Up}
use Rattle.pn_types.specs.declared.plan.Plan.{Plan}
use Rattle.pn_types.specs.declared.plan.Stmt.{Stmt}
use Rattle.rv_mem.specs.Start.{program_of}
use Rattle.rv_exec.specs.Start.{start}
use Rattle.tramp_spec.specs.Blocks.{base_words, mini_words}
use Rattle.tramp_spec.specs.Marks.{own}
use Rattle.tramp_spec.specs.Statements.{body_of}
use Rattle.tramp_spec.specs.declared.block.Block.{Block}
use Rattle.machine.specs.Cores.{Core, start_core}
use Rattle.machine.specs.Events.{Event, Turn, Write, LinkMini, LinkPoint, Arm}
use Rattle.machine.specs.Laws.{IsProgram}
use Rattle.machine.specs.Measures.{measure}
use Rattle.prim_code.specs.Fitting.{IsMeasurable}
use Rattle.machine.specs.Readings.{IsSampled, sampled_first, readings}
use Rattle.machine.specs.Replays.{replay, Legal, owns}

-- the one word is a jump to itself
abbrev pub loop : Image
loop =
    record {
      segments = record { at = 0x10000; bytes = 0x6f ∷ 0 ∷ 0 ∷ 0 ∷ []; size = 4 } ∷ [];
      text_at = 0x10000;
      text_len = 4;
      entry = 0x10000;
      symbols = [];
    }

abbrev pub loop_core : ℕ → Core
loop_core budget = start_core loop 1 budget

abbrev pub count_up : List Stmt
count_up = record { conds = []; act = Up 0 } ∷ []

abbrev pub rounds : Plan
rounds =
    record {
      vars = record { name = codes "rounds"; timer = false; initially = 0 } ∷ [];
      sites = record { at = 0x10000; stmts = count_up } ∷ [];
      opens = [];
    }

abbrev pub counter : Placed
counter = record { vars = rounds.vars; slots = 2 ∷ []; sites = record { at = 0x10000; mini = 0x11010 } ∷ []; opens = [] }

abbrev pub loop_base : Block
loop_base = record { point = 0x10000; at = 0x11000; words = base_words 0x11000 0x11008 (own 0xff5fe06f ∷ []); base = true }

abbrev pub loop_mini : Block
loop_mini = record { point = 0x10000; at = 0x11010; words = mini_words 0x11010 (body_of (2 ∷ []) count_up) 0x11008; base = false }

abbrev pub linking : List Event
linking = Write loop_base ∷ Write loop_mini ∷ LinkMini 0x10000 0x11010 ∷ LinkPoint 0x10000 ∷ []

-- the blocks are linked, and the counter is armed
abbrev pub counting : List Event
counting = linking ++ Arm counter ∷ []

-- a round takes ten turns, of which one is a tick
abbrev pub three_rounds : List Event
three_rounds = counting ++ replicate 30 (Turn 0)

-- The blocks can be linked and the counter armed under any budget. Under one of 1,000 all that the law of readings asks for holds, and
-- both its sides are 3.
pub record LoopCounted : Type 0 where
  pub program : IsProgram loop
  pub measurable : IsMeasurable rounds
  pub begins : (budget : ℕ) → Legal counting (loop_core budget)
  pub legal : Legal three_rounds (loop_core 1000)
  pub sampled : IsSampled counter rounds three_rounds (loop_core 1000)
  pub from_arm : sampled_first sampled ≡ counting
  pub owned : owns three_rounds (loop_core 1000) ≡ 0 ∷ 0 ∷ 0 ∷ []
  pub at_first : readings counter (0 ∷ []) (replay counting (loop_core 1000)) ≡ 0
  pub at_last : readings counter (0 ∷ []) (replay three_rounds (loop_core 1000)) ≡ 3
  pub measured : measure (program_of loop) rounds (0 ∷ []) 0 0 3 (0 ∷ 0 ∷ 0 ∷ []) (start loop 1) ≡ 3
