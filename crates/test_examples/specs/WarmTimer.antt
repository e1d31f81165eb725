-- An example: two harts stand in a procedure when a timer of it is armed. The timer finds it open on both, and runs from then on.
-- After three rounds of both together, around the procedure's jump, it reads 3.
use Rattle.std.specs.Prelude.{◌≡◌, true, false, List, [], ◌∷◌, ◌++◌, codes, map, replicate, slice_index}
use Rattle.pn_types.specs.declared.compare.Cmp.TheVariants.{Eq, Ne}
use Rattle.pn_types.specs.declared.image.Image.{Image}
use Rattle.pn_types.specs.declared.placed.Placed.{Placed}
use Rattle.pn_types.specs.declared.plan.Act.TheVariants.{Up, Start, Stop}
use Rattle.pn_types.specs.declared.plan.Left.TheVariants.{Counter}
use Rattle.pn_types.specs.declared.plan.Open.{Open}
use Rattle.pn_types.specs.declared.plan.Plan.{Plan}
use Rattle.pn_types.specs.declared.plan.Stmt.{Stmt}
use Rattle.rv_mem.specs.Start.{program_of}
use Rattle.rv_exec.specs.Start.{start}
use Rattle.prim_code.specs.Fitting.{IsMeasurable}
use Rattle.tramp_spec.specs.Blocks.{base_words, mini_words}
use Rattle.tramp_spec.specs.Marks.{own}
use Rattle.tramp_spec.specs.Statements.{body_of}
use Rattle.tramp_spec.specs.declared.block.Block.{Block}
use Rattle.machine.specs.Cores.{Core, start_core}
use Rattle.machine.specs.Events.{Event, Turn, Write, LinkMini, LinkPoint, Arm}
use Rattle.machine.specs.Laws.{IsProgram}
use Rattle.machine.specs.Measures.{measure}
use Rattle.machine.specs.Readings.{IsSampled, sampled_first, readings}
use Rattle.machine.specs.Replays.{replay, Legal, owns}

-- ---- the program and the plan

-- the procedure's words are `nop` and a jump to itself, where both harts begin
abbrev pub procedure : Image
procedure =
    record {
      segments = record { at = 0x10000; bytes = 0x13 ∷ 0 ∷ 0 ∷ 0 ∷ 0x6f ∷ 0 ∷ 0 ∷ 0 ∷ []; size = 8 } ∷ [];
      text_at = 0x10000;
      text_len = 8;
      entry = 0x10004;
      symbols = [];
    }

abbrev pub two_harts : Core
two_harts = start_core procedure 2 1000

-- where the procedure is open, `on` goes up, and since it isn't 0 then, `time` starts
abbrev pub procedure_open : Open
procedure_open =
    record {
      start = 0x10000;
      len = 8;
      stmts = record { conds = []; act = Up 1 }
          ∷ record { conds = record { left = Counter 1; cmp = Ne; right = 0 } ∷ []; act = Start 0 } ∷ [];
    }

-- at the jump `time` would stop if `on` were 0
abbrev pub stop_if_off : List Stmt
stop_if_off = record { conds = record { left = Counter 1; cmp = Eq; right = 0 } ∷ []; act = Stop 0 } ∷ []

abbrev pub procedure_time : Plan
procedure_time =
    record {
      vars = record { name = codes "time"; timer = true; initially = 0 } ∷ record { name = codes "on"; timer = false; initially = 0 } ∷ [];
      sites = record { at = 0x10004; stmts = stop_if_off } ∷ [];
      opens = procedure_open ∷ [];
    }

-- ---- the instrument and its blocks

-- `time` has its sum in slot 2 and its number of starts in slot 3, and `on` is slot 4
abbrev pub timer : Placed
timer =
    record {
      vars = procedure_time.vars;
      slots = 2 ∷ 4 ∷ [];
      sites = record { at = 0x10004; mini = 0x11010 } ∷ [];
      opens = procedure_time.opens;
    }

abbrev pub timer_base : Block
timer_base = record { point = 0x10004; at = 0x11000; words = base_words 0x11000 0x11008 (own 0xff9fe06f ∷ []); base = true }

abbrev pub timer_mini : Block
timer_mini = record { point = 0x10004; at = 0x11010; words = mini_words 0x11010 (body_of timer.slots stop_if_off) 0x11008; base = false }

-- ---- what happens

abbrev pub linking_timer : List Event
linking_timer = Write timer_base ∷ Write timer_mini ∷ LinkMini 0x10004 0x11010 ∷ LinkPoint 0x10004 ∷ []

-- the blocks are linked, and the timer is armed
abbrev pub timing : List Event
timing = linking_timer ++ Arm timer ∷ []

-- A round takes eleven turns, of which the last is a tick. Hart 0 has gone round once, and both harts have come to the test of `on`.
abbrev pub both_inside : List Event
both_inside = timing ++ replicate 16 (Turn 0) ++ replicate 5 (Turn 1)

-- each goes on to the end of its round
abbrev pub timed_rounds : List Event
timed_rounds = both_inside ++ replicate 6 (Turn 0) ++ replicate 6 (Turn 1)

-- All that the law of readings asks for holds, and both its sides are 3.
pub record WarmTimer : Type 0 where
  pub program : IsProgram procedure
  pub measurable : IsMeasurable procedure_time
  pub legal : Legal timed_rounds two_harts
  pub sampled : IsSampled timer procedure_time timed_rounds two_harts
  pub from_arm : sampled_first sampled ≡ timing
  -- on each hart the timer has one start in force
  pub starts : map (λ x. slice_index x.bank 3) (replay timing two_harts).harts ≡ 1 ∷ 1 ∷ []
  pub on : map (λ x. slice_index x.bank 4) (replay timing two_harts).harts ≡ 1 ∷ 1 ∷ []
  pub inside : map (λ x. x.inside) (replay both_inside two_harts).harts ≡ true ∷ true ∷ []
  pub owned : owns timed_rounds two_harts ≡ 0 ∷ 0 ∷ 1 ∷ []
  pub at_first : readings timer (0 ∷ 1 ∷ []) (replay timing two_harts) ≡ 0
  pub at_last : readings timer (0 ∷ 1 ∷ []) (replay timed_rounds two_harts) ≡ 3
  pub measured : measure (program_of procedure) procedure_time (0 ∷ 1 ∷ []) 0 0 3 (0 ∷ 0 ∷ 1 ∷ []) (start procedure 2) ≡ 3
