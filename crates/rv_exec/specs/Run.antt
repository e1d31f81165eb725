-- Runs of the unpatched program: lists of hart numbers, each of which takes a turn.
use Rattle.std.specs.Prelude.{ℕ, ◌≡◌, ◌==◌, false, IsTrue, Option, Some, None, List, [], ◌∷◌, slice_get, count_by}
use Rattle.pn_types.specs.declared.image.Image.{Image}
use Rattle.rv_word.specs.Registers.{arguments_of}
use Rattle.rv_word.specs.Plain.{Words, PlainHart, Plain, plain, can}
use Rattle.rv_mem.specs.Start.{program_of}
use Rattle.rv_exec.specs.Start.{start}

-- the state after the turns of these harts, one after another
abbrev pub run_from : Words → List ℕ → Plain → Plain
run_from t [] s = s
run_from t (h ∷ hs) s = run_from t hs (plain t h s)

-- each hart could take its turn when it came
abbrev pub LegalFrom : Words → ℕ → List ℕ → Plain → Type 0
LegalFrom t budget [] s = Unit {0}
LegalFrom t budget (h ∷ hs) s = IsTrue (can budget s h) × LegalFrom t budget hs (plain t h s)

-- The state of an image on n harts after these turns.
abbrev pub run : Image → ℕ → List ℕ → Plain
run image n turns = run_from (program_of image) turns (start image n)

-- The turns are those of harts that could take them.
abbrev pub IsLegal : Image → ℕ → ℕ → List ℕ → Type 0
IsLegal image n budget turns = LegalFrom (program_of image) budget turns (start image n)

-- no hart can go on
abbrev pub HasEnded : ℕ → Plain → Type 0
HasEnded budget s = (h : ℕ) → can budget s h ≡ false

-- ---- the trace of a run

-- a position: the hart that takes the turn, its pc, and a0 to a7 before the turn
pub record Position : Type 0 where
  pub hart : ℕ
  pub pc : ℕ
  pub arguments : List ℕ

-- a position before those that follow
abbrev pub position_of : ℕ → Option PlainHart → List Position → List Position
position_of h None rest = rest
position_of h (Some x) rest = record { hart = h; pc = x.pc; arguments = arguments_of x.regs } ∷ rest

-- the positions of these turns from a state on
abbrev pub trace_from : Words → List ℕ → Plain → List Position
trace_from t [] s = []
trace_from t (h ∷ hs) s = position_of h (slice_get s.harts h) (trace_from t hs (plain t h s))

-- The trace of an image's run.
abbrev pub trace : Image → ℕ → List ℕ → List Position
trace image n turns = trace_from (program_of image) turns (start image n)

-- how many of these positions are at an address
abbrev pub executions : ℕ → List Position → ℕ
executions a trace = count_by (λ q. q.pc == a) trace
