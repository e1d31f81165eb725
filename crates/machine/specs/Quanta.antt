-- Laws of quanta and of the time.
use Rattle.std.specs.Prelude.{◌≡◌, ℕ, ◌+◌, ◌≤◌, Some, List, [], ◌∷◌, length, replicate, slice_get}
use Rattle.pn_types.specs.declared.image.Image.{Image}
use Rattle.tramp_spec.specs.Harts.{Hart}
use Rattle.machine.specs.Cores.{Core, start_core}
use Rattle.machine.specs.Events.{Event}
use Rattle.machine.specs.Laws.{IsProgram}
use Rattle.machine.specs.Replays.{replay, Legal, owns}
use Rattle.machine.specs.States.{quantum_turns}

-- These events are turns of hart h, at most this many, each of which it could take when it came.
pub record IsQuantum (most h : ℕ) (es : List Event) (c : Core) : Type 0 where
  pub legal : Legal es c
  pub owned : owns es c ≡ replicate (length (owns es c)) h
  pub bound : length es ≤ most

-- the turns of a quantum are such events, whatever the state
abbrev pub QuantaAreLegal : Type 0
QuantaAreLegal = (most h : ℕ) (c : Core) → IsQuantum most h (quantum_turns most h c) c

-- the ticks of these harts together
abbrev pub ticks_in : List Hart → ℕ
ticks_in [] = 0
ticks_in (x ∷ xs) = x.ticks + ticks_in xs

-- The time, which is the ticks of all harts, goes on by the events that are ticks.
abbrev pub TimeGoesOn : Type 0
TimeGoesOn = (es : List Event) (c : Core) → ticks_in (replay es c).harts ≡ ticks_in c.harts + length (owns es c)

-- no hart has more ticks than the budget
abbrev pub KeepsBudget : Core → Type 0
KeepsBudget c = (h : ℕ) (x : Hart) → slice_get c.harts h ≡ Some x → x.ticks ≤ c.budget

-- This holds after every list of events each of which may happen when it comes.
abbrev pub BudgetIsKept : Type 0
BudgetIsKept =
    (image : Image) (n budget : ℕ) (es : List Event) → IsProgram image → Legal es (start_core image n budget)
    → KeepsBudget (replay es (start_core image n budget))
