-- For proofs alone: how the state of a session, and what was read of its instruments last, came about.
use Rattle.std.specs.Prelude.{◌≡◌, ℕ, ◌<◌, Some, Ok, List, [], ◌∷◌, IsSome, slice_get}
use Rattle.pn_types.specs.declared.plan.Plan.{Plan}
use Rattle.machine.specs.Cores.{In}
use Rattle.machine.specs.Events.{IsQuiet}
use Rattle.machine.specs.Laws.{IsProgram}
use Rattle.machine.specs.Readings.{readings}
use Rattle.instrument.specs.Scenes.{Act}
use Rattle.instrument.specs.declared.instrument.Instrument.{Instrument}
use Rattle.instrument.specs.declared.number.State.TheVariants.{Armed}
use Rattle.instrumented.specs.Instrumented.{Instrumented}
use Rattle.instrumented.specs.Reached.{Leads}
use Rattle.instrumented.specs.Readings.{Course, Opening, owns_at, scene_at, time_at, to_earlier, to_later}
use Rattle.session_spec.specs.declared.data.MetricFocusPair.{MetricFocusPair}
use Rattle.session_spec.specs.Inputs.{Inputs, harts_of_focus, planned}
use Rattle.session_spec.specs.Plans.{IsGood}

abbrev pub opening_of : Inputs → Opening
opening_of i = record { image = i.image; harts = i.settings.harts; budget = i.settings.budget; limit = i.settings.instruments }

-- ---- an instrument that is or was shown

-- It was armed in the course of these acts, and read at a later moment at which no hart was inside a trampoline. What was read last
-- is its readings then.
pub record IsRead (o : Opening) (acts : List Act) (harts : List ℕ) (s : MetricFocusPair) (last : ℕ) : Type 0 where
  pub course : Course
  pub all : acts ≡ to_later s.instrument.n course
  pub armed : s.armed ≡ Some (time_at o course.before)
  pub from : s.from ≡ time_at o (to_earlier s.instrument.n course)
  pub quiet : IsQuiet (scene_at o (to_earlier s.instrument.n course)).core
  pub reading : (x : Instrument) → In x (scene_at o acts).placer.instruments → x.no ≡ s.instrument.n
      → last ≡ readings x.placed harts (scene_at o (to_earlier s.instrument.n course)).core

-- It shows what its plan says, and was read if it was armed.
pub record IsShown (i : Inputs) (acts : List Act) (s : MetricFocusPair) (last : ℕ) : Type 0 where
  pub plan : Plan
  pub planned : planned i s.metric s.focus ≡ Ok plan
  pub good : IsGood i plan
  pub listed : slice_get (scene_at (opening_of i) acts).plans s.instrument.n ≡ Some plan
  pub number : s.instrument.n < (scene_at (opening_of i) acts).placer.count
  pub armed : (x : Instrument)
      → In x (scene_at (opening_of i) acts).placer.instruments → x.no ≡ s.instrument.n → x.state ≡ Armed → IsSome s.armed
  pub read : IsSome s.armed → IsRead (opening_of i) acts (harts_of_focus i s.focus) s last

abbrev pub AreShown : Inputs → List Act → List MetricFocusPair → List ℕ → Type 0
AreShown i acts [] [] = Unit {0}
AreShown i acts [] (last ∷ lasts) = ⊥
AreShown i acts (s ∷ ss) [] = ⊥
AreShown i acts (s ∷ ss) (last ∷ lasts) = IsShown i acts s last × AreShown i acts ss lasts

-- no two have the same number
abbrev pub IsOther : MetricFocusPair → List MetricFocusPair → Type 0
IsOther s ss = (t : MetricFocusPair) → In t ss → t.instrument.n ≡ s.instrument.n → ⊥

abbrev pub AreApart : List MetricFocusPair → Type 0
AreApart [] = Unit {0}
AreApart (s ∷ ss) = IsOther s ss × AreApart ss

-- ---- the whole

-- Acts lead from the start of the image to the machine with its instruments; the harts of their ticks are these; and the instruments
-- show what they must.
pub record IsTied (i : Inputs) (m : Instrumented) (own : List ℕ) (ss : List MetricFocusPair) (lasts : List ℕ) : Type 0 where
  pub program : IsProgram i.image
  pub acts : List Act
  pub plans : List Plan
  pub leads : Leads i.image i.settings.harts i.settings.budget i.settings.instruments acts m plans
  pub owned : own ≡ owns_at (opening_of i) acts
  pub shown : AreShown i acts ss lasts
  pub apart : AreApart ss
