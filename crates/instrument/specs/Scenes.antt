-- The placer beside the machine: what is done with both, one act after another, and the events that this makes.
use Rattle.std.specs.Prelude.{◌≡◌, ℕ, ◌⊎◌, Bool, true, false, Option, Some, None, Result, Ok, Err, List, [], ◌∷◌, ◌++◌}
use Rattle.pn_types.specs.declared.image.Image.{Image}
use Rattle.pn_types.specs.declared.plan.Plan.{Plan}
use Rattle.pn_types.specs.declared.plan.Site.{Site}
use Rattle.prim_code.specs.Fitting.{AreStmtsOf}
use Rattle.rv_word.specs.Plain.{Words, program_word}
use Rattle.machine.specs.Cores.{In, Core, start_core}
use Rattle.machine.specs.Effects.{after_event}
use Rattle.machine.specs.Events as events
use Rattle.machine.specs.Events.{Event, May, MayArm, IsQuiet}
use Rattle.instrument.specs.Books.{freed_point}
use Rattle.instrument.specs.Handing.{event_of, is_barred}
use Rattle.instrument.specs.Placements.{Placements, no_placements, instrument_at, state_of, admission, or_same, with_armed, dropped, front, after_first, free_front, free_behind, put_back, freed}
use Rattle.instrument.specs.declared.instrument.Instrument.{Instrument}
use Rattle.instrument.specs.declared.entry.Entry.{Entry}
use Rattle.instrument.specs.declared.number.Refused.{Refused}
use Rattle.instrument.specs.declared.number.State.TheVariants.{Placing, Armed}

-- The machine, the placer, and the plan of each instrument that was admitted, by number.
pub record InstrumentScene : Type 0 where
  pub core : Core
  pub placer : Placements
  pub plans : List Plan

abbrev pub first_scene : Image → ℕ → ℕ → ℕ → InstrumentScene
first_scene image harts budget limit = record { core = start_core image harts budget; placer = no_placements image limit; plans = [] }

pub data Act : Type 0 where
  -- a turn of a hart, or a sample
  Happens : (e : Event) → Act
  -- a plan is admitted, or refused
  Admits : (plan : Plan) (cost : Option ℕ) → Act
  -- an instrument is armed
  Arms : (n : ℕ) → Act
  -- an instrument is dropped
  Drops : (n : ℕ) → Act
  -- the first entry of the agenda is handed out and done; a Free that a hart bars goes to the back
  Hands : Act
  -- the first Free before which no unlinking of its point stands is done
  Sweeps : Act

-- the events that were done, and the scene after them
pub record Told : Type 0 where
  pub events : List Event
  pub scene : InstrumentScene

abbrev pub scene_told : List Event → Core → Placements → InstrumentScene → Told
scene_told es core placer s = record { events = es; scene = record { core = core; placer = placer; plans = s.plans } }

-- ---- acts

abbrev pub plans_with : Plan → Result Placements Refused → List Plan → List Plan
plans_with plan (Err refused) plans = plans
plans_with plan (Ok placer) plans = plans ++ plan ∷ []

abbrev pub admits : Plan → Result Placements Refused → InstrumentScene → Told
admits plan answer s = record {
  events = [];
  scene = record { core = s.core; placer = or_same s.placer answer; plans = plans_with plan answer s.plans };
}

abbrev pub arms : Option Instrument → InstrumentScene → Told
arms None s = scene_told [] s.core s.placer s
arms (Some i) s = scene_told (events.Arm i.placed ∷ []) (after_event s.core (events.Arm i.placed)) (with_armed i.no s.placer) s

-- a Free is done, or put back
abbrev pub frees : Bool → ℕ → Placements → InstrumentScene → Told
frees false point placer s = scene_told (events.Free point ∷ []) (after_event s.core (events.Free point)) (freed point placer) s
frees true point placer s = scene_told [] s.core (put_back point placer) s

abbrev pub hands_by : Option ℕ → Entry → InstrumentScene → Told
hands_by (Some point) e s = frees (is_barred s.core point) point (after_first s.placer) s
hands_by None e s = scene_told (event_of s.core e ∷ []) (after_event s.core (event_of s.core e)) (after_first s.placer) s

abbrev pub hands : Option Entry → InstrumentScene → Told
hands None s = scene_told [] s.core s.placer s
hands (Some e) s = hands_by (freed_point e) e s

abbrev pub sweeps : Option ℕ → Placements → InstrumentScene → Told
sweeps None placer s = scene_told [] s.core placer s
sweeps (Some point) placer s = frees false point placer s

abbrev pub does : Act → InstrumentScene → Told
does (Happens e) s = scene_told (e ∷ []) (after_event s.core e) s.placer s
does (Admits plan cost) s = admits plan (admission s.placer plan cost) s
does (Arms n) s = arms (instrument_at s.placer n) s
does (Drops n) s = scene_told [] s.core (dropped n s.placer) s
does Hands s = hands (front s.placer) s
does Sweeps s = sweeps (free_front s.placer) (free_behind s.placer) s

-- ---- conditions

-- a plan for a program: its sites are words of the text, and its statements fit its variables
pub record IsPlanFor (program : Words) (plan : Plan) : Type 0 where
  pub sites : (s : Site) → In s plan.sites → (word : ℕ) × (program_word program s.at ≡ Some word)
  pub stmts : (s : Site) → In s plan.sites → AreStmtsOf plan.vars s.stmts

abbrev pub IsTurnOrSample : Event → Type 0
IsTurnOrSample (events.Turn h) = Unit {0}
IsTurnOrSample (events.Sample i) = Unit {0}
IsTurnOrSample (events.Arm i) = ⊥
IsTurnOrSample (events.Write b) = ⊥
IsTurnOrSample (events.LinkMini p m) = ⊥
IsTurnOrSample (events.UnlinkMini p m) = ⊥
IsTurnOrSample (events.LinkPoint p) = ⊥
IsTurnOrSample (events.UnlinkPoint p) = ⊥
IsTurnOrSample (events.Free p) = ⊥

-- an instrument that is being placed, which the machine can arm
pub record CanArm (n : ℕ) (s : InstrumentScene) : Type 0 where
  pub instrument : Instrument
  pub is : instrument_at s.placer n ≡ Some instrument
  pub placing : instrument.state ≡ Placing
  pub may : MayArm s.core instrument.placed

-- Nothing is asked where an entry is handed out: that it may be done is a law.
abbrev pub CanDo : Act → InstrumentScene → Type 0
CanDo (Happens e) s = IsTurnOrSample e × May s.core e
CanDo (Admits plan cost) s = IsPlanFor s.core.program plan
CanDo (Arms n) s = CanArm n s
CanDo (Drops n) s = (state_of s.placer n ≡ Placing) ⊎ (state_of s.placer n ≡ Armed)
CanDo Hands s = Unit {0}
CanDo Sweeps s = IsQuiet s.core

-- ---- lists of acts

abbrev pub AllCanDo : List Act → InstrumentScene → Type 0
AllCanDo [] s = Unit {0}
AllCanDo (a ∷ acts) s = CanDo a s × AllCanDo acts (does a s).scene

abbrev pub events_of : List Act → InstrumentScene → List Event
events_of [] s = []
events_of (a ∷ acts) s = (does a s).events ++ events_of acts (does a s).scene

abbrev pub scene_after : List Act → InstrumentScene → InstrumentScene
scene_after [] s = s
scene_after (a ∷ acts) s = scene_after acts (does a s).scene
