-- The law of readings, over what is done with a machine and its instruments: what is read of an instrument between two moments is
-- what its plan measures on the unpatched program.
use Rattle.std.specs.Prelude.{◌≡◌, ℕ, ◌<◌, ◌≤◌, Some, List, [], ◌∷◌, ◌++◌, length, slice_get}
use Rattle.pn_types.specs.declared.image.Image.{Image}
use Rattle.pn_types.specs.declared.limits.TheConstants.{MAX_BUDGET}
use Rattle.pn_types.specs.declared.plan.Plan.{Plan}
use Rattle.rv_mem.specs.Start.{program_of}
use Rattle.rv_exec.specs.Start.{start}
use Rattle.prim_code.specs.Fitting.{IsMeasurable}
use Rattle.machine.specs.Cores.{In, start_core}
use Rattle.machine.specs.Events.{IsQuiet}
use Rattle.machine.specs.Laws.{IsProgram}
use Rattle.machine.specs.Measures.{difference, measure}
use Rattle.machine.specs.Readings.{readings}
use Rattle.machine.specs.Replays.{owns}
use Rattle.instrument.specs.Scenes.{Act, Arms, AllCanDo, InstrumentScene, events_of, first_scene, scene_after}
use Rattle.instrument.specs.declared.instrument.Instrument.{Instrument}
use Rattle.instrument.specs.declared.number.State.TheVariants.{Armed}

-- How a machine starts: the image, the harts and the budget of each, and how many instruments may be there at once.
pub record Opening : Type 0 where
  pub image : Image
  pub harts : ℕ
  pub budget : ℕ
  pub limit : ℕ

abbrev pub scene_at : Opening → List Act → InstrumentScene
scene_at o acts = scene_after acts (first_scene o.image o.harts o.budget o.limit)

-- the program's own run after these acts, and the time
abbrev pub owns_at : Opening → List Act → List ℕ
owns_at o acts = owns (events_of acts (first_scene o.image o.harts o.budget o.limit)) (start_core o.image o.harts o.budget)

abbrev pub time_at : Opening → List Act → ℕ
time_at o acts = length (owns_at o acts)

-- what is done before an instrument is armed, from there to an earlier moment, and from that to a later one
pub record Course : Type 0 where
  pub before : List Act
  pub first : List Act
  pub rest : List Act

abbrev pub to_arming : ℕ → Course → List Act
to_arming n c = c.before ++ Arms n ∷ []

abbrev pub to_earlier : ℕ → Course → List Act
to_earlier n c = to_arming n c ++ c.first

abbrev pub to_later : ℕ → Course → List Act
to_later n c = to_earlier n c ++ c.rest

-- Instrument n has a plan, and is armed to the later moment; at both moments no hart is inside a trampoline.
pub record CanBeRead (o : Opening) (n : ℕ) (plan : Plan) (c : Course) : Type 0 where
  pub can : AllCanDo (to_later n c) (first_scene o.image o.harts o.budget o.limit)
  pub instrument : Instrument
  pub listed : In instrument (scene_at o (to_later n c)).placer.instruments
  pub number : instrument.no ≡ n
  pub armed : instrument.state ≡ Armed
  pub planned : slice_get (scene_at o (to_later n c)).plans n ≡ Some plan
  pub earlier : IsQuiet (scene_at o (to_earlier n c)).core
  pub later : IsQuiet (scene_at o (to_later n c)).core

-- The sum of its readings over these harts, minus that at the earlier moment, is what the plan measures between the two.
abbrev pub ReadsMeasure : Type 0
ReadsMeasure =
    (o : Opening) (n : ℕ) (plan : Plan) (harts : List ℕ) (c : Course)
    → IsProgram o.image → o.budget ≤ MAX_BUDGET → IsMeasurable plan → 0 < length plan.vars → (r : CanBeRead o n plan c)
    → difference (readings (r.instrument).placed harts (scene_at o (to_earlier n c)).core)
    (readings (r.instrument).placed harts (scene_at o (to_later n c)).core)
    ≡ measure (program_of o.image) plan harts
    (time_at o c.before) (time_at o (to_earlier n c)) (time_at o (to_later n c)) (owns_at o (to_later n c)) (start o.image o.harts)
