-- The law of readings: what an instrument in force reads is what its plan measures on the unpatched program.
use Rattle.std.specs.Prelude.{◌≡◌, ℕ, ◌+◌, ◌%◌, ◌^◌, ◌≤◌, Option, Some, None, List, [], ◌∷◌, ◌++◌, length, slice_get}
use Rattle.pn_types.specs.declared.image.Image.{Image}
use Rattle.pn_types.specs.declared.limits.TheConstants.{MAX_BUDGET}
use Rattle.pn_types.specs.declared.placed.Placed.{Placed}
use Rattle.pn_types.specs.declared.plan.Plan.{Plan}
use Rattle.rv_word.specs.Plain.{Words, Plain}
use Rattle.rv_mem.specs.Start.{program_of}
use Rattle.rv_exec.specs.Start.{start}
use Rattle.tramp_spec.specs.Harts.{Hart}
use Rattle.prim_code.specs.Fitting.{IsMeasurable}
use Rattle.machine.specs.Cores.{Core, start_core}
use Rattle.machine.specs.Events.{Event, Arm, Sample, May}
use Rattle.machine.specs.Instruments.{reading, Carries, InForce}
use Rattle.machine.specs.Laws.{IsProgram}
use Rattle.machine.specs.Measures.{difference, measure}
use Rattle.machine.specs.Replays.{replay, Legal, owns}

-- ---- readings

abbrev pub reading_if : Placed → Option Hart → ℕ
reading_if i None = 0
reading_if i (Some x) = reading i x

-- the sum of the readings of an instrument for these harts, modulo 2^64
abbrev pub readings : Placed → List ℕ → Core → ℕ
readings i [] c = 0
readings i (h ∷ harts) c = (reading_if i (slice_get c.harts h) + readings i harts c) % 2 ^ 64

-- how many of the turns of these events are ticks
abbrev pub ticks_of : List Event → Core → ℕ
ticks_of es c = length (owns es c)

-- ---- the law

-- An instrument is armed in the course of these events, where it carries a plan, and is in force since. It can be sampled after
-- the first of the events since, which may be none, and again after all.
pub record IsSampled (i : Placed) (plan : Plan) (es : List Event) (c : Core) : Type 0 where
  pub force : InForce i es c
  pub carries : Carries (replay force.before c) i plan
  pub first : List Event
  pub rest : List Event
  pub parts : force.since ≡ first ++ rest
  pub earlier : May (replay (force.before ++ Arm i ∷ first) c) (Sample i)
  pub now : May (replay es c) (Sample i)

-- the events to the earlier sample
abbrev pub sampled_first : {i : Placed} {plan : Plan} {es : List Event} {c : Core} → IsSampled i plan es c → List Event
sampled_first {i = i} r = (r.force).before ++ Arm i ∷ r.first

-- The sum of the readings over these harts, minus that sum at the earlier sample, is what the plan measures between the two over the
-- ticks of all the events, which are a run of the unpatched program from state s on.
abbrev pub MeasuresFor : List ℕ → Words → Plain → {i : Placed} {plan : Plan} {es : List Event} {c : Core} → IsSampled i plan es c → Type 0
MeasuresFor harts t s {i = i} {plan = plan} {es = es} {c = c} r =
    difference (readings i harts (replay (sampled_first r) c)) (readings i harts (replay es c))
    ≡ measure t plan harts (ticks_of (r.force).before c) (ticks_of (sampled_first r) c) (ticks_of es c) (owns es c) s

-- This holds for every list of events each of which may happen when it comes.
abbrev pub ReadingsMeasure : Type 0
ReadingsMeasure =
    (image : Image) (n budget : ℕ) (i : Placed) (plan : Plan) (harts : List ℕ) (es : List Event) → IsProgram image → budget ≤ MAX_BUDGET
    → IsMeasurable plan → Legal es (start_core image n budget)
    → (r : IsSampled i plan es (start_core image n budget)) → MeasuresFor harts (program_of image) (start image n) r
