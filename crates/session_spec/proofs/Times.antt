-- The time is the ticks of all harts together.
use Rattle.std.proofs.Common.{◌≡◌, ℕ, zero, suc, ◌+◌, ◌<◌, ◌≤◌, List, [], ◌∷◌, refl, ap, ◌∙◌, arith, length, map}
use Rattle.std.specs.List.{AllByRecursion}
use Rattle.pn_types.specs.declared.image.Image.{Image}
use Rattle.tramp_spec.specs.Harts.{Hart}
use Rattle.machine.specs.Cores.{Core, first_hart, start_core}
use Rattle.machine.specs.Effects.{after_event}
use Rattle.machine.specs.Events.{Event}
use Rattle.machine.specs.Quanta.{ticks_in}
use Rattle.machine.specs.Replays.{owns, replay}
use Rattle.machine.specs.States.{quantum_turns}
use Rattle.machine.proofs.Quanta.{quanta_are_legal, time_goes_on}
use Rattle.rv_exec.specs.Start.{harts_from}
use Rattle.instrument.specs.Scenes.{Happens}
use Rattle.instrumented.specs.Instrumented.{Instrumented, after_act, after_turns}
use Rattle.instrumented.proofs.Acts.{done_is}
use Rattle.session_spec.specs.Inputs.{Inputs}
use Rattle.session_spec.specs.States.{State}
use Rattle.session_spec.specs.Reads.{IsSoundState}
use Rattle.session_spec.proofs.Runs.{is_run}

low_each : (xs : List Hart) (b : ℕ) → ticks_in xs < b → AllByRecursion (λ x. x.ticks < b) xs
low_each [] b l = tt
low_each (x ∷ xs) b l = (omega arith, low_each xs b (omega arith))

-- no hart has more than all together
pub ticks_low : (c : Core) (b : ℕ) → ticks_in c.harts < b → AllByRecursion (λ x. x.ticks < b) c.harts
ticks_low c b l = low_each c.harts b l

taken_core : (es : List Event) (m : Instrumented) → (after_turns es m).core ≡ replay es m.core
taken_core [] m = refl
taken_core (e ∷ es) m =
    let first : Instrumented = record { core = after_event m.core e; placer = m.placer } in
    let is : after_act (Happens e) m ≡ first = done_is (Happens e) m in
    ap (λ (x : Instrumented). (after_turns es x).core) is ∙ taken_core es first

-- turns that are taken
pub taken_ticks : (es : List Event) (m : Instrumented) → ticks_in (after_turns es m).core.harts ≡ ticks_in m.core.harts + length (owns es m.core)
taken_ticks es m = ap (λ (c : Core). ticks_in c.harts) (taken_core es m) ∙ time_goes_on es m.core

-- a quantum has no more turns than it may have
pub quantum_few : (n h : ℕ) (c : Core) → length (quantum_turns n h c) ≤ n
quantum_few n h c = (quanta_are_legal n h c).bound

-- at the start there is none
none_first : (more h n : ℕ) (image : Image) → ticks_in (map first_hart (harts_from more h image n)) ≡ 0
none_first zero h n image = refl
none_first (suc more) h n image = let rest = none_first more (h + 1) n image in omega arith

pub sound_ticks : (i : Inputs) (s : State) (lasts : List ℕ) → IsSoundState i s lasts → ticks_in s.kept.machine.core.harts ≡ s.kept.time
sound_ticks i s lasts k =
    let r = is_run i s lasts k in
    let c = start_core i.image i.settings.harts i.settings.budget in
    let core = ap (λ (x : Core). ticks_in x.harts) r.core in
    let all = time_goes_on r.events c in
    let none : ticks_in c.harts ≡ 0 = none_first i.settings.harts 0 i.settings.harts i.image in
    let owned = ap (λ (l : List ℕ). length l) r.owns in
    let time = r.time in
    omega arith
