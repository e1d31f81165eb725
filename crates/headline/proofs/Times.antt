-- The time of a run has 64 bits: there are few harts, and none has more ticks than the budget.
use Rattle.std.proofs.Common.{◌≡◌, ℕ, zero, suc, ◌+◌, ◌*◌, ◌<◌, ◌≤◌, ◌^◌, List, [], ◌∷◌, length, Some, refl, ap, ◌∙◌, arith}
use Rattle.std.specs.Prelude.{slice_get}
use Rattle.std.proofs.lemmas.Nat.{mul-le}
use Rattle.machine.proofs.Effects.{fixed}
use Rattle.machine.specs.Cores.{Core, start_core}
use Rattle.machine.specs.Effects.{after_event}
use Rattle.machine.specs.Events.{Event}
use Rattle.machine.specs.Quanta.{TimeGoesOn, ticks_in}
use Rattle.machine.specs.Replays.{replay}
use Rattle.pn_types.specs.Settings.{AreInRange}
use Rattle.pn_types.specs.declared.image.Image.{Image}
use Rattle.rv_exec.proofs.Runs.{length-run_from}
use Rattle.rv_exec.specs.Start.{harts_from, start}
use Rattle.rv_mem.specs.Start.{program_of}
use Rattle.session_spec.specs.Inputs.{Inputs}
use Rattle.session_spec.specs.Run.{IsRun}
use Rattle.session_spec.specs.States.{State}
use Rattle.tramp_spec.specs.Harts.{Hart}

ticks_few : (limit : ℕ) (xs : List Hart) → ((h : ℕ) (x : Hart) → slice_get xs h ≡ Some x → x.ticks ≤ limit) → ticks_in xs ≤ length xs * limit
ticks_few limit [] low = omega arith
ticks_few limit (x ∷ xs) low =
    let rest = ticks_few limit xs (λ h y e. low (suc h) y e) in
    let one : x.ticks ≤ limit = low 0 x refl in
    let more : suc (length xs) * limit ≡ limit + length xs * limit = omega arith in
    omega arith

budget_stays : (es : List Event) (c : Core) → (replay es c).budget ≡ c.budget
budget_stays [] c = refl
budget_stays (e ∷ es) c = budget_stays es (after_event c e) ∙ (fixed c e).1

many_harts : (more h n : ℕ) (image : Image) → length (harts_from more h image n) ≡ more
many_harts zero h n image = refl
many_harts (suc more) h n image = ap suc (many_harts more (h + 1) n image)

pub early : TimeGoesOn → (i : Inputs) (s : State) → AreInRange i.settings → IsRun i s → s.kept.time < 2 ^ 64
early goes_on i s range r =
    let n = i.settings.harts in
    let begins = start_core i.image n i.settings.budget in
    let many : length s.kept.machine.core.harts ≡ n =
    (r.same).many ∙ (length-run_from (program_of i.image) s.owns (start i.image n) ∙ many_harts n 0 n i.image) in
    let budget : s.kept.machine.core.budget ≡ i.settings.budget = ap (λ (c : Core). c.budget) r.core ∙ budget_stays r.events begins in
    let few = ticks_few s.kept.machine.core.budget s.kept.machine.core.harts r.budget in
    let most = mul-le (length s.kept.machine.core.harts) s.kept.machine.core.budget 32 100000000 (let m = range.harts.1 in omega (arith, many)) (let b = range.budget.1 in omega (arith, budget)) in
    let all = goes_on r.events begins in
    let ticks = ap (λ (c : Core). ticks_in c.harts) r.core in
    let own = ap (λ (l : List ℕ). length l) r.owns in
    let time = r.time in
    omega arith
