-- A report's numbers of a session are small.
use Rattle.std.proofs.Common.{◌≡◌, ℕ, suc, ◌+◌, ◌*◌, ◌<◌, ◌≤◌, ◌^◌, List, [], ◌∷◌, Some, length, map, refl, ap, ◌∙◌, subst, arith}
use Rattle.std.specs.Prelude.{Bool, fold, slice_get, sum_by}
use Rattle.pn_types.specs.declared.quantum.Quantum.{Quantum}
use Rattle.std.proofs.lemmas.List.{length-map}
use Rattle.pn_types.specs.declared.limits.TheConstants.{MAX_BUDGET, MAX_HARTS}
use Rattle.tramp_spec.specs.Harts.{Hart}
use Rattle.mdl_check.specs.declared.checked.CheckedWish.{CheckedWish}
use Rattle.machine.specs.Cores.{Core, start_core}
use Rattle.machine.specs.Events.{Event}
use Rattle.machine.specs.Quanta.{KeepsBudget}
use Rattle.machine.specs.Replays.{replay}
use Rattle.machine.specs.Effects.{after_event}
use Rattle.machine.proofs.Quanta.{budget_is_kept}
use Rattle.machine.proofs.Steps.{fixed}
use Rattle.report.specs.declared.parts.HartPart.{HartPart}
use Rattle.session_spec.specs.Inputs.{Inputs}
use Rattle.session_spec.specs.States.{SessionState}
use Rattle.session_spec.proofs.Runs.{is_run}
use Rattle.session.specs.Kept.{IsTableAfter}
use Rattle.session.specs.Seen.{hart_seen, table_parts}
use Rattle.session.specs.Sessions.{state_at}
use Rattle.session.specs.Tables.{StateTable, lasts_in}

budget_stays : (es : List Event) (c : Core) → (replay es c).budget ≡ c.budget
budget_stays [] c = refl
budget_stays (e ∷ es) c = budget_stays es (after_event c e) ∙ (fixed c e).1

-- the ticks of all harts together
sum_from : (budget limit : ℕ) (c : Core) (xs : List Hart) (a : ℕ) → ((h : ℕ) (x : Hart) → slice_get xs h ≡ Some x → x.ticks ≤ limit) → fold (λ n (part : HartPart). n + part.ticks) a (map (hart_seen budget c) xs) ≤ a + length xs * limit
sum_from budget limit c [] a low = omega arith
sum_from budget limit c (x ∷ xs) a low =
    let rest = sum_from budget limit c xs (a + x.ticks) (λ h y e. low (suc h) y e) in
    let first : x.ticks ≤ limit = low 0 x refl in
    let more : suc (length xs) * limit ≡ limit + length xs * limit = omega arith in
    omega arith

module _ (i : Inputs) (quanta : List Quantum) (over : Bool) (later : List CheckedWish) (t : StateTable) (k : IsTableAfter i quanta over later t) where
  low : (h : ℕ) (x : Hart) → slice_get t.machine.state.core.harts h ≡ Some x → x.ticks ≤ MAX_BUDGET
  low h x e =
      let first = start_core i.image i.settings.harts i.settings.budget in
      let ran = is_run i (state_at i quanta over) (lasts_in t.pairs) k.state.sound in
      let core : t.machine.state.core ≡ replay ran.events first = ap (λ (x : SessionState). x.machine.core) k.state.kept ∙ ran.core in
      let below : KeepsBudget (replay ran.events first) = budget_is_kept i.image i.settings.harts i.settings.budget ran.events k.state.sound.tied.program ran.legal in
      let few = below h x (subst (λ (c : Core). slice_get c.harts h ≡ Some x) core e) in
      let budget = budget_stays ran.events first in
      let most = k.given.settings.budget.1 in
      omega arith

  pub parts_few : length (table_parts i t).harts ≤ MAX_HARTS
  parts_few =
      let many = length-map t.machine.state.core.harts (hart_seen i.settings.budget t.machine.state.core) in
      let harts = k.harts in
      let most = k.given.settings.harts.1 in
      omega arith

  pub ticks_few : sum_by (λ part. part.ticks) (table_parts i t).harts < 2 ^ 64
  ticks_few =
      let sum = sum_from i.settings.budget MAX_BUDGET t.machine.state.core t.machine.state.core.harts 0 low in
      let harts = k.harts in
      let most = k.given.settings.harts.1 in
      omega arith
