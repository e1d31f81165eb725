-- An admission of the code is the definitions'.
use Rattle.std.proofs.Common.{◌≡◌, ℕ, zero, suc, ◌+◌, ◌-◌, ◌≤◌, List, [], ◌∷◌, ◌++◌, Option, Some, None, Ok, Err, refl, sym, ap, ap₂, ◌∙◌, subst, arith, length}
use Rattle.std.specs.Prelude.{Bool, true, false, cond, Result, drop, map, replicate, take}
use Rattle.std.specs.List.{AllByRecursion}
use Rattle.std.proofs.lemmas.List.{length-append, length-map, map-append}
use Rattle.fold_hist.specs.Bins.{Histogram}
use Rattle.pn_types.specs.declared.pick.PickCause.{PickCause}
use Rattle.pn_types.specs.declared.plan.Plan.{Plan}
use Rattle.mdl_check.specs.declared.checked.CheckedWish.{CheckedWish}
use Rattle.mdl_plan.specs.declared.fault.PlanFault.{PlanFault}
use Rattle.instrument.specs.Placements.{Placements, admission}
use Rattle.instrument.specs.declared.number.Refused.{Refused}
use Rattle.session_spec.specs.declared.data.MetricFocusPair.{MetricFocusPair}
use Rattle.session_spec.specs.Inputs.{Inputs, cause_of_plan, cause_of_refusal, planned}
use Rattle.session_spec.specs.States.{SessionState}
use Rattle.session_spec.specs.Admission.{shown_now, with_admission, with_answer, with_drop, with_plan, with_refused, with_show, with_wish, with_wishes}
use Rattle.session_spec.specs.Opening.{with_all}
use Rattle.session_spec.specs.Readings.{lasts_with}
use Rattle.session_spec.specs.Tests.{taken_at_once, with_tests}
use Rattle.session_spec.proofs.Going.{wish_time}
use Rattle.session_pairs.specs.declared.pair.SampledPair.{SampledPair}
use Rattle.session_pairs.specs.SampledPairs.{AreLive}
use Rattle.session_pairs.proofs.Dropped.{shown_in}
use Rattle.session.specs.Tables.{IsAfterAdmission, IsCount, IsMore, IsNew, IsStill, StateTable, hist_at, kept_of}
use Rattle.session.proofs.Counting.{count_low, take_many}
use Rattle.session.proofs.Steps.{none_more, still_first}

-- ---- a wish doesn't look at those that are to come

module _ (i : Inputs) (w : CheckedWish) (ws : List CheckedWish) (k : SessionState) where
  refused_beside : (o : Option PickCause) → with_refused o w (record k { wishes = ws }) ≡ record (with_refused o w k) { wishes = ws }
  refused_beside None = refl
  refused_beside (Some cause) = refl

  answer_beside : (r : Result Placements Refused) (plan : Plan) → with_answer r w plan (record k { wishes = ws }) ≡ record (with_answer r w plan k) { wishes = ws }
  answer_beside (Err refused) plan = refused_beside (cause_of_refusal refused)
  answer_beside (Ok q) plan = refl

  plan_beside : (r : Result Plan PlanFault) → with_plan r w (record k { wishes = ws }) ≡ record (with_plan r w k) { wishes = ws }
  plan_beside (Err fault) = refused_beside (Some (cause_of_plan fault))
  plan_beside (Ok plan) = answer_beside (admission k.machine.placer plan None) plan

  show_beside : (o : Option MetricFocusPair) → with_show o i w (record k { wishes = ws }) ≡ record (with_show o i w k) { wishes = ws }
  show_beside (Some s) = refl
  show_beside None = plan_beside (planned i w.metric w.focus)

  drop_beside : (o : Option MetricFocusPair) → with_drop o w (record k { wishes = ws }) ≡ record (with_drop o w k) { wishes = ws }
  drop_beside None = refl
  drop_beside (Some s) = refl

  wish_beside : with_wish i w (record k { wishes = ws }) ≡ record (with_wish i w k) { wishes = ws }
  unfolding with_wish
  wish_beside = by w.show
    where
      by : (b : Bool) → cond b (with_show (shown_now k w) i w (record k { wishes = ws })) (with_drop (shown_now k w) w (record k { wishes = ws }))
          ≡ record (cond b (with_show (shown_now k w) i w k) (with_drop (shown_now k w) w k)) { wishes = ws }
      by true = show_beside (shown_now k w)
      by false = drop_beside (shown_now k w)

-- those that aren't above the time are looked at, and the others are left
wishes_are : (i : Inputs) (ws : List CheckedWish) (n : ℕ) (k : SessionState) → IsCount k.time ws n → k.wishes ≡ ws → with_wishes i ws k ≡ with_all i (take n ws) (record k { wishes = drop n ws })
wishes_are i [] n k c e = subst (λ m. k ≡ with_all i (take m []) (record k { wishes = drop m [] })) (sym c) (ap (λ x. record k { wishes = x }) e)
wishes_are i (w ∷ ws) zero k c e = ap (λ b. cond b (with_wishes i ws (with_wish i w (record k { wishes = ws }))) k) c ∙ ap (λ x. record k { wishes = x }) e
wishes_are i (w ∷ ws) (suc n) k c e =
    let one = with_wish i w (record k { wishes = ws }) in
    let time : one.time ≡ k.time = wish_time i w (record k { wishes = ws }) in
    let left : one.wishes ≡ ws = ap (λ (x : SessionState). x.wishes) (wish_beside i w ws k) in
    ap (λ b. cond b (with_wishes i ws one) k) c.0
    ∙ (wishes_are i ws n one (subst (λ t. IsCount t ws n) (sym time) c.1) left
    ∙ ap (with_all i (take n ws)) (ap (λ (x : SessionState). record x { wishes = drop n ws }) (wish_beside i w ws k) ∙ sym (wish_beside i w (drop n ws) k)))

-- ---- what is known of new pairs

abbrev lasts_in : List SampledPair → List ℕ
lasts_in pairs = map (λ (k : SampledPair). k.last) pairs

new_lasts : (i : Inputs) (more : List SampledPair) → AllByRecursion (IsNew i) more → lasts_in more ≡ replicate (length more) 0
new_lasts i [] a = refl
new_lasts i (k ∷ more) a = ap₂ (λ (x : ℕ) (xs : List ℕ). x ∷ xs) (a.0).last (new_lasts i more a.1)

-- how many are new
many_new : (old more new : List SampledPair) → new ≡ old ++ more → length (shown_in new) - length (lasts_in old) ≡ length more
many_new old more new e =
    let a = length-map new (λ (k : SampledPair). k.shown) in
    let b = length-map old (λ (k : SampledPair). k.last) in
    let c = ap (λ (l : List SampledPair). length l) e in
    let d = length-append old more in
    omega arith

pub lasts_more : (i : Inputs) (old new : List SampledPair) → IsMore i old new → lasts_in new ≡ lasts_with (shown_in new) (lasts_in old)
lasts_more i old new m =
    ap lasts_in m.is ∙ (map-append (λ (k : SampledPair). k.last) old m.more ∙ ap (λ l. lasts_in old ++ l) (new_lasts i m.more m.each ∙ ap (λ n. replicate n 0) (sym (many_new old m.more new m.is))))

-- nothing was recorded of them
pub hists_new : (i : Inputs) (more : List SampledPair) → AllByRecursion (IsNew i) more → map (λ (k : SampledPair). k.hist) more ≡ map (λ (s : MetricFocusPair). hist_at i s []) (shown_in more)
hists_new i [] a = refl
hists_new i (k ∷ more) a = ap₂ (λ (x : Option Histogram) (xs : List (Option Histogram)). x ∷ xs) (a.0).hist (hists_new i more a.1)

pub hists_more : (i : Inputs) (old new : List SampledPair) (m : IsMore i old new) → map (λ (k : SampledPair). k.hist) new ≡ map (λ (k : SampledPair). k.hist) old ++ map (λ (s : MetricFocusPair). hist_at i s []) (shown_in m.more)
hists_more i old new m =
    ap (map (λ (k : SampledPair). k.hist)) m.is ∙ (map-append (λ (k : SampledPair). k.hist) old m.more ∙ ap (λ l. map (λ (k : SampledPair). k.hist) old ++ l) (hists_new i m.more m.each))

-- ---- an admission

-- no work was done
pub no_admission : (i : Inputs) (later : List CheckedWish) (t : StateTable) → t.worked ≡ false → AreLive t.machine.state.placer t.pairs t.live → IsAfterAdmission i later t t 0
unfolding with_admission
no_admission i later t e live = record {
  looked = omega arith;
  kept = sym (ap (λ b. cond b (record (with_tests i (with_wishes i later (kept_of later t))) { worked = false }) (kept_of later t)) e);
  pairs = none_more i t.pairs;
  few = omega arith;
  live = live;
  stays = still_first t;
}

some_admitted : (i : Inputs) (later : List CheckedWish) (n : ℕ) (t new : StateTable) → t.worked ≡ true → IsCount t.time later n
    → kept_of (drop n later) new ≡ with_tests i (with_all i (take n later) (kept_of (drop n later) t)) → kept_of (drop n later) (record new { worked = false }) ≡ with_admission i (kept_of later t)
unfolding with_admission
some_admitted i later n t new e c kept =
    ap (λ (k : SessionState). record k { worked = false }) (kept ∙ ap (with_tests i) (sym (wishes_are i later n (kept_of later t) c refl)))
    ∙ sym (ap (λ b. cond b (record (with_tests i (with_wishes i later (kept_of later t))) { worked = false }) (kept_of later t)) e)

-- the wishes were looked at and the nodes taken, and the admission was done
pub one_admission : (i : Inputs) (later : List CheckedWish) (n : ℕ) (t admitted new : StateTable) → t.worked ≡ true → IsCount t.time later n
    → ((ws : List CheckedWish) → kept_of ws admitted ≡ with_tests i (with_all i (take n later) (kept_of ws t))) → IsMore i t.pairs admitted.pairs → length admitted.pairs ≤ length t.pairs + length (take n later) + taken_at_once
    → IsStill t admitted → AreLive admitted.machine.state.placer admitted.pairs admitted.live → new ≡ record admitted { worked = false } → IsAfterAdmission i later t new n
one_admission i later n t admitted new worked count kept pairs few still live is =
    let low = count_low t.time later n count in
    let len = take_many n later low in
    let stays : IsStill t (record admitted { worked = false }) = record { same = ap (λ (x : StateTable). record x { worked = false }) still.same; core = still.core; rules = still.rules } in
    subst (λ (x : StateTable). IsAfterAdmission i later t x n) (sym is) (record {
      looked = low;
      kept = some_admitted i later n t admitted worked count (kept (drop n later));
      pairs = pairs;
      few = omega arith;
      live = live;
      stays = stays;
    })
