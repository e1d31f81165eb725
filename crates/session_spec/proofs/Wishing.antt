-- A wish that is looked at keeps what is known of how a session's state came about.
use Rattle.std.proofs.Common.{◌≡◌, ℕ, List, [], ◌∷◌, Option, Some, None, Ok, Err, refl, sym, ◌∙◌, inl, inr}
use Rattle.std.specs.Prelude.{Bool, true, false, cond, is_none, nat_le, not, ◌&&◌, ◌==◌, ◌⊎◌, Result}
use Rattle.std.proofs.lemmas.Bool.{true≢false, and_parts}
use Rattle.pn_types.specs.declared.plan.Plan.{Plan}
use Rattle.mdl_check.specs.Rules.{is_same_focus}
use Rattle.mdl_check.specs.declared.checked.CheckedWish.{CheckedWish}
use Rattle.mdl_plan.specs.declared.fault.PlanFault.{PlanFault}
use Rattle.machine.proofs.Lists.{find_gives}
use Rattle.instrument.specs.Placements.{Placements, admission, is_leaving, state_of}
use Rattle.instrument.specs.declared.number.Refused.{Refused}
use Rattle.instrument.specs.declared.number.State.{State}
use Rattle.instrument.specs.declared.number.State.TheVariants.{Armed, Placing, Leaving, Gone}
use Rattle.session_spec.specs.declared.data.MetricFocusPair.{MetricFocusPair}
use Rattle.session_spec.specs.Inputs.{Inputs, cause_of_plan, cause_of_refusal, planned}
use Rattle.session_spec.specs.States.{SessionState}
use Rattle.session_spec.specs.Admission.{shown_now, shows, with_answer, with_drop, with_plan, with_refused, with_show, with_wish, with_wishes}
use Rattle.session_spec.specs.Opening.{with_all}
use Rattle.session_spec.specs.Ties.{IsTied}
use Rattle.session_spec.specs.Plans.{ArePlansGood}
use Rattle.session_spec.specs.Readings.{lasts_with}
use Rattle.session_spec.proofs.Admitting.{IsMoved, admits_moved, drops_moved, moved_on, same_moved}

-- ---- no time passes

-- no time passed, and no sample was taken
pub record IsAtOnce (k d : SessionState) : Type 0 where
  pub time : d.time ≡ k.time
  pub last : d.last ≡ k.last

pub once_on : (k d e : SessionState) → IsAtOnce k d → IsAtOnce d e → IsAtOnce k e
once_on k d e a b = record { time = b.time ∙ a.time; last = b.last ∙ a.last }

module _ (i : Inputs) (w : CheckedWish) (k : SessionState) where
  refused_once : (o : Option _) → IsAtOnce k (with_refused o w k)
  refused_once None = record { time = refl; last = refl }
  refused_once (Some cause) = record { time = refl; last = refl }

  answer_once : (r : Result Placements Refused) (plan : Plan) → IsAtOnce k (with_answer r w plan k)
  answer_once (Err refused) plan = refused_once (cause_of_refusal refused)
  answer_once (Ok q) plan = record { time = refl; last = refl }

  plan_once : (r : Result Plan PlanFault) → IsAtOnce k (with_plan r w k)
  plan_once (Err fault) = refused_once (Some (cause_of_plan fault))
  plan_once (Ok plan) = answer_once (admission k.machine.placer plan None) plan

  show_once : (o : Option MetricFocusPair) → IsAtOnce k (with_show o i w k)
  show_once (Some s) = record { time = refl; last = refl }
  show_once None = plan_once (planned i w.metric w.focus)

  drop_once : (o : Option MetricFocusPair) → IsAtOnce k (with_drop o w k)
  drop_once None = record { time = refl; last = refl }
  drop_once (Some s) = record { time = refl; last = refl }

  pub wish_once : IsAtOnce k (with_wish i w k)
  unfolding with_wish
  wish_once = by w.show
    where
      by : (b : Bool) → IsAtOnce k (cond b (with_show (shown_now k w) i w k) (with_drop (shown_now k w) w k))
      by true = show_once (shown_now k w)
      by false = drop_once (shown_now k w)

abbrev one_wish : Inputs → CheckedWish → List CheckedWish → SessionState → SessionState
one_wish i w ws k = with_wish i w (record k { wishes = ws })

pub wishes_once : (i : Inputs) (ws : List CheckedWish) (k : SessionState) → IsAtOnce k (with_wishes i ws k)
wishes_once i [] k = record { time = refl; last = refl }
wishes_once i (w ∷ ws) k = by (nat_le w.at k.time) (wishes_once i ws (one_wish i w ws k))
  where
    by : (b : Bool) → IsAtOnce (one_wish i w ws k) (with_wishes i ws (one_wish i w ws k)) → IsAtOnce k (cond b (with_wishes i ws (one_wish i w ws k)) k)
    by true e = let one = wish_once i w (record k { wishes = ws }) in record { time = e.time ∙ one.time; last = e.last ∙ one.last }
    by false e = record { time = refl; last = refl }

pub all_once : (i : Inputs) (ws : List CheckedWish) (k : SessionState) → IsAtOnce k (with_all i ws k)
all_once i [] k = record { time = refl; last = refl }
all_once i (w ∷ ws) k = once_on k (with_wish i w k) (with_all i ws (with_wish i w k)) (wish_once i w k) (all_once i ws (with_wish i w k))

-- ---- a pair that is shown isn't leaving

pub stands : (q : State) → not (is_leaving q) ≡ true → (q ≡ Placing) ⊎ (q ≡ Armed)
stands Placing e = inl refl
stands Armed e = inr refl
stands Leaving e = absurd (true≢false (sym e))
stands Gone e = absurd (true≢false (sym e))

pub stands_now : (p : Placements) (w : CheckedWish) (s : MetricFocusPair) → shows p w s ≡ true → (state_of p s.instrument.n ≡ Placing) ⊎ (state_of p s.instrument.n ≡ Armed)
stands_now p w s e =
    let wished = and_parts (is_none s.node) ((s.metric == w.metric) && (is_same_focus (Some s.focus) (Some w.focus) && not (is_leaving (state_of p s.instrument.n)))) e in
    let a = and_parts (s.metric == w.metric) (is_same_focus (Some s.focus) (Some w.focus) && not (is_leaving (state_of p s.instrument.n))) wished.1 in
    let b = and_parts (is_same_focus (Some s.focus) (Some w.focus)) (not (is_leaving (state_of p s.instrument.n))) a.1 in
    stands (state_of p s.instrument.n) b.1

pub shown_stands : (k : SessionState) (w : CheckedWish) (s : MetricFocusPair) → shown_now k w ≡ Some s
    → (state_of k.machine.placer s.instrument.n ≡ Placing) ⊎ (state_of k.machine.placer s.instrument.n ≡ Armed)
shown_stands k w s e = stands_now k.machine.placer w s (find_gives (shows k.machine.placer w) k.shown s e).1

-- ---- a wish

abbrev pub Moves : Inputs → List ℕ → List ℕ → SessionState → SessionState → Type 0
Moves i own lasts k d = IsMoved i own lasts k.machine k.shown d.machine d.shown

pub on : (i : Inputs) (own lasts : List ℕ) (k d e : SessionState) → Moves i own lasts k d → Moves i own (lasts_with d.shown lasts) d e → Moves i own lasts k e
on i own lasts k d e a b = moved_on i own lasts k.machine d.machine e.machine k.shown d.shown e.shown a b

module _ (i : Inputs) (good : ArePlansGood i) (own : List ℕ) where
  module _ (lasts : List ℕ) (w : CheckedWish) (k : SessionState) (t : IsTied i k.machine own k.shown lasts) where
    refused_moved : (o : Option _) → Moves i own lasts k (with_refused o w k)
    refused_moved None = same_moved i k.machine own k.shown lasts t
    refused_moved (Some cause) = same_moved i k.machine own k.shown lasts t

    answer_moved : (plan : Plan) → planned i w.metric w.focus ≡ Ok plan → (r : Result Placements Refused) → admission k.machine.placer plan None ≡ r
        → Moves i own lasts k (with_answer r w plan k)
    answer_moved plan e (Err refused) a = refused_moved (cause_of_refusal refused)
    answer_moved plan e (Ok q) a = admits_moved i k.machine own k.shown lasts t plan None None w.metric w.focus e (good w.metric w.focus plan e) q a

    plan_moved : (r : Result Plan PlanFault) → planned i w.metric w.focus ≡ r → Moves i own lasts k (with_plan r w k)
    plan_moved (Err fault) e = refused_moved (Some (cause_of_plan fault))
    plan_moved (Ok plan) e = answer_moved plan e (admission k.machine.placer plan None) refl

    show_moved : (o : Option MetricFocusPair) → Moves i own lasts k (with_show o i w k)
    show_moved (Some s) = same_moved i k.machine own k.shown lasts t
    show_moved None = plan_moved (planned i w.metric w.focus) refl

    drop_moved : (o : Option MetricFocusPair) → shown_now k w ≡ o → Moves i own lasts k (with_drop o w k)
    drop_moved None e = same_moved i k.machine own k.shown lasts t
    drop_moved (Some s) e = drops_moved i k.machine own k.shown lasts t s.instrument.n (shown_stands k w s e)

    pub wish_moved : Moves i own lasts k (with_wish i w k)
    unfolding with_wish
    wish_moved = by w.show
      where
        by : (b : Bool) → Moves i own lasts k (cond b (with_show (shown_now k w) i w k) (with_drop (shown_now k w) w k))
        by true = show_moved (shown_now k w)
        by false = drop_moved (shown_now k w) refl

  pub wishes_moved : (ws : List CheckedWish) (lasts : List ℕ) (k : SessionState) → IsTied i k.machine own k.shown lasts → Moves i own lasts k (with_wishes i ws k)
  wishes_moved [] lasts k t = same_moved i k.machine own k.shown lasts t
  wishes_moved (w ∷ ws) lasts k t = by (nat_le w.at k.time) (λ m d u. wishes_moved ws m d u)
    where
      by : (b : Bool) → ((m : List ℕ) (d : SessionState) → IsTied i d.machine own d.shown m → Moves i own m d (with_wishes i ws d))
          → Moves i own lasts k (cond b (with_wishes i ws (one_wish i w ws k)) k)
      by true ih =
          let one = wish_moved lasts w (record k { wishes = ws }) t in
          on i own lasts k (one_wish i w ws k) (with_wishes i ws (one_wish i w ws k)) one (ih (lasts_with (one_wish i w ws k).shown lasts) (one_wish i w ws k) one.tied)
      by false ih = same_moved i k.machine own k.shown lasts t

  pub all_moved : (ws : List CheckedWish) (lasts : List ℕ) (k : SessionState) → IsTied i k.machine own k.shown lasts → Moves i own lasts k (with_all i ws k)
  all_moved [] lasts k t = same_moved i k.machine own k.shown lasts t
  all_moved (w ∷ ws) lasts k t =
      let one = wish_moved lasts w k t in
      on i own lasts k (with_wish i w k) (with_all i ws (with_wish i w k)) one (all_moved ws (lasts_with (with_wish i w k).shown lasts) (with_wish i w k) one.tied)
