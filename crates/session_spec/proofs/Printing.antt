-- Where all wishes are for the opening, and none drops a pair, each pair that was wished is armed at time 0 and sampled to the end.
use Rattle.std.proofs.Common.{◌≡◌, ℕ, ◌≤◌, zero, suc, Bool, true, false, cond, Option, Some, None, Ok, Err, List, [], ◌∷◌, length, map, refl, sym, ap, subst, ◌∙◌, inl, inr, ◌⊎◌, ⊎_elim}
use Rattle.std.specs.Prelude.{filter, nat_lt, not, slice_get, ◌==◌, Result}
use Rattle.std.proofs.lemmas.Bool.{true≢false, cond_both, cond-true, eq-eqb}
use Rattle.fold_hist.specs.Bins.{hist_of}
use Rattle.fold_hist.specs.declared.bin.Bin.{Bin}
use Rattle.pn_types.specs.declared.quantum.Quantum.{Quantum}
use Rattle.pn_types.specs.declared.plan.Plan.{Plan}
use Rattle.pn_types.specs.declared.pick.PickCause.{PickCause}
use Rattle.pn_types.specs.declared.pick.PickCause.TheVariants.{AlreadyShown}
use Rattle.machine.specs.Cores.{In}
use Rattle.machine.specs.Events.{Event}
use Rattle.machine.specs.Laws.{IsProgram}
use Rattle.machine.specs.States.{quantum_turns, settling}
use Rattle.machine.proofs.Arming.{get_map}
use Rattle.machine.proofs.Lists.{in_filter}
use Rattle.mdl_check.specs.declared.checked.CheckedWish.{CheckedWish}
use Rattle.mdl_plan.specs.declared.fault.PlanFault.{PlanFault}
use Rattle.instrument.specs.Placements.{Placements, admission, is_leaving, or_same, state_of}
use Rattle.instrument.specs.Scenes.{Admits}
use Rattle.instrument.specs.declared.number.Refused.{Refused}
use Rattle.instrument.specs.declared.number.State.{State as Stage}
use Rattle.instrument.specs.declared.number.State.TheVariants.{Placing, Armed, Leaving, Gone}
use Rattle.instrument.proofs.Numbers as numbers
use Rattle.instrument.proofs.Going.{get_in}
use Rattle.instrumented.specs.Instrumented.{Instrumented, after_act, after_turns}
use Rattle.w3_search.specs.declared.node.NodeSample.{NodeSample}
use Rattle.session_spec.specs.declared.data.MetricFocusPair.{MetricFocusPair}
use Rattle.session_spec.specs.Inputs.{Inputs, by_tick, cause_of_plan, cause_of_refusal, first_wishes, later_wishes, planned}
use Rattle.session_spec.specs.States.{SessionState, State, first_kept}
use Rattle.session_spec.specs.Admission.{shown_next, shown_now, with_answer, with_drop, with_plan, with_refused, with_show, with_wish}
use Rattle.session_spec.specs.Turns.{with_hart, with_quiet}
use Rattle.session_spec.specs.Due.{all_armed, arm_all, armed_at, is_armed, is_armed_state, is_ready, machine_armed, sampled_to, with_arms, with_frees}
use Rattle.session_spec.specs.Due as due
use Rattle.session_spec.specs.Opening.{opening_state, wished, with_agenda, with_all}
use Rattle.session_spec.specs.Plans.{ArePlansGood}
use Rattle.session_spec.specs.Tests.{with_tests}
use Rattle.session_spec.specs.Work.{final_state, first_state, is_due, state_admitted, state_armed, state_done, state_ended, state_handed, state_judged, state_last, state_next, state_quiet, state_sampled, state_turned, state_worked, after_quantum, tests_now, after_quanta, after_quanta_from}
use Rattle.session_spec.specs.Rosters.{AreNumbered}
use Rattle.session_spec.proofs.Acting.{admitted_placer, taken_placer}
use Rattle.session_spec.specs.Printed.{AreForOpening, IsWholeRun}
use Rattle.session_spec.specs.LastReadings.{lasts_of}
use Rattle.session_spec.specs.Laws.{PrintedTold}
use Rattle.session_spec.specs.Bins.{AreMeasured}
use Rattle.session_spec.proofs.AdmittingSteps.{tests_kept}
use Rattle.session_spec.proofs.Grown.{some_same}
use Rattle.session_spec.proofs.Keeping.{Tells, recorded_told, start_telling, tell_keeps, tells_admitted, tells_armed, tells_ended, tells_first, tells_handed, tells_judged, tells_next, tells_quiet, tells_sampled, tells_turned}
use Rattle.session_spec.proofs.Opening.{armed_first}
use Rattle.session_spec.proofs.Pairs.{IsPair}
use Rattle.session_spec.proofs.Passing.{none_closed}
use Rattle.session_spec.proofs.Staying.{AreStaying, IsStaying, admits_hold, armed_all, stay_admission, stay_agenda, stay_end, stay_entries, stay_frees, stay_next, stay_nodes, stay_push, stay_verdicts}
use Rattle.session_spec.proofs.Reading.{closed_sound, work_sound}
use Rattle.session_spec.proofs.Testers.{armed_behind, pair_at, row}

abbrev any : MetricFocusPair → Type 0
any x = Unit {0}

abbrev at_zero : MetricFocusPair → Type 0
at_zero x = x.armed ≡ Some 0

-- one after the armings, and what was there
was_at : (t : ℕ) (xs : List MetricFocusPair) (m : Instrumented) (k : ℕ) (y : MetricFocusPair) → slice_get (all_armed t m xs) k ≡ Some y → (x : MetricFocusPair) × (slice_get xs k ≡ Some x) × (y.instrument.n ≡ x.instrument.n)
was_at t [] m k y e = absurd cc
was_at t (z ∷ xs) m zero y e =
    let same : armed_at t m z ≡ y = some_same (armed_at t m z) y e in
    (z, refl, ap (λ (v : MetricFocusPair). v.instrument.n) (sym same) ∙ by (is_ready m z))
  where
    by : (b : Bool) → (cond b (record z { armed = Some t; from = t }) z).instrument.n ≡ z.instrument.n
    by true = refl
    by false = refl
was_at t (z ∷ xs) m (suc k) y e = was_at t xs (machine_armed m z) k y e

-- ---- the wishes of the opening

first_shows : (ws : List CheckedWish) → ((w : CheckedWish) → In w ws → (w.at ≡ 0) × (w.show ≡ true)) → filter (λ w. not (w.at == 0)) ws ≡ []
first_shows [] f = refl
first_shows (w ∷ ws) f =
    ap (λ (b : Bool). cond (not b) (w ∷ filter (λ w. not (w.at == 0)) ws) (filter (λ w. not (w.at == 0)) ws)) (eq-eqb w.at 0 (f w (inl refl)).0)
    ∙ first_shows ws (λ v h. f v (inr h))

module _ (i : Inputs) where
  refused_stays : (o : Option PickCause) (w : CheckedWish) (k : SessionState) → IsStaying i any [] [] k → IsStaying i any [] [] (with_refused o w k)
  refused_stays None w k s = s
  refused_stays (Some cause) w k s =
      record { tell = (tell_keeps i [] []).beside k (with_refused (Some cause) w k) (record { machine = refl; shown = refl; search = refl; time = refl; last = refl; due = refl }) s.tell; wishes = s.wishes; stay = s.stay }

  new_placing : (k : SessionState) (plan : Plan) (cost : Option ℕ) (placer : Placements) → AreNumbered k.machine.placer → admission k.machine.placer plan cost ≡ Ok placer
      → is_leaving (state_of (after_act (Admits plan cost) k.machine).placer k.machine.placer.count) ≡ false
  new_placing k plan cost placer r e =
      let p = k.machine.placer in
      let placer_is = admitted_placer plan cost k.machine ∙ ap (or_same p) e in
      ap (λ (q : Placements). is_leaving (state_of q p.count)) placer_is ∙ ap is_leaving (numbers.admissions_tell p plan cost placer r.numbered e).state

  answer_stays : (plan : Plan) (w : CheckedWish) (k : SessionState) (a : Result Placements Refused) → planned i w.metric w.focus ≡ Ok plan → admission k.machine.placer plan None ≡ a → IsStaying i any [] [] k
      → IsStaying i any [] [] (with_answer a w plan k)
  answer_stays plan w k (Err refused) is e s = refused_stays (cause_of_refusal refused) w k s
  answer_stays plan w k (Ok placer) is e s = record {
    tell = (tell_keeps i [] []).wished k plan w placer is e s.tell;
    wishes = s.wishes;
    stay = stay_push i any k.machine.placer (after_act (Admits plan None) k.machine).placer k.shown (shown_next w k) (admits_hold i any plan None k.machine s.tell.roster)
        (λ o. (new_placing k plan None placer s.tell.roster e, tt)) s.stay;
  }

  plan_stays : (r : Result Plan PlanFault) (w : CheckedWish) (k : SessionState) → planned i w.metric w.focus ≡ r → IsStaying i any [] [] k → IsStaying i any [] [] (with_plan r w k)
  plan_stays (Err fault) w k is s = refused_stays (Some (cause_of_plan fault)) w k s
  plan_stays (Ok plan) w k is s = answer_stays plan w k (admission k.machine.placer plan None) is refl s

  show_stays : (o : Option MetricFocusPair) (w : CheckedWish) (k : SessionState) → IsStaying i any [] [] k → IsStaying i any [] [] (with_show o i w k)
  show_stays (Some x) w k s = refused_stays (Some AlreadyShown) w k s
  show_stays None w k s = plan_stays (planned i w.metric w.focus) w k refl s

  wish_stays : (w : CheckedWish) (k : SessionState) → w.show ≡ true → IsStaying i any [] [] k → IsStaying i any [] [] (with_wish i w k)
  unfolding with_wish
  wish_stays w k e s = subst (IsStaying i any [] []) (sym (cond-true w.show (with_show (shown_now k w) i w k) (with_drop (shown_now k w) w k) e)) (show_stays (shown_now k w) w k s)

  all_stay : (ws : List CheckedWish) (k : SessionState) → ((w : CheckedWish) → In w ws → w.show ≡ true) → IsStaying i any [] [] k → IsStaying i any [] [] (with_all i ws k)
  all_stay [] k f s = s
  all_stay (w ∷ ws) k f s = all_stay ws (with_wish i w k) (λ v h. f v (inr h)) (wish_stays w k (f w (inl refl)) s)

  -- ---- what becomes of them where some are armed

  module _ (owns : List ℕ) (rs : List (List Bin)) (Z : MetricFocusPair → Type 0) (k : SessionState) (s : IsStaying i Z owns rs k) (n : ℕ) (y : MetricFocusPair) (e : slice_get (all_armed k.time k.machine k.shown) n ≡ Some y)
      (o : y.node ≡ None) where
    -- one after the armings, and what it was
    record WasArmed : Type 0 where
      x : MetricFocusPair
      listed : slice_get k.shown n ≡ Some x
      same : (y ≡ x) ⊎ (state_of k.machine.placer x.instrument.n ≡ Placing)
      node : x.node ≡ None
      stays : is_leaving (state_of (arm_all k.machine k.shown).placer y.instrument.n) ≡ false

    was_armed : WasArmed
    was_armed =
        let t = s.tell in
        let f = was_at k.time k.shown k.machine n y e in
        let x = f.0 in
        let b = armed_behind i owns k.time t.time k.shown k.machine n x t.roster t.apart f.1 in
        let is : b.0 ≡ y = some_same b.0 y (sym b.1 ∙ e) in
        let node : x.node ≡ None = sym b.2.node ∙ (ap (λ (v : MetricFocusPair). v.node) is ∙ o) in
        let st = s.stay n x f.1 node in
        record {
          x = x;
          listed = f.1;
          same = subst (λ (v : MetricFocusPair). (v ≡ x) ⊎ (state_of k.machine.placer x.instrument.n ≡ Placing)) is b.2.same;
          node = node;
          stays = ap (λ (m : ℕ). is_leaving (state_of (arm_all k.machine k.shown).placer m)) f.2 ∙ armed_all x.instrument.n k.shown k.machine t.roster st.0;
        }

  module _ (first : AreForOpening i) where
    none_later : later_wishes i ≡ []
    none_later = ap by_tick (first_shows i.checked.wishes first)

    start_stays : IsStaying i any [] [] (first_kept i)
    start_stays = record { tell = start_telling i; wishes = none_later; stay = λ n x e o. absurd cc }

    picked_stays : IsStaying i any [] [] (with_tests i (wished i))
    unfolding wished
    picked_stays =
        tests_kept i (IsStaying i any [] []) (stay_nodes i any [] []) (wished i)
        (all_stay (first_wishes i) (first_kept i) (λ w h. (first w (in_filter (λ (v : CheckedWish). v.at == 0) i.checked.wishes w h).0).1) start_stays)

    -- ---- the opening is armed

    module _ (program : IsProgram i.image) (good : ArePlansGood i) where
      opened_stays : AreStaying at_zero (opening_state i).machine.placer (opening_state i).shown
      unfolding with_arms
      opened_stays n y e o =
          let k = with_agenda (with_tests i (wished i)) in
          let w = was_armed [] [] any k (stay_agenda i any [] [] (with_tests i (wished i)) picked_stays) n y e o in
          (w.stays, armed_first i program good n y e w.stays)

      opened_wishes : (opening_state i).wishes ≡ []
      unfolding with_arms
      opened_wishes = (stay_agenda i any [] [] (with_tests i (wished i)) picked_stays).wishes

-- ---- a quantum

never : (a : ℕ) → None ≡ Some a → ⊥
never a e = cc

-- what holds of a state
record IsAll (i : Inputs) (s : State) : Type 0 where
  tells : Tells i s
  wishes : s.kept.wishes ≡ []
  stay : AreStaying at_zero s.kept.machine.placer s.kept.shown

module _ (i : Inputs) where
  staying : (s : State) → IsAll i s → IsStaying i at_zero s.owns s.recorded s.kept
  staying s z = record { tell = z.tells.kept; wishes = z.wishes; stay = z.stay }

  all_admitted : (s : State) → IsAll i s → IsAll i (state_admitted i s)
  all_admitted s z =
      let a = stay_admission i at_zero s.owns s.recorded s.kept (staying s z) in
      record { tells = tells_admitted i s z.tells; wishes = a.wishes; stay = a.stay }

  turns_stay : (turns : List Event) (m : Instrumented) (xs : List MetricFocusPair) → AreStaying at_zero m.placer xs → AreStaying at_zero (after_turns turns m).placer xs
  turns_stay turns m xs h = subst (λ (p : Placements). AreStaying at_zero p xs) (sym (taken_placer turns m)) h

  all_turned : (h n : ℕ) (s : State) → IsAll i s → IsAll i (state_turned h n s)
  unfolding with_hart
  all_turned h n s z = record { tells = tells_turned i h n s z.tells; wishes = z.wishes; stay = turns_stay (quantum_turns n h s.kept.machine.core) s.kept.machine s.kept.shown z.stay }

  all_quiet : (s : State) → IsAll i s → IsAll i (state_quiet s)
  unfolding with_quiet
  all_quiet s z = record { tells = tells_quiet i s z.tells; wishes = z.wishes; stay = turns_stay (settling s.kept.machine.core) s.kept.machine s.kept.shown z.stay }

  all_handed : (s : State) → IsAll i s → IsAll i (state_handed s)
  all_handed s z =
      let a = stay_entries i at_zero s.owns s.recorded s.kept (staying s z) in
      record { tells = tells_handed i s z.tells; wishes = a.wishes; stay = a.stay }

  sampled_stay : (p : Placements) (t : ℕ) (xs : List MetricFocusPair) → AreStaying at_zero p xs → AreStaying at_zero p (map (sampled_to p t) xs)
  sampled_stay p t xs h n y e o = let g = get_map (sampled_to p t) xs n y e in by g.0 g.1 (is_armed p g.0) g.2
    where
      by : (x : MetricFocusPair) → slice_get xs n ≡ Some x → (b : Bool) → y ≡ cond b (record x { from = t }) x → (is_leaving (state_of p y.instrument.n) ≡ false) × (y.armed ≡ Some 0)
      by x f true g =
          let z = h n x f (ap (λ (v : MetricFocusPair). v.node) (sym g) ∙ o) in
          (ap (λ (v : MetricFocusPair). is_leaving (state_of p v.instrument.n)) g ∙ z.0, ap (λ (v : MetricFocusPair). v.armed) g ∙ z.1)
      by x f false g =
          let z = h n x f (ap (λ (v : MetricFocusPair). v.node) (sym g) ∙ o) in
          (ap (λ (v : MetricFocusPair). is_leaving (state_of p v.instrument.n)) g ∙ z.0, ap (λ (v : MetricFocusPair). v.armed) g ∙ z.1)

  all_sampled : (s : State) → IsAll i s → IsAll i (state_sampled i s)
  unfolding due.with_samples
  all_sampled s z = record { tells = tells_sampled i s z.tells; wishes = z.wishes; stay = sampled_stay s.kept.machine.placer s.kept.time s.kept.shown z.stay }

  arms_stay : (owns : List ℕ) (rs : List (List Bin)) (k : SessionState) → IsStaying i at_zero owns rs k → ((with_arms k).wishes ≡ []) × AreStaying at_zero (with_arms k).machine.placer (with_arms k).shown
  unfolding with_arms
  arms_stay owns rs k s = (
    s.wishes,
    λ n y e o.
        let w = was_armed i owns rs at_zero k s n y e o in
        let z = s.stay n w.x w.listed w.node in (
          w.stays,
          ⊎_elim (λ (v : y ≡ w.x). ap (λ (x : MetricFocusPair). x.armed) v ∙ z.1)
              (λ v. absurd (never 0 (sym ((pair_at i owns k.machine.placer k.shown rs n w.x s.tell.pairs w.listed).placing v) ∙ z.1))) w.same,
        ),
  )

  all_armed_now : (s : State) → IsAll i s → IsAll i (state_armed s)
  all_armed_now s z =
      let f = stay_frees i at_zero s.owns s.recorded s.kept (staying s z) in
      let a = arms_stay s.owns s.recorded (with_frees s.kept) f in
      record { tells = tells_armed i s z.tells; wishes = a.0; stay = a.1 }

  all_judged : (samples : List NodeSample) (s : State) → IsAll i s → IsAll i (state_judged samples s)
  all_judged samples s z =
      let a = stay_verdicts i at_zero s.owns s.recorded samples s.kept (staying s z) in
      record { tells = tells_judged i samples s z.tells; wishes = a.wishes; stay = a.stay }

  all_next : (width : ℕ) (s : State) → IsAll i s → IsAll i (state_next width s)
  all_next width s z =
      let a = stay_next i at_zero s.owns s.recorded width s.kept (staying s z) in
      record { tells = tells_next i width s z.tells; wishes = a.wishes; stay = a.stay }

  all_ended : (s : State) → IsAll i s → IsAll i (state_ended s)
  all_ended s z =
      let a = stay_end i at_zero s.owns s.recorded s.kept (staying s z) in
      record { tells = tells_ended i s z.tells; wishes = a.wishes; stay = a.stay }

  all_done : (s : State) → IsAll i s → IsAll i (state_done i s)
  all_done s z =
      let a = state_armed (state_sampled i s) in
      all_next i.settings.width (state_judged (tests_now i s) a) (all_judged (tests_now i s) a (all_armed_now (state_sampled i s) (all_sampled s z)))

  all_last : (s : State) → IsAll i s → IsAll i (state_last i s)
  all_last s z = all_judged (tests_now i s) (state_sampled i s) (all_sampled s z)

  all_worked : (s : State) → IsAll i s → IsAll i (state_worked i s)
  all_worked s z = cond_both (is_due s.kept) (state_done i (state_quiet s)) s (IsAll i) (λ _. all_done (state_quiet s) (all_quiet s z)) (λ _. z)

  all_tend : (h n : ℕ) (s : State) → IsAll i s → IsAll i (after_quantum i h n s)
  unfolding after_quantum
  all_tend h n s z =
      let a = state_admitted i s in
      let t = state_turned h n a in
      all_worked (state_handed t) (all_handed t (all_turned h n a (all_admitted s z)))

  all_from : (quanta : List Quantum) (s : State) → IsAll i s → IsAll i (after_quanta_from i quanta s)
  all_from [] s z = z
  all_from (q ∷ quanta) s z = all_from quanta (after_quantum i q.hart q.turns s) (all_tend q.hart q.turns s z)

  all_closed : (s : State) → IsAll i s → IsAll i (final_state i s)
  unfolding final_state
  all_closed s z =
      let q = state_quiet s in
      let quiet = all_quiet s z in
      cond_both (nat_lt q.kept.last q.kept.time) (state_last i q) q (λ (x : State). IsAll i (state_ended x)) (λ _. all_ended (state_last i q) (all_last q quiet)) (λ _. all_ended q quiet)

  module _ (program : IsProgram i.image) (good : ArePlansGood i) (first : AreForOpening i) where
    all_first : IsAll i (first_state i)
    all_first = record { tells = tells_first i; wishes = opened_wishes i first program good; stay = opened_stays i first program good }

    all_work : (quanta : List Quantum) → IsAll i (after_quanta i quanta)
    unfolding after_quanta
    all_work quanta = all_from quanta (first_state i) all_first

    -- ---- what is printed

    armed_then : (p : Placements) (owns : List ℕ) (x : MetricFocusPair) (r : List Bin) → IsPair i owns (state_of p x.instrument.n) x r → is_leaving (state_of p x.instrument.n) ≡ false → x.armed ≡ Some 0 → is_armed p x ≡ true
    armed_then p owns x r o l a = by (state_of p x.instrument.n) o l
      where
        by : (q : Stage) → IsPair i owns q x r → is_leaving q ≡ false → is_armed_state q ≡ true
        by Armed o l = refl
        by Placing o l = absurd (never 0 (sym (o.placing refl) ∙ a))
        by Leaving o l = absurd (true≢false l)
        by Gone o l = absurd (true≢false l)

    printed : (quanta : List Quantum) → 1 ≤ i.settings.width → (n : ℕ) (x : MetricFocusPair) (r : List Bin) → slice_get (final_state i (after_quanta i quanta)).kept.shown n ≡ Some x → slice_get (final_state i (after_quanta i quanta)).recorded n ≡ Some r → x.node ≡ None
        → IsWholeRun i (final_state i (after_quanta i quanta)).owns x r
    printed quanta wide n x r e f o =
        let c = final_state i (after_quanta i quanta) in
        let z = all_closed (after_quanta i quanta) (all_work quanta) in
        let s = closed_sound i good (after_quanta i quanta) (lasts_of i quanta) (work_sound i good quanta program) in
        let st = z.stay n x e o in
        let p = c.kept.machine.placer in
        let armed = armed_then p c.owns x (row c.recorded n) (pair_at i c.owns p c.kept.shown c.recorded n x z.tells.kept.pairs e) st.0 st.1 in
        let to : x.from ≡ length c.owns = s.sound.from x (get_in c.kept.shown n x e) armed ∙ (s.last ∙ s.sound.time) in
        let told = (recorded_told i c (none_closed i wide quanta) z.tells).each n x r e f in
        record {
          plan = told.plan;
          planned = told.planned;
          armed = st.1;
          to = to;
          samples = subst (λ (t : ℕ). AreMeasured i c.owns told.plan x.focus 0 0 r t) to (told.samples 0 st.1);
          bins = subst (λ (t : ℕ). AreMeasured i c.owns told.plan x.focus 0 0 (hist_of i.settings.bins r).bins t) to (told.bins 0 st.1);
        }

pub printed_told : PrintedTold
printed_told i quanta wide program good first n x r e f o = printed i program good first quanta wide n x r e f o
