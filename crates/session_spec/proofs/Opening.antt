-- What is wished for the opening is armed at time 0, and stays armed.
use Rattle.std.proofs.Common.{◌≡◌, ℕ, zero, suc, ◌≤◌, Bool, true, false, cond, Some, None, List, [], ◌∷◌, ◌++◌, length, map, refl, sym, ap, subst, ◌∙◌, arith, ⊎_elim}
use Rattle.std.specs.Prelude.{nat_lt, slice_get}
use Rattle.std.proofs.lemmas.Bool.{true≢false, cond_both}
use Rattle.pn_types.specs.declared.quantum.Quantum.{Quantum}
use Rattle.machine.specs.Cores.{Core}
use Rattle.machine.specs.Events.{IsQuiet}
use Rattle.machine.specs.Laws.{IsProgram}
use Rattle.instrument.specs.Placements.{Placements, is_leaving, state_of}
use Rattle.instrument.specs.Scenes.{Hands}
use Rattle.instrument.specs.declared.number.State.{State as Stage}
use Rattle.instrument.specs.declared.number.State.TheVariants.{Placing, Armed, Leaving, Gone}
use Rattle.instrumented.specs.Instrumented.{Instrumented, repeated}
use Rattle.session_spec.specs.declared.data.MetricFocusPair.{MetricFocusPair}
use Rattle.session_spec.specs.Inputs.{Inputs}
use Rattle.session_spec.specs.States.{SessionState, State}
use Rattle.session_spec.specs.Admission.{shown_next, with_admission}
use Rattle.session_spec.specs.Turns.{with_entries, with_hart, with_quiet}
use Rattle.fold_hist.specs.declared.bin.Bin.{Bin}
use Rattle.session_spec.specs.Due.{all_armed, armed_at, is_armed, is_ready, machine_armed, sampled_to, with_arms, with_frees, with_next}
use Rattle.session_spec.specs.Due as due
use Rattle.session_spec.specs.Opening.{opening_state, with_agenda}
use Rattle.session_spec.specs.Tests.{tests_next}
use Rattle.session_spec.specs.Verdicts.{with_search_end, with_verdicts}
use Rattle.session_spec.specs.Work.{final_state, first_state, is_due, state_admitted, state_done, state_ended, state_handed, state_last, state_quiet, state_sampled, state_turned, state_worked, after_quantum, tests_now, after_quanta, after_quanta_from}
use Rattle.session_spec.specs.Plans.{ArePlansGood}
use Rattle.session_spec.specs.Readings.{lasts_with}
use Rattle.session_spec.proofs.Begins.{all_quiet, first_quiet, picked, picked_moved}
use Rattle.session_spec.proofs.Lasting.{led_of}
use Rattle.session_spec.proofs.Tied.{hands_tied}
use Rattle.session_spec.specs.Becoming.{HasBecome}
use Rattle.session_spec.specs.Laws.{OpensAtZero}
use Rattle.session_spec.proofs.AdmittingSteps.{Keeps, admission_kept}
use Rattle.session_spec.proofs.Keeping.{IsTelling, Tells, picked_telling, tell_agenda, tell_frees, tells_admitted, tells_first, tells_handed, tells_quiet, tells_sampled, tells_tend, tells_turned, verdicts_shown}
use Rattle.session_spec.proofs.Intervals.{ordered_all}
use Rattle.session_spec.proofs.Pairs.{IsPair}
use Rattle.session_spec.proofs.Ready.{IsPlaced, all_handed, none_placing}
use Rattle.session_spec.proofs.Testers.{armed_behind, pair_at, row, sampled_at, shown_left}

-- ---- the opening

module _ (i : Inputs) (program : IsProgram i.image) (good : ArePlansGood i) where
  placed : IsPlaced i (with_agenda (picked i)).machine []
  unfolding with_agenda
  placed =
      let v = picked_moved i program good in
      let n = length (picked i).machine.placer.book.agenda in
      let m = repeated n Hands (picked i).machine in
      let lasts = lasts_with (picked i).shown [] in
      let quiet = subst (λ (c : Core). IsQuiet c) (sym v.core) (first_quiet i) in
      record {
        led = led_of i m [] (picked i).shown lasts (hands_tied n i (picked i).machine [] (picked i).shown lasts v.tied);
        quiet = all_quiet n (picked i).machine quiet;
        empty = all_handed n (picked i).machine quiet refl;
      }

  agenda_shown : (with_agenda (picked i)).shown ≡ (picked i).shown
  unfolding with_agenda
  agenda_shown = refl

  -- none is being placed: those that were are armed
  none_waits : (k : ℕ) (x : MetricFocusPair) → slice_get (with_agenda (picked i)).shown k ≡ Some x → state_of (with_arms (with_agenda (picked i))).machine.placer x.instrument.n ≡ Placing → ⊥
  unfolding with_arms
  none_waits k x e =
      let a = tell_agenda i [] [] (picked i) (picked_telling i) in
      none_placing i [] (with_agenda (picked i)).time a.time (with_agenda (picked i)).shown (with_agenda (picked i)).machine a.roster a.apart placed k x e

  pub armed_from : (t : ℕ) (xs : List MetricFocusPair) (m : Instrumented) (k : ℕ) (y : MetricFocusPair) → slice_get (all_armed t m xs) k ≡ Some y → (x : MetricFocusPair) × (slice_get xs k ≡ Some x) × (y.instrument.n ≡ x.instrument.n)
  armed_from t [] m k y e = absurd cc
  armed_from t (z ∷ xs) m zero y e =
      let same : armed_at t m z ≡ y = cc in
      (z, refl, ap (λ (v : MetricFocusPair). v.instrument.n) (sym same) ∙ by (is_ready m z))
    where
      by : (b : Bool) → (cond b (record z { armed = Some t; from = t }) z).instrument.n ≡ z.instrument.n
      by true = refl
      by false = refl
  armed_from t (z ∷ xs) m (suc k) y e = armed_from t xs (machine_armed m z) k y e

  none_left : (k : ℕ) (y : MetricFocusPair) → slice_get (opening_state i).shown k ≡ Some y → state_of (opening_state i).machine.placer y.instrument.n ≡ Placing → ⊥
  unfolding with_arms
  none_left k y e f =
      let x = armed_from (with_agenda (picked i)).time (with_agenda (picked i)).shown (with_agenda (picked i)).machine k y e in
      none_waits k x.0 x.1 (ap (state_of (opening_state i).machine.placer) (sym x.2) ∙ f)

  -- what isn't dropped is armed at 0
  pub armed_first : (k : ℕ) (y : MetricFocusPair) → slice_get (opening_state i).shown k ≡ Some y → is_leaving (state_of (opening_state i).machine.placer y.instrument.n) ≡ false → y.armed ≡ Some 0
  armed_first k y e l =
      let p = (opening_state i).machine.placer in
      let rs = (first_state i).recorded in
      let o = pair_at i [] p (opening_state i).shown rs k y (tells_first i).kept.pairs e in
      by (state_of p y.instrument.n) (row rs k) l (none_left k y e) o
    where
      by : (q : Stage) (r : List Bin) → is_leaving q ≡ false → (q ≡ Placing → ⊥) → IsPair i [] q y r → y.armed ≡ Some 0
      by Placing r l none o = absurd (none refl)
      by Leaving r l none o = absurd (true≢false l)
      by Gone r l none o = absurd (true≢false l)
      by Armed r l none o =
          let a = o.running refl in
          let low : a.0 ≤ y.from = ordered_all i o.plan y.focus a.0 [] a.0 r y.from (o.samples a.0 a.1) in
          let past : y.from ≤ 0 = o.past a.0 a.1 in
          let zero_is : a.0 ≡ 0 = omega (arith, low, past) in
          a.1 ∙ ap (λ (t : ℕ). Some t) zero_is

-- ---- what was armed stays armed

abbrev Stay : List MetricFocusPair → List MetricFocusPair → Type 0
Stay xs ys = (n : ℕ) (x : MetricFocusPair) (a : ℕ) → slice_get xs n ≡ Some x → x.armed ≡ Some a → HasBecome ys n x

stay_none : (xs : List MetricFocusPair) → Stay xs xs
stay_none xs n x a e f = record { y = x; listed = e; node = refl; metric = refl; focus = refl; armed = refl }

stay_on : (xs ys zs : List MetricFocusPair) → Stay xs ys → Stay ys zs → Stay xs zs
stay_on xs ys zs g h n x a e f =
    let b = g n x a e f in
    let c = h n b.y a b.listed (b.armed ∙ f) in
    record { y = c.y; listed = c.listed; node = c.node ∙ b.node; metric = c.metric ∙ b.metric; focus = c.focus ∙ b.focus; armed = c.armed ∙ b.armed }

stay_same : (xs ys : List MetricFocusPair) → ys ≡ xs → Stay xs ys
stay_same xs ys e = subst (Stay xs) (sym e) (stay_none xs)

stay_push : (xs : List MetricFocusPair) (x : MetricFocusPair) → Stay xs (xs ++ x ∷ [])
stay_push xs x n y a e f = record { y = y; listed = shown_left xs (x ∷ []) n y e; node = refl; metric = refl; focus = refl; armed = refl }

stay_sampled : (p : Placements) (t : ℕ) (xs : List MetricFocusPair) → Stay xs (map (sampled_to p t) xs)
stay_sampled p t xs n x a e f = by (is_armed p x) (sampled_at p t xs n x e)
  where
    by : (b : Bool) → slice_get (map (sampled_to p t) xs) n ≡ Some (cond b (record x { from = t }) x) → HasBecome (map (sampled_to p t) xs) n x
    by true g = record { y = record x { from = t }; listed = g; node = refl; metric = refl; focus = refl; armed = refl }
    by false g = record { y = x; listed = g; node = refl; metric = refl; focus = refl; armed = refl }

never_armed : (a : ℕ) → None ≡ Some a → ⊥
never_armed a e = cc

module _ (i : Inputs) where
  stay_armed : (owns : List ℕ) (rs : List (List Bin)) (k : SessionState) → IsTelling i owns rs k → Stay k.shown (with_arms k).shown
  unfolding with_arms
  stay_armed owns rs k s n x a e f =
      let b = armed_behind i owns k.time s.time k.shown k.machine n x s.roster s.apart e in
      ⊎_elim
      (λ (v : b.0 ≡ x). record { y = b.0; listed = b.1; node = b.2.node; metric = b.2.metric; focus = b.2.focus; armed = ap (λ (z : MetricFocusPair). z.armed) v })
      (λ v. absurd (never_armed a (sym ((pair_at i owns k.machine.placer k.shown rs n x s.pairs e).placing v) ∙ f))) b.2.same

  stay_keeps : (xs : List MetricFocusPair) → Keeps i (λ (j : SessionState). Stay xs j.shown)
  stay_keeps xs = record {
    beside = λ k j b s. stay_on xs k.shown j.shown s (stay_same k.shown j.shown b.shown);
    drops = λ k n s. s;
    wished = λ k plan w placer is e s. stay_on xs k.shown (k.shown ++ shown_next w k ∷ []) s (stay_push k.shown (shown_next w k));
    barred = λ k n node cause stands waits by s. s;
    tested = λ k n node plan placer stands waits is room e s. stay_on xs k.shown (k.shown ++ tests_next i n node k ∷ []) s (stay_push k.shown (tests_next i n node k));
  }

  stay_admission : (k : SessionState) → Stay k.shown (with_admission i k).shown
  stay_admission k = admission_kept i (λ (j : SessionState). Stay k.shown j.shown) (stay_keeps k.shown) k (stay_none k.shown)

  begun_shown : (h n : ℕ) (s : State) → (state_handed (state_turned h n s)).kept.shown ≡ s.kept.shown
  unfolding with_hart with_entries
  begun_shown h n s = refl

  quiet_shown : (s : State) → (state_quiet s).kept.shown ≡ s.kept.shown
  unfolding with_quiet
  quiet_shown s = refl

  sampled_shown : (s : State) → (state_sampled i s).kept.shown ≡ map (sampled_to s.kept.machine.placer s.kept.time) s.kept.shown
  unfolding due.with_samples
  sampled_shown s = refl

  freed_shown : (k : SessionState) → (with_frees k).shown ≡ k.shown
  unfolding with_frees
  freed_shown k = refl

  next_shown : (width : ℕ) (k : SessionState) → (with_next width k).shown ≡ k.shown
  unfolding with_next
  next_shown width k = refl

  end_shown : (k : SessionState) → (with_search_end k).shown ≡ k.shown
  unfolding with_search_end
  end_shown k = refl

  stay_samples : (s : State) → Stay s.kept.shown (state_sampled i s).kept.shown
  stay_samples s =
      let xs = map (sampled_to s.kept.machine.placer s.kept.time) s.kept.shown in
      stay_on s.kept.shown xs (state_sampled i s).kept.shown (stay_sampled s.kept.machine.placer s.kept.time s.kept.shown) (stay_same xs (state_sampled i s).kept.shown (sampled_shown s))

  stay_done : (s : State) → Tells i s → Stay s.kept.shown (state_done i s).kept.shown
  stay_done s z =
      let q = state_sampled i s in
      let f = with_frees q.kept in
      let a = with_arms f in
      let v = with_verdicts (tests_now i s) a in
      let t = tells_sampled i s z in
      stay_on s.kept.shown q.kept.shown (state_done i s).kept.shown (stay_samples s)
      (stay_on q.kept.shown f.shown (state_done i s).kept.shown (stay_same q.kept.shown f.shown (freed_shown q.kept))
      (stay_on f.shown a.shown (state_done i s).kept.shown (stay_armed q.owns q.recorded f (tell_frees i q.owns q.recorded q.kept t.kept))
      (stay_same a.shown (state_done i s).kept.shown (next_shown i.settings.width v ∙ verdicts_shown i (tests_now i s) a))))

  stay_last : (s : State) → Stay s.kept.shown (state_last i s).kept.shown
  stay_last s =
      let q = state_sampled i s in
      stay_on s.kept.shown q.kept.shown (state_last i s).kept.shown (stay_samples s) (stay_same q.kept.shown (state_last i s).kept.shown (verdicts_shown i (tests_now i s) q.kept))

  stay_worked : (s : State) → Tells i s → Stay s.kept.shown (state_worked i s).kept.shown
  stay_worked s z =
      let q = state_quiet s in
      cond_both (is_due s.kept) (state_done i q) s (λ (x : State). Stay s.kept.shown x.kept.shown)
      (λ _. stay_on s.kept.shown q.kept.shown (state_done i q).kept.shown (stay_same s.kept.shown q.kept.shown (quiet_shown s)) (stay_done q (tells_quiet i s z))) (λ _. stay_none s.kept.shown)

  stay_tend : (h n : ℕ) (s : State) → Tells i s → Stay s.kept.shown (after_quantum i h n s).kept.shown
  unfolding after_quantum
  stay_tend h n s z =
      let a = state_admitted i s in
      let t = state_turned h n a in
      let b = state_handed t in
      let told = tells_handed i t (tells_turned i h n a (tells_admitted i s z)) in
      stay_on s.kept.shown a.kept.shown (state_worked i b).kept.shown (stay_admission s.kept)
      (stay_on a.kept.shown b.kept.shown (state_worked i b).kept.shown (stay_same a.kept.shown b.kept.shown (begun_shown h n a)) (stay_worked b told))

  stay_from : (quanta : List Quantum) (s : State) → Tells i s → Stay s.kept.shown (after_quanta_from i quanta s).kept.shown
  stay_from [] s z = stay_none s.kept.shown
  stay_from (q ∷ quanta) s z =
      let t = after_quantum i q.hart q.turns s in
      stay_on s.kept.shown t.kept.shown (after_quanta_from i quanta t).kept.shown (stay_tend q.hart q.turns s z) (stay_from quanta t (tells_tend i q.hart q.turns s z))

  stay_work : (quanta : List Quantum) → Stay (opening_state i).shown (after_quanta i quanta).kept.shown
  unfolding after_quanta
  stay_work quanta = stay_from quanta (first_state i) (tells_first i)

  stay_closed : (s : State) → Stay s.kept.shown (final_state i s).kept.shown
  unfolding final_state
  stay_closed s =
      let q = state_quiet s in
      let same = stay_same s.kept.shown q.kept.shown (quiet_shown s) in
      cond_both (nat_lt q.kept.last q.kept.time) (state_last i q) q (λ (x : State). Stay s.kept.shown (state_ended x).kept.shown)
      (λ _.
      let l = state_last i q in
      stay_on s.kept.shown q.kept.shown (state_ended l).kept.shown same
      (stay_on q.kept.shown l.kept.shown (state_ended l).kept.shown (stay_last q) (stay_same l.kept.shown (state_ended l).kept.shown (end_shown l.kept))))
      (λ _. stay_on s.kept.shown q.kept.shown (state_ended q).kept.shown same (stay_same q.kept.shown (state_ended q).kept.shown (end_shown q.kept)))

pub opens_at_zero : OpensAtZero
opens_at_zero = record {
  opens = λ i p good k x e l. armed_first i p good k x e l;
  works = λ i quanta k x a e f. stay_work i quanta k x a e f;
  closes = λ i quanta k x a e f. stay_on (opening_state i).shown (after_quanta i quanta).kept.shown (final_state i (after_quanta i quanta)).kept.shown (stay_work i quanta) (stay_closed i (after_quanta i quanta)) k x a e f;
}
