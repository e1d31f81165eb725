-- What was recorded for each instrument, as instruments come, are armed, sampled and dropped, and as the run goes on.
use Rattle.std.proofs.Common.{◌≡◌, ℕ, zero, suc, ◌-◌, ◌≤◌, Bool, true, false, cond, Option, Some, None, Ok, List, [], ◌∷◌, ◌++◌, length, map, refl, sym, ap, subst, ◌∙◌, arith, inl}
use Rattle.std.specs.Prelude.{replicate, slice_get, unwrap_or, Result}
use Rattle.std.proofs.lemmas.List.{length-append, length-replicate}
use Rattle.fold_hist.specs.declared.bin.Bin.{Bin}
use Rattle.pn_types.specs.declared.plan.Plan.{Plan}
use Rattle.rv_mem.specs.Start.{program_of}
use Rattle.rv_exec.specs.Start.{start}
use Rattle.machine.specs.Measures.{measure}
use Rattle.instrument.specs.Placements.{Placements, is_leaving, state_of}
use Rattle.instrument.specs.Scenes.{Arms}
use Rattle.instrument.specs.declared.number.State.{State as Stage}
use Rattle.instrument.specs.declared.number.State.TheVariants.{Placing, Armed}
use Rattle.instrumented.specs.Instrumented.{Instrumented, after_act}
use Rattle.mdl_plan.specs.declared.fault.PlanFault.{PlanFault}
use Rattle.session_spec.specs.declared.data.MetricFocusPair.{MetricFocusPair}
use Rattle.session_spec.specs.Inputs.{Inputs, harts_of_focus, planned}
use Rattle.session_spec.specs.Due.{all_armed, arm_all, armed_at, is_armed, is_ready, machine_armed, measure_at, measure_by, measured, recorded_with, sample_of, sampled_to}
use Rattle.session_spec.specs.Work.{with_room}
use Rattle.session_spec.specs.Rosters.{AreBelow, AreNumbered}
use Rattle.session_spec.proofs.Standing.{Since}
use Rattle.session_spec.proofs.Arming.{ready_arms, ready_placing}
use Rattle.session_spec.proofs.Seen.{AreApart, AreTests, NotBy, tags}
use Rattle.session_spec.proofs.Carrying.{AllArmed, all_arm}
use Rattle.session_spec.proofs.Sampling.{armed_is}
use Rattle.session_spec.specs.Bins.{AreSamplesOf}
use Rattle.session_spec.proofs.Intervals.{AreSpans, NoneEmpty, NoneEmptyIn, all_longer, all_measured, all_push, bins_measured, ordered_all}

-- ---- one instrument

-- One that is being placed wasn't armed, and one that is armed was. After its arming its samples follow one another to the last
-- one.
pub record IsPair (i : Inputs) (owns : List ℕ) (stage : Stage) (x : MetricFocusPair) (r : List Bin) : Type 0 where
  pub plan : Plan
  pub planned : planned i x.metric x.focus ≡ Ok plan
  pub placing : stage ≡ Placing → x.armed ≡ None
  pub running : stage ≡ Armed → (a : ℕ) × (x.armed ≡ Some a)
  pub never : x.armed ≡ None → r ≡ []
  pub samples : (a : ℕ) → x.armed ≡ Some a → AreSpans i owns plan x.focus a a r x.from
  pub past : (a : ℕ) → x.armed ≡ Some a → x.from ≤ length owns

-- of those after the last that was recorded, nothing was
abbrev pub ArePairs : Inputs → List ℕ → Placements → List MetricFocusPair → List (List Bin) → Type 0
ArePairs i owns p [] [] = Unit {0}
ArePairs i owns p [] (r ∷ rs) = ⊥
ArePairs i owns p (x ∷ xs) [] = IsPair i owns (state_of p x.instrument.n) x [] × ArePairs i owns p xs []
ArePairs i owns p (x ∷ xs) (r ∷ rs) = IsPair i owns (state_of p x.instrument.n) x r × ArePairs i owns p xs rs

no_number : (a : ℕ) → None ≡ Some a → ⊥
no_number a e = cc

some_number : (a b : ℕ) → Some a ≡ Some b → a ≡ b
some_number a b e = cc

-- ---- the run goes on

module _ (i : Inputs) (owns more : List ℕ) where
  pair_longer : (q : Stage) (x : MetricFocusPair) (r : List Bin) → IsPair i owns q x r → IsPair i (owns ++ more) q x r
  pair_longer q x r o = record {
    plan = o.plan;
    planned = o.planned;
    placing = o.placing;
    running = o.running;
    never = o.never;
    samples = λ a e. all_longer i o.plan x.focus a owns more a r x.from (o.samples a e);
    past = λ a e. let l : x.from ≤ length owns = o.past a e in omega (arith, length-append owns more);
  }

  pub pairs_longer : (p : Placements) (xs : List MetricFocusPair) (rs : List (List Bin)) → ArePairs i owns p xs rs → ArePairs i (owns ++ more) p xs rs
  pairs_longer p [] [] h = tt
  pairs_longer p [] (r ∷ rs) h = absurd h
  pairs_longer p (x ∷ xs) [] h = (pair_longer (state_of p x.instrument.n) x [] h.0, pairs_longer p xs [] h.1)
  pairs_longer p (x ∷ xs) (r ∷ rs) h = (pair_longer (state_of p x.instrument.n) x r h.0, pairs_longer p xs rs h.1)

module _ (i : Inputs) (owns : List ℕ) where
  -- ---- instruments that leave

  pair_stage : (q s : Stage) (x : MetricFocusPair) (r : List Bin) → (is_leaving s ≡ false → s ≡ q) → IsPair i owns q x r → IsPair i owns s x r
  pair_stage q s x r f o = record {
    plan = o.plan;
    planned = o.planned;
    placing = λ e. o.placing (sym (f (ap is_leaving e)) ∙ e);
    running = λ e. o.running (sym (f (ap is_leaving e)) ∙ e);
    never = o.never;
    samples = o.samples;
    past = o.past;
  }

  pub pairs_since : (p q : Placements) (xs : List MetricFocusPair) (rs : List (List Bin)) → Since p q → AreBelow p.count xs → ArePairs i owns p xs rs → ArePairs i owns q xs rs
  pairs_since p q [] [] s b h = tt
  pairs_since p q [] (r ∷ rs) s b h = absurd h
  pairs_since p q (x ∷ xs) [] s b h =
      (pair_stage (state_of p x.instrument.n) (state_of q x.instrument.n) x [] (s.live x.instrument.n b.0) h.0, pairs_since p q xs [] s b.1 h.1)
  pairs_since p q (x ∷ xs) (r ∷ rs) s b h =
      (pair_stage (state_of p x.instrument.n) (state_of q x.instrument.n) x r (s.live x.instrument.n b.0) h.0, pairs_since p q xs rs s b.1 h.1)

  -- with the others as they were
  pairs_other : (p q : Placements) (k : ℕ) (xs : List MetricFocusPair) (rs : List (List Bin)) → ((n : ℕ) → (n ≡ k → ⊥) → state_of q n ≡ state_of p n) → NotBy k (tags xs)
      → ArePairs i owns p xs rs → ArePairs i owns q xs rs
  pairs_other p q k [] [] f a h = tt
  pairs_other p q k [] (r ∷ rs) f a h = absurd h
  pairs_other p q k (x ∷ xs) [] f a h =
      (pair_stage (state_of p x.instrument.n) (state_of q x.instrument.n) x [] (λ _. f x.instrument.n a.0) h.0, pairs_other p q k xs [] f a.1 h.1)
  pairs_other p q k (x ∷ xs) (r ∷ rs) f a h =
      (pair_stage (state_of p x.instrument.n) (state_of q x.instrument.n) x r (λ _. f x.instrument.n a.0) h.0, pairs_other p q k xs rs f a.1 h.1)

  -- ---- one instrument more

  pub pairs_push : (p : Placements) (xs : List MetricFocusPair) (rs : List (List Bin)) (x : MetricFocusPair) → ArePairs i owns p xs rs → IsPair i owns (state_of p x.instrument.n) x [] → ArePairs i owns p (xs ++ x ∷ []) rs
  pairs_push p [] [] x h o = (o, tt)
  pairs_push p [] (r ∷ rs) x h o = absurd h
  pairs_push p (y ∷ xs) [] x h o = (h.0, pairs_push p xs [] x h.1 o)
  pairs_push p (y ∷ xs) (r ∷ rs) x h o = (h.0, pairs_push p xs rs x h.1 o)

  -- one that was never armed
  pub new_pair : (stage : Stage) (x : MetricFocusPair) (plan : Plan) → planned i x.metric x.focus ≡ Ok plan → stage ≡ Placing → x.armed ≡ None → IsPair i owns stage x []
  new_pair stage x plan is placing none = record {
    plan = plan;
    planned = is;
    placing = λ _. none;
    running = λ e. absurd (let z : Placing ≡ Armed = sym placing ∙ e in cc);
    never = λ _. refl;
    samples = λ a e. absurd (no_number a (sym none ∙ e));
    past = λ a e. absurd (no_number a (sym none ∙ e));
  }

  -- ---- room

  abbrev blank : ℕ → List (List Bin)
  blank n = replicate n []

  pairs_blank : (p : Placements) (xs : List MetricFocusPair) → ArePairs i owns p xs [] → ArePairs i owns p xs (blank (length xs))
  pairs_blank p [] h = tt
  pairs_blank p (x ∷ xs) h = (h.0, pairs_blank p xs h.1)

  pub pairs_room : (p : Placements) (xs : List MetricFocusPair) (rs : List (List Bin)) → ArePairs i owns p xs rs → ArePairs i owns p xs (with_room xs rs)
  pairs_room p [] [] h = tt
  pairs_room p [] (r ∷ rs) h = absurd h
  pairs_room p (x ∷ xs) [] h =
      let z : length (x ∷ xs) - 0 ≡ length (x ∷ xs) = omega arith in
      subst (λ (n : ℕ). ArePairs i owns p (x ∷ xs) (blank n)) (sym z) (pairs_blank p (x ∷ xs) h)
  pairs_room p (x ∷ xs) (r ∷ rs) h =
      let z : length (x ∷ xs) - length (r ∷ rs) ≡ length xs - length rs = omega arith in
      subst (λ (n : ℕ). ArePairs i owns p (x ∷ xs) ((r ∷ rs) ++ blank n)) (sym z) (h.0, pairs_room p xs rs h.1)

  pub few_pairs : (p : Placements) (xs : List MetricFocusPair) (rs : List (List Bin)) → ArePairs i owns p xs rs → length rs ≤ length xs
  few_pairs p [] [] h = omega arith
  few_pairs p [] (r ∷ rs) h = absurd h
  few_pairs p (x ∷ xs) [] h = omega arith
  few_pairs p (x ∷ xs) (r ∷ rs) h = omega (arith, few_pairs p xs rs h.1)

  pub many_room : (p : Placements) (xs : List MetricFocusPair) (rs : List (List Bin)) → ArePairs i owns p xs rs → length (with_room xs rs) ≡ length xs
  many_room p xs rs h =
      let n = length xs - length rs in
      let room : length (blank n) ≡ n = length-replicate n [] in
      omega (arith, few_pairs p xs rs h, length-append rs (blank n), room)

  -- ---- samples

  module _ (time : ℕ) (timed : time ≡ length owns) where
    measured_is : (x : MetricFocusPair) (plan : Plan) (a : ℕ) → planned i x.metric x.focus ≡ Ok plan → x.armed ≡ Some a → measured i owns x time ≡ measure_at i owns plan (harts_of_focus i x.focus) a x.from time
    unfolding measured
    measured_is x plan a is armed =
        ap (λ (r : Result Plan PlanFault). measure_by r i (harts_of_focus i x.focus) (unwrap_or x.armed 0) x.from time owns) is
        ∙ ap (λ (o : Option ℕ). measure (program_of i.image) plan (harts_of_focus i x.focus) (unwrap_or o 0) x.from time owns (start i.image i.settings.harts)) armed

    sampled_pair : (q : Stage) (x : MetricFocusPair) (r : List Bin) → q ≡ Armed → IsPair i owns q x r → IsPair i owns q (record x { from = time }) (r ++ sample_of i owns time x ∷ [])
    sampled_pair q x r e o =
        let now = o.running e in
        let at : ℕ = now.0 in
        record {
          plan = o.plan;
          planned = o.planned;
          placing = λ z. absurd (let w : Placing ≡ Armed = sym z ∙ e in cc);
          running = λ _. (now.0, now.1);
          never = λ z. absurd (no_number now.0 (sym z ∙ now.1));
          samples = λ a z.
              let all = o.samples a z in
              let past : x.from ≤ length owns = o.past a z in
              all_push i o.plan x.focus a owns a r x.from (sample_of i owns time x) all refl
              (record {
                behind = ordered_all i o.plan x.focus a owns a r x.from all;
                ordered = omega (arith, timed);
                past = omega (arith, timed);
                sum = measured_is x o.plan a o.planned z;
              });
          past = λ a z. omega (arith, timed);
        }

    one_sampled : (p : Placements) (x : MetricFocusPair) (r : List Bin) → IsPair i owns (state_of p x.instrument.n) x r
        → IsPair i owns (state_of p (sampled_to p time x).instrument.n) (sampled_to p time x) (cond (is_armed p x) (r ++ sample_of i owns time x ∷ []) r)
    one_sampled p x r o = by (is_armed p x) refl
      where
        by : (b : Bool) → is_armed p x ≡ b → IsPair i owns (state_of p (cond b (record x { from = time }) x).instrument.n) (cond b (record x { from = time }) x) (cond b (r ++ sample_of i owns time x ∷ []) r)
        by true e = sampled_pair (state_of p x.instrument.n) x r (armed_is (state_of p x.instrument.n) e) o
        by false e = o

    pub pairs_sampled : (p : Placements) (xs : List MetricFocusPair) (rs : List (List Bin)) → length rs ≡ length xs → ArePairs i owns p xs rs
        → ArePairs i owns p (map (sampled_to p time) xs) (recorded_with i p owns time xs rs)
    pairs_sampled p [] [] m h = tt
    pairs_sampled p [] (r ∷ rs) m h = absurd h
    pairs_sampled p (x ∷ xs) [] m h = absurd (omega arith)
    pairs_sampled p (x ∷ xs) (r ∷ rs) m h = (one_sampled p x r h.0, pairs_sampled p xs rs (omega arith) h.1)

    pub many_sampled : (p : Placements) (xs : List MetricFocusPair) (rs : List (List Bin)) → length rs ≡ length xs → length (recorded_with i p owns time xs rs) ≡ length xs
    many_sampled p [] rs m = m
    many_sampled p (x ∷ xs) [] m = m
    many_sampled p (x ∷ xs) (r ∷ rs) m = ap suc (many_sampled p xs rs (omega arith))

    -- ---- armings

    begun_pair : (q s : Stage) (x : MetricFocusPair) (r : List Bin) → q ≡ Placing → s ≡ Armed → IsPair i owns q x r → IsPair i owns s (record x { armed = Some time; from = time }) r
    begun_pair q s x r e f o =
        let none = o.never (o.placing e) in
        record {
          plan = o.plan;
          planned = o.planned;
          placing = λ z. absurd (let w : Placing ≡ Armed = sym z ∙ f in cc);
          running = λ _. (time, refl);
          never = λ z. absurd (no_number time (sym z));
          samples = λ a z. subst (λ (l : List Bin). AreSpans i owns o.plan x.focus a a l time) (sym none) (sym (some_number time a z));
          past = λ a z. omega (arith, timed);
        }

    -- no instruments are tests
    untested : (m : Instrumented) (xs : List MetricFocusPair) → AreTests i owns m.placer [] (λ n. Unit {0}) xs
    untested m [] = tt
    untested m (x ∷ xs) = ((λ n e l. inl tt), untested m xs)

    -- what arming them makes of the others, too
    pub arms_are : (m : Instrumented) (xs : List MetricFocusPair) → AreNumbered m.placer → AreApart (tags xs) → AllArmed i owns [] (λ n. Unit {0}) time timed m xs
    arms_are m xs r a = all_arm i owns [] (λ n. Unit {0}) time timed xs m r a (untested m xs)

    one_begun : (m : Instrumented) (x : MetricFocusPair) (r : List Bin) → AreNumbered m.placer → IsPair i owns (state_of m.placer x.instrument.n) x r
        → IsPair i owns (state_of (machine_armed m x).placer (armed_at time m x).instrument.n) (armed_at time m x) r
    one_begun m x r z o = by (is_ready m x) refl
      where
        by : (b : Bool) → is_ready m x ≡ b
            → IsPair i owns (state_of (cond b (after_act (Arms x.instrument.n) m) m).placer (cond b (record x { armed = Some time; from = time }) x).instrument.n) (cond b (record x { armed = Some time; from = time }) x) r
        by true e =
            let placing = ready_placing m x e in
            begun_pair (state_of m.placer x.instrument.n) (state_of (after_act (Arms x.instrument.n) m).placer x.instrument.n) x r placing ((ready_arms m x z e).itself placing) o
        by false e = o

    pub same_armed : (b : Bool) (x : MetricFocusPair) → (cond b (record x { armed = Some time; from = time }) x).instrument.n ≡ x.instrument.n
    same_armed true x = refl
    same_armed false x = refl

    -- the first of them, after the armings of the others
    head_armed : (x : MetricFocusPair) (xs : List MetricFocusPair) (r : List Bin) (m : Instrumented) → AreNumbered m.placer → AreApart (tags (x ∷ xs)) → IsPair i owns (state_of m.placer x.instrument.n) x r
        → IsPair i owns (state_of (arm_all (machine_armed m x) xs).placer (armed_at time m x).instrument.n) (armed_at time m x) r
    head_armed x xs r m z a o =
        let d = machine_armed m x in
        let y = armed_at time m x in
        let one = arms_are m (x ∷ []) z (tt, tt) in
        let rest = arms_are d xs one.roster a.1 in
        let apart : NotBy y.instrument.n (tags xs) = subst (λ (n : ℕ). NotBy n (tags xs)) (sym (same_armed (is_ready m x) x)) a.0 in
        pair_stage (state_of d.placer y.instrument.n) (state_of (arm_all d xs).placer y.instrument.n) y r (λ _. rest.other y.instrument.n apart) (one_begun m x r z o)

    -- the others, where the first was armed
    tail_armed : (x : MetricFocusPair) (xs : List MetricFocusPair) (rs : List (List Bin)) (m : Instrumented) → AreNumbered m.placer → AreApart (tags (x ∷ xs)) → ArePairs i owns m.placer xs rs
        → AreNumbered (machine_armed m x).placer × ArePairs i owns (machine_armed m x).placer xs rs
    tail_armed x xs rs m z a h =
        let d = machine_armed m x in
        let one = arms_are m (x ∷ []) z (tt, tt) in
        (one.roster, pairs_other m.placer d.placer x.instrument.n xs rs (λ n q. one.other n ((λ e. q (sym e)), tt)) a.0 h)

    pub pairs_armed : (xs : List MetricFocusPair) (rs : List (List Bin)) (m : Instrumented) → AreNumbered m.placer → AreApart (tags xs) → ArePairs i owns m.placer xs rs
        → ArePairs i owns (arm_all m xs).placer (all_armed time m xs) rs
    pairs_armed [] [] m z a h = tt
    pairs_armed [] (r ∷ rs) m z a h = absurd h
    pairs_armed (x ∷ xs) [] m z a h =
        let t = tail_armed x xs [] m z a h.1 in
        (head_armed x xs [] m z a h.0, pairs_armed xs [] (machine_armed m x) t.0 a.1 t.1)
    pairs_armed (x ∷ xs) (r ∷ rs) m z a h =
        let t = tail_armed x xs rs m z a h.1 in
        (head_armed x xs r m z a h.0, pairs_armed xs rs (machine_armed m x) t.0 a.1 t.1)

    pub many_armed : (m : Instrumented) (xs : List MetricFocusPair) → length (all_armed time m xs) ≡ length xs
    many_armed m [] = refl
    many_armed m (x ∷ xs) = ap suc (many_armed (machine_armed m x) xs)

  -- ---- what is told of each

  recorded_pair : (q : Stage) (x : MetricFocusPair) (r : List Bin) → NoneEmpty r → IsPair i owns q x r → AreSamplesOf i owns x r
  recorded_pair q x r none o = record {
    plan = o.plan;
    planned = o.planned;
    never = o.never;
    samples = λ a e. all_measured i o.plan x.focus a owns a r x.from none (o.samples a e);
    bins = λ a e. bins_measured i o.plan x.focus a owns i.settings.bins a r x.from none (o.samples a e);
  }

  pub pairs_tell : (p : Placements) (xs : List MetricFocusPair) (rs : List (List Bin)) → NoneEmptyIn rs → ArePairs i owns p xs rs → (n : ℕ) (x : MetricFocusPair) (r : List Bin) → slice_get xs n ≡ Some x → slice_get rs n ≡ Some r
      → AreSamplesOf i owns x r
  pairs_tell p [] rs none h n x r e f = absurd cc
  pairs_tell p (y ∷ xs) [] none h n x r e f = absurd cc
  pairs_tell p (y ∷ xs) (s ∷ rs) none h zero x r e f =
      let same : y ≡ x = cc in
      let alike : s ≡ r = cc in
      subst (λ (z : MetricFocusPair). AreSamplesOf i owns z r) same (subst (AreSamplesOf i owns y) alike (recorded_pair (state_of p y.instrument.n) y s none.0 h.0))
  pairs_tell p (y ∷ xs) (s ∷ rs) none h (suc n) x r e f = pairs_tell p xs rs none.1 h.1 n x r e f
