-- What holds of the tests, as instruments are armed and dropped and time goes on.
use Rattle.std.proofs.Common.{◌≡◌, ℕ, ◌≤◌, Bool, true, false, cond, Some, List, [], ◌∷◌, ◌++◌, length, refl, sym, ap, subst, ◌∙◌, arith, inl, inr, ◌⊎◌, ⊎_elim}
use Rattle.std.proofs.lemmas.Bool.{true≢false, eq-eqb}
use Rattle.std.proofs.lemmas.List.{length-append}
use Rattle.rv_mem.specs.Start.{program_of}
use Rattle.rv_exec.specs.Start.{start}
use Rattle.instrument.specs.Placements.{Placements, is_leaving, state_of}
use Rattle.instrument.specs.Scenes.{Arms}
use Rattle.instrument.specs.declared.number.State.{State as Stage}
use Rattle.instrument.specs.declared.number.State.TheVariants.{Placing, Armed}
use Rattle.instrumented.specs.Instrumented.{Instrumented, after_act}
use Rattle.w3_search.specs.declared.node.Node.{Node}
use Rattle.session_spec.specs.declared.data.MetricFocusPair.{MetricFocusPair}
use Rattle.session_spec.specs.Inputs.{Inputs, harts_of_focus}
use Rattle.session_spec.specs.Due.{all_armed, arm_all, armed_at, is_ready, machine_armed}
use Rattle.session_spec.specs.Rosters.{AreBelow, AreNumbered}
use Rattle.session_spec.proofs.Standing.{Since}
use Rattle.session_spec.proofs.Arming.{ready_arms, ready_placing}
use Rattle.session_spec.proofs.Measuring.{measure_more, measure_none, ticks_more, ticks_none}
use Rattle.session_spec.proofs.Grown.{Grows}
use Rattle.session_spec.proofs.Sampling.{test_moved}
use Rattle.session_spec.proofs.Seen.{AreApart, AreTests, IsNode, IsRuled, IsTest, NotBy, OneTest, tags}

-- ---- time goes on

module _ (i : Inputs) (owns more : List ℕ) where
  verdict_longer : (n : Node) → IsRuled i owns n → IsRuled i (owns ++ more) n
  verdict_longer n v =
      let past : n.to ≤ length owns = v.past in
      let ordered : n.from ≤ n.to = v.ordered in
      record {
        plan = v.plan;
        planned = v.planned;
        ordered = v.ordered;
        past = omega (arith, length-append owns more);
        window = v.window;
        value = v.value ∙ sym (measure_more (program_of i.image) v.plan (harts_of_focus i n.focus) n.from n.from n.to owns more (start i.image i.settings.harts) (omega arith) ordered past);
        ticks = v.ticks ∙ sym (ticks_more owns more (harts_of_focus i n.focus) n.from n.to ordered past);
        verdict = v.verdict;
      }

  pub node_longer : (n : Node) → IsNode i owns n → IsNode i (owns ++ more) n
  node_longer n o = record { judged = λ j. verdict_longer n (o.judged j); blank = o.blank; few = o.few; unfinished = o.unfinished }

  test_longer : (q : Stage) (ns : List Node) (n : ℕ) (x : MetricFocusPair) → IsTest i owns q ns n x → IsTest i (owns ++ more) q ns n x
  test_longer q ns n x o = record {
    node = o.node;
    stands = o.stands;
    active = o.active;
    metric = o.metric;
    focus = o.focus;
    plan = o.plan;
    planned = o.planned;
    placing = o.placing;
    running = λ e.
        let r = o.running e in
        let past : x.from ≤ length owns = r.past in
        record {
          at = r.at;
          armed = r.armed;
          ordered = r.ordered;
          past = omega (arith, length-append owns more);
          value = r.value ∙ sym (measure_more (program_of i.image) o.plan (harts_of_focus i o.node.focus) r.at r.at x.from owns more (start i.image i.settings.harts) (omega arith) r.ordered past);
          ticks = r.ticks ∙ sym (ticks_more owns more (harts_of_focus i o.node.focus) r.at x.from r.ordered past);
          fresh = r.fresh;
          going = r.going;
        };
  }

  pub tests_longer : (p : Placements) (ns : List Node) (D : ℕ → Type 0) (xs : List MetricFocusPair) → AreTests i owns p ns D xs → AreTests i (owns ++ more) p ns D xs
  tests_longer p ns D [] h = tt
  tests_longer p ns D (x ∷ xs) h = (
    (λ n e l. ⊎_elim (λ d. inl d) (λ (o : IsTest i owns (state_of p x.instrument.n) ns n x). inr (test_longer (state_of p x.instrument.n) ns n x o)) (h.0 n e l)),
    tests_longer p ns D xs h.1,
  )

module _ (i : Inputs) (owns : List ℕ) where
  -- ---- nodes grow old

  pub tests_grown : (p : Placements) (P : Node → Type 0) (C D E : ℕ → Type 0) (ns ms : List Node) (xs : List MetricFocusPair) → Grows P C ns ms → ((n : ℕ) → C n → E n) → ((n : ℕ) → D n → E n)
      → AreTests i owns p ns D xs → AreTests i owns p ms E xs
  tests_grown p P C D E ns ms [] g c d h = tt
  tests_grown p P C D E ns ms (x ∷ xs) g c d h = (
    (λ n e l. ⊎_elim (λ k. inl (d n k)) (λ (o : IsTest i owns (state_of p x.instrument.n) ns n x).
        let f = g.forth n o.node o.stands in
        ⊎_elim
        (λ s. inr (test_moved i owns (state_of p x.instrument.n) ns ms n x (f.stands ∙ (ap (λ (y : Node). Some y) s ∙ sym o.stands)) o))
        (λ k. inl (c n (k o.active))) f.same) (h.0 n e l)),
    tests_grown p P C D E ns ms xs g c d h.1,
  )

  -- ---- instruments

  module _ (ns : List Node) (D : ℕ → Type 0) where
    -- with an instrument whose state is what it was
    one_same : (p q : Placements) (x : MetricFocusPair) → state_of q x.instrument.n ≡ state_of p x.instrument.n → OneTest i owns p ns D x → OneTest i owns q ns D x
    one_same p q x e o = subst (λ (z : Stage). (n : ℕ) → x.node ≡ Some n → is_leaving z ≡ false → D n ⊎ IsTest i owns z ns n x) (sym e) o

    pub tests_since : (p q : Placements) (xs : List MetricFocusPair) → Since p q → AreBelow p.count xs → AreTests i owns p ns D xs → AreTests i owns q ns D xs
    tests_since p q [] s b h = tt
    tests_since p q (x ∷ xs) s b h = ((λ n e l. one_same p q x (s.live x.instrument.n b.0 l) h.0 n e l), tests_since p q xs s b.1 h.1)

    tests_other : (p q : Placements) (k : ℕ) (xs : List MetricFocusPair) → ((n : ℕ) → (n ≡ k → ⊥) → state_of q n ≡ state_of p n) → NotBy k (tags xs)
        → AreTests i owns p ns D xs → AreTests i owns q ns D xs
    tests_other p q k [] f a h = tt
    tests_other p q k (x ∷ xs) f a h = (one_same p q x (f x.instrument.n a.0) h.0, tests_other p q k xs f a.1 h.1)

    pub tests_push : (p : Placements) (xs : List MetricFocusPair) (x : MetricFocusPair) → AreTests i owns p ns D xs → OneTest i owns p ns D x → AreTests i owns p ns D (xs ++ x ∷ [])
    tests_push p [] x h o = (o, tt)
    tests_push p (y ∷ xs) x h o = (h.0, tests_push p xs x h.1 o)

    -- ---- arming

    module _ (time : ℕ) (timed : time ≡ length owns) where
      -- one that is armed begins to run
      begins : (m : Instrumented) (x : MetricFocusPair) → AreNumbered m.placer → is_ready m x ≡ true → OneTest i owns m.placer ns D x
          → OneTest i owns (after_act (Arms x.instrument.n) m).placer ns D (record x { armed = Some time; from = time })
      begins m x r e h n is l =
          let placing = ready_placing m x e in
          let now = (ready_arms m x r e).itself placing in
          ⊎_elim (λ d. inl d)
          (λ (o : IsTest i owns (state_of m.placer x.instrument.n) ns n x).
          let b = o.placing placing in
          inr (subst (λ (z : Stage). IsTest i owns z ns n (record x { armed = Some time; from = time })) (sym now) (record {
            node = o.node;
            stands = o.stands;
            active = o.active;
            metric = o.metric;
            focus = o.focus;
            plan = o.plan;
            planned = o.planned;
            placing = λ z. absurd (let w : Armed ≡ Placing = z in cc);
            running = λ _. record {
              at = time;
              armed = refl;
              ordered = omega arith;
              past = omega (arith, timed);
              value = b.value ∙ sym (measure_none (program_of i.image) o.plan (harts_of_focus i o.node.focus) time time owns (start i.image i.settings.harts));
              ticks = b.ticks ∙ sym (ticks_none owns (harts_of_focus i o.node.focus) time);
              fresh = λ _. refl;
              going = λ z. absurd (true≢false (sym (eq-eqb o.node.seen 0 b.seen) ∙ z));
            };
          })))
          (h n is (ap is_leaving placing))

      -- what arming one, if it is ready, makes of it and of the others
      record OneArmed (m : Instrumented) (x : MetricFocusPair) : Type 0 where
        roster : AreNumbered (machine_armed m x).placer
        count : (machine_armed m x).placer.count ≡ m.placer.count
        other : (n : ℕ) → (n ≡ x.instrument.n → ⊥) → state_of (machine_armed m x).placer n ≡ state_of m.placer n
        number : (armed_at time m x).instrument.n ≡ x.instrument.n
        test : OneTest i owns m.placer ns D x → OneTest i owns (machine_armed m x).placer ns D (armed_at time m x)

      abbrev machine_by : Bool → Instrumented → MetricFocusPair → Instrumented
      machine_by b m x = cond b (after_act (Arms x.instrument.n) m) m

      abbrev shown_by : Bool → MetricFocusPair → MetricFocusPair
      shown_by b x = cond b (record x { armed = Some time; from = time }) x

      one_armed : (m : Instrumented) (x : MetricFocusPair) → AreNumbered m.placer → OneArmed m x
      one_armed m x r = by (is_ready m x) refl
        where
          by : (b : Bool) → is_ready m x ≡ b → OneArmed m x
          by true e =
              let a = ready_arms m x r e in
              record {
                roster = subst (λ (b : Bool). AreNumbered (machine_by b m x).placer) (sym e) a.roster;
                count = ap (λ (b : Bool). (machine_by b m x).placer.count) e ∙ a.count;
                other = λ n o. ap (λ (b : Bool). state_of (machine_by b m x).placer n) e ∙ a.other n o;
                number = ap (λ (b : Bool). (shown_by b x).instrument.n) e;
                test = λ h. subst (λ (b : Bool). OneTest i owns (machine_by b m x).placer ns D (shown_by b x)) (sym e) (begins m x r e h);
              }
          by false e = record {
            roster = subst (λ (b : Bool). AreNumbered (machine_by b m x).placer) (sym e) r;
            count = ap (λ (b : Bool). (machine_by b m x).placer.count) e;
            other = λ n o. ap (λ (b : Bool). state_of (machine_by b m x).placer n) e;
            number = ap (λ (b : Bool). (shown_by b x).instrument.n) e;
            test = λ h. subst (λ (b : Bool). OneTest i owns (machine_by b m x).placer ns D (shown_by b x)) (sym e) h;
          }

      pub record AllArmed (m : Instrumented) (xs : List MetricFocusPair) : Type 0 where
        pub roster : AreNumbered (arm_all m xs).placer
        pub count : (arm_all m xs).placer.count ≡ m.placer.count
        pub other : (n : ℕ) → NotBy n (tags xs) → state_of (arm_all m xs).placer n ≡ state_of m.placer n
        pub tests : AreTests i owns (arm_all m xs).placer ns D (all_armed time m xs)

      pub all_arm : (xs : List MetricFocusPair) (m : Instrumented) → AreNumbered m.placer → AreApart (tags xs) → AreTests i owns m.placer ns D xs → AllArmed m xs
      all_arm [] m r a h = record { roster = r; count = refl; other = λ n o. refl; tests = tt }
      all_arm (x ∷ xs) m r a h =
          let d = machine_armed m x in
          let y = armed_at time m x in
          let one = one_armed m x r in
          let all = all_arm xs d one.roster a.1 (tests_other m.placer d.placer x.instrument.n xs one.other a.0 h.1) in
          let last = (arm_all d xs).placer in
          record {
            roster = all.roster;
            count = all.count ∙ one.count;
            other = λ n o. all.other n o.1 ∙ one.other n (λ e. o.0 (sym e));
            tests = (one_same d.placer last y (ap (state_of last) one.number ∙ (all.other x.instrument.n a.0 ∙ sym (ap (state_of d.placer) one.number))) (one.test h.0), all.tests);
          }
