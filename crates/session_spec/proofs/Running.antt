-- One sample of a test: its node's value is what its plan measures from its arming on.
use Rattle.std.proofs.Common.{◌≡◌, ℕ, ◌+◌, ◌%◌, ◌^◌, ◌<◌, ◌≤◌, Bool, true, false, cond, Option, Some, Ok, List, length, refl, sym, ap, subst, ◌∙◌, arith, inl, inr, ◌⊎◌}
use Rattle.std.specs.Prelude.{nat_lt, ◌==◌, ◌&&◌, Result, slice_get, unwrap_or}
use Rattle.std.proofs.lemmas.Bool.{true≢false, cond-true, cond-false, cases_Bool, cases_eq, eqb-true, eq-eqb, lt-ltb}
use Rattle.pn_types.specs.declared.focus.Focus.{Focus}
use Rattle.pn_types.specs.declared.plan.Plan.{Plan}
use Rattle.rv_mem.specs.Start.{program_of}
use Rattle.rv_exec.specs.Start.{start}
use Rattle.machine.specs.Measures.{measure}
use Rattle.machine.proofs.Sums.{measures_add}
use Rattle.instrument.specs.declared.number.State.TheVariants.{Placing, Armed}
use Rattle.mdl_ast.specs.declared.items.Hypothesis.{Hypothesis}
use Rattle.mdl_plan.specs.declared.fault.PlanFault.{PlanFault}
use Rattle.w3_search.specs.Refining.{threshold_of}
use Rattle.w3_search.specs.Testing.{holds}
use Rattle.w3_search.specs.declared.node.Node.{Node}
use Rattle.w3_search.specs.declared.node.NodeSample.{NodeSample}
use Rattle.w3_search.specs.declared.node.NodeState.{NodeState}
use Rattle.w3_search.specs.declared.node.NodeState.TheVariants.{Active, Confirmed, Rejected, Unfinished}
use Rattle.w3_search.specs.Nodes.{is_active, is_open, is_waiting, sampled}
use Rattle.w3_search.specs.Steps.{with_verdict, may_take, with_sample}
use Rattle.session_spec.specs.declared.data.MetricFocusPair.{MetricFocusPair}
use Rattle.session_spec.specs.Inputs.{Inputs, harts_of_focus, planned}
use Rattle.session_spec.specs.Searches.{metric_of, rules_of}
use Rattle.session_spec.specs.Due.{measure_by, measured}
use Rattle.session_spec.specs.Verdicts.{node_sample, ticks_in}
use Rattle.session_spec.proofs.Measuring.{ticks_add, ticks_few}
use Rattle.session_spec.proofs.Grown.{Each, changed_here, changed_there, some_same}
use Rattle.session_spec.proofs.Seen.{IsNode, IsRuled, IsRunning, IsTaken, IsTest, is_judged}

-- no node of this number is under test any more
pub record IsEnded (ns : List Node) (n : ℕ) : Type 0 where
  pub node : Node
  pub stands : slice_get ns n ≡ Some node
  pub ended : is_active node.state ≡ false

-- ---- states

ruled_judged : (b : Bool) → is_judged (cond b Confirmed Rejected) ≡ true
ruled_judged true = refl
ruled_judged false = refl

ruled_waits : (b : Bool) → is_waiting (cond b Confirmed Rejected) ≡ false
ruled_waits true = refl
ruled_waits false = refl

ruled_open : (b : Bool) → is_open (cond b Confirmed Rejected) ≡ false
ruled_open true = refl
ruled_open false = refl

ruled_active : (b : Bool) → is_active (cond b Confirmed Rejected) ≡ false
ruled_active true = refl
ruled_active false = refl

abbrev is_unfinished : NodeState → Bool
is_unfinished (Unfinished k) = true
is_unfinished state = false

ruled_unfinished : (b : Bool) → is_unfinished (cond b Confirmed Rejected) ≡ false
ruled_unfinished true = refl
ruled_unfinished false = refl

-- ---- what is measured of a test

measured_test : (i : Inputs) (owns : List ℕ) (x : MetricFocusPair) (time : ℕ) (node : Node) (plan : Plan) (at : ℕ) → x.metric ≡ metric_of i node → x.focus ≡ node.focus
    → planned i (metric_of i node) node.focus ≡ Ok plan → x.armed ≡ Some at
    → measured i owns x time ≡ measure (program_of i.image) plan (harts_of_focus i node.focus) at x.from time owns (start i.image i.settings.harts)
unfolding measured
measured_test i owns x time node plan at metric focus is armed =
    ap (λ (m : ℕ). measure_by (planned i m x.focus) i (harts_of_focus i x.focus) (unwrap_or x.armed 0) x.from time owns) metric
    ∙ (ap (λ (f : Focus). measure_by (planned i (metric_of i node) f) i (harts_of_focus i f) (unwrap_or x.armed 0) x.from time owns) focus
    ∙ (ap (λ (r : Result Plan PlanFault). measure_by r i (harts_of_focus i node.focus) (unwrap_or x.armed 0) x.from time owns) is
    ∙ ap (λ (o : Option ℕ). measure (program_of i.image) plan (harts_of_focus i node.focus) (unwrap_or o 0) x.from time owns (start i.image i.settings.harts)) armed))

-- a node's metric is that of its hypothesis
pub metric_sampled : (i : Inputs) (hs : List Hypothesis) (w t : ℕ) (s : NodeSample) (n : Node) → metric_of i (with_verdict hs w (sampled t s n)) ≡ metric_of i n
unfolding metric_of
metric_sampled i hs w t s n = refl

-- ---- one sample

-- a test that runs
module _ (i : Inputs) (owns : List ℕ) (time : ℕ) (timed : time ≡ length owns) (n : ℕ) (x : MetricFocusPair) (y : Node) (plan : Plan) (focus : x.focus ≡ y.focus) (r : IsRunning i owns y plan x) where
  before_now : x.from ≤ time
  before_now = let z : x.from ≤ length owns = r.past in omega (arith, timed)

  -- its window begins with its arming
  pub begins : cond (y.seen == 0) x.from y.from ≡ r.at
  begins = by (cases_Bool (y.seen == 0))
    where
      by : ((y.seen == 0) ≡ true) ⊎ ((y.seen == 0) ≡ false) → cond (y.seen == 0) x.from y.from ≡ r.at
      by (inl z) = cond-true (y.seen == 0) x.from y.from z ∙ r.fresh z
      by (inr z) = cond-false (y.seen == 0) x.from y.from z ∙ (r.going z).0

  ticks_more : y.ticks + (node_sample i owns time n x).ticks ≡ ticks_in owns (harts_of_focus i y.focus) r.at time
  ticks_more =
      let harts = harts_of_focus i y.focus in
      ap (λ (v : ℕ). v + (node_sample i owns time n x).ticks) r.ticks
      ∙ (ap (λ (g : Focus). ticks_in owns harts r.at x.from + ticks_in owns (harts_of_focus i g) x.from time) focus
      ∙ ticks_add owns harts r.at x.from time r.ordered before_now)

  -- it takes the sample
  pub may : time < 2 ^ 64 → y.state ≡ Active → may_take (node_sample i owns time n x) y ≡ true
  may low active =
      let s = node_sample i owns time n x in
      let few : ticks_in owns (harts_of_focus i y.focus) r.at time < 2 ^ 64 = omega (arith, ticks_few owns (harts_of_focus i y.focus) r.at time, low) in
      let small : y.ticks + s.ticks < 2 ^ 64 = omega (arith, ticks_more, few) in
      ap (λ (q : NodeState). is_active q && nat_lt (y.ticks + s.ticks) (2 ^ 64)) active ∙ lt-ltb (y.ticks + s.ticks) (2 ^ 64) small

module _ (i : Inputs) (owns : List ℕ) (time : ℕ) (timed : time ≡ length owns) (low : time < 2 ^ 64) (ns : List Node) (all : Each (IsNode i owns) ns)
    (n : ℕ) (x : MetricFocusPair) (o : IsTest i owns Armed ns n x) where
  abbrev s : NodeSample
  s = node_sample i owns time n x

  abbrev hs : List Hypothesis
  hs = (rules_of i).hypotheses

  abbrev window : ℕ
  window = (rules_of i).decl.window

  abbrev y : Node
  y = o.node

  abbrev m : Node
  m = with_verdict hs window (sampled time s y)

  abbrev f : Node → Node
  f z = cond (may_take s z) (with_verdict hs window (sampled time s z)) z

  abbrev r : IsRunning i owns y o.plan x
  r = o.running refl

  abbrev harts : List ℕ
  harts = harts_of_focus i y.focus

  abbrev ended : Bool
  ended = (y.seen + 1) == window

  past : x.from ≤ time
  past = before_now i owns time timed n x y o.plan o.focus r

  from_is : m.from ≡ r.at
  from_is = begins i owns time timed n x y o.plan o.focus r

  value_is : m.value ≡ measure (program_of i.image) o.plan harts r.at r.at time owns (start i.image i.settings.harts)
  value_is = ap (λ (v : ℕ). (v + s.value) % 2 ^ 64) r.value
      ∙ (ap (λ (v : ℕ). (measure (program_of i.image) o.plan harts r.at r.at x.from owns (start i.image i.settings.harts) + v) % 2 ^ 64)
      (measured_test i owns x time y o.plan r.at o.metric o.focus o.planned r.armed)
      ∙ measures_add.times (program_of i.image) o.plan harts r.at r.at x.from time owns (start i.image i.settings.harts))

  ticks_is : m.ticks ≡ ticks_in owns harts r.at time
  ticks_is = ticks_more i owns time timed n x y o.plan o.focus r

  sampled_is : f y ≡ m
  sampled_is = cond-true (may_take s y) m y (may i owns time timed n x y o.plan o.focus r low o.active)

  verdict : ended ≡ true → m.state ≡ cond (holds m.value m.ticks (threshold_of hs y.hypothesis)) Confirmed Rejected
  verdict e = cond-true ended (cond (holds m.value m.ticks (threshold_of hs y.hypothesis)) Confirmed Rejected) y.state e

  goes_on : ended ≡ false → m.state ≡ Active
  goes_on e = cond-false ended (cond (holds m.value m.ticks (threshold_of hs y.hypothesis)) Confirmed Rejected) y.state e ∙ o.active

  is_verdict : ended ≡ true → IsRuled i owns m
  is_verdict e =
      let a : r.at ≤ x.from = r.ordered in
      let b : x.from ≤ time = past in
      record {
        plan = o.plan;
        planned = ap (λ (k : ℕ). planned i k y.focus) (metric_sampled i hs window time s y) ∙ o.planned;
        ordered = omega (arith, from_is);
        past = omega (arith, timed);
        window = eqb-true (y.seen + 1) window e;
        value = value_is ∙ ap (λ (z : ℕ). measure (program_of i.image) o.plan harts z z time owns (start i.image i.settings.harts)) (sym from_is);
        ticks = ticks_is ∙ ap (λ (z : ℕ). ticks_in owns harts z time) (sym from_is);
        verdict = verdict e;
      }

  is_node : IsNode i owns m
  is_node = by (cases_Bool ended)
    where
      by : (ended ≡ true) ⊎ (ended ≡ false) → IsNode i owns m
      by (inl e) = record {
        judged = λ _. is_verdict e;
        blank = λ w. absurd (true≢false (sym w ∙ (ap is_waiting (verdict e) ∙ ruled_waits (holds m.value m.ticks (threshold_of hs y.hypothesis)))));
        few = λ w. absurd (true≢false (sym w ∙ (ap is_open (verdict e) ∙ ruled_open (holds m.value m.ticks (threshold_of hs y.hypothesis)))));
        unfinished = λ k w. absurd (true≢false (ap is_unfinished (sym w) ∙ (ap is_unfinished (verdict e) ∙ ruled_unfinished (holds m.value m.ticks (threshold_of hs y.hypothesis)))));
      }
      by (inr e) = record {
        judged = λ w. absurd (true≢false (sym w ∙ ap is_judged (goes_on e)));
        blank = λ w. absurd (true≢false (sym w ∙ ap is_waiting (goes_on e)));
        few = λ w.
            let z : y.seen < window = (all n y o.stands).few (ap is_open o.active) in
            let other : y.seen + 1 ≡ window → ⊥ = λ q. true≢false (sym (eq-eqb (y.seen + 1) window q) ∙ e) in
            omega (arith, z, other);
        unfinished = λ k w. absurd (true≢false (ap is_unfinished (sym w) ∙ ap is_unfinished (goes_on e)));
      }

  abbrev pub later : List Node
  later = with_sample hs window time s ns

  stands : slice_get later n ≡ Some m
  stands = changed_here f ns n y o.stands ∙ ap (λ (z : Node). Some z) sampled_is

  pub each_sampled : Each (IsNode i owns) later
  each_sampled k z e = by (cases_eq k n)
    where
      by : (k ≡ n) ⊎ (k ≡ n → ⊥) → IsNode i owns z
      by (inl q) = subst (IsNode i owns) (some_same m z (sym stands ∙ (ap (slice_get later) (sym q) ∙ e))) is_node
      by (inr q) = all k z (sym (changed_there f ns n k q) ∙ e)

  pub taken_sampled : (k : ℕ) → IsTaken ns k → IsTaken later k
  taken_sampled k t = by (cases_eq k n)
    where
      waits : (b : Bool) → ended ≡ b → is_waiting m.state ≡ false
      waits true e = ap is_waiting (verdict e) ∙ ruled_waits (holds m.value m.ticks (threshold_of hs y.hypothesis))
      waits false e = ap is_waiting (goes_on e)

      by : (k ≡ n) ⊎ (k ≡ n → ⊥) → IsTaken later k
      by (inl q) = record { node = m; stands = ap (slice_get later) q ∙ stands; taken = waits ended refl }
      by (inr q) = record { node = t.node; stands = changed_there f ns n k q ∙ t.stands; taken = t.taken }

  pub elsewhere : (k : ℕ) → (k ≡ n → ⊥) → slice_get later k ≡ slice_get ns k
  elsewhere k q = changed_there f ns n k q

  -- the test goes on, or its node has ended
  pub goes_sampled : IsEnded later n ⊎ IsTest i owns Armed later n (record x { from = time })
  goes_sampled = by (cases_Bool ended)
    where
      by : (ended ≡ true) ⊎ (ended ≡ false) → IsEnded later n ⊎ IsTest i owns Armed later n (record x { from = time })
      by (inl e) = inl (record { node = m; stands = stands; ended = ap is_active (verdict e) ∙ ruled_active (holds m.value m.ticks (threshold_of hs y.hypothesis)) })
      by (inr e) =
          let a : r.at ≤ x.from = r.ordered in
          let b : x.from ≤ time = past in
          let same = metric_sampled i hs window time s y in
          inr (record {
            node = m;
            stands = stands;
            active = goes_on e;
            metric = o.metric ∙ sym same;
            focus = o.focus;
            plan = o.plan;
            planned = ap (λ (k : ℕ). planned i k y.focus) same ∙ o.planned;
            placing = λ z. absurd (let w : Armed ≡ Placing = z in cc);
            running = λ _. record {
              at = r.at;
              armed = r.armed;
              ordered = omega arith;
              past = omega (arith, timed);
              value = value_is;
              ticks = ticks_is;
              fresh = λ z. absurd (let q : y.seen + 1 ≡ 0 = eqb-true (y.seen + 1) 0 z in omega arith);
              going = λ _. (from_is, refl);
            };
          })
