-- What holds of the nodes and their tests goes on holding through an admission.
use Rattle.std.proofs.Common.{◌≡◌, ℕ, ◌+◌, true, Option, Some, None, Ok, List, [], ◌∷◌, ◌++◌, refl, sym, ap, subst, ◌∙◌, arith, inr}
use Rattle.std.specs.Prelude.{slice_get}
use Rattle.std.proofs.lemmas.Bool.{true≢false}
use Rattle.pn_types.specs.declared.pick.BarCause.{BarCause}
use Rattle.pn_types.specs.declared.plan.Plan.{Plan}
use Rattle.mdl_check.specs.declared.checked.CheckedWish.{CheckedWish}
use Rattle.instrument.specs.Placements.{Placements, admission, or_same, state_of}
use Rattle.instrument.specs.Scenes.{Admits, Drops}
use Rattle.instrument.specs.declared.number.State.{State as Stage}
use Rattle.instrument.specs.declared.number.State.TheVariants.{Placing, Armed}
use Rattle.instrument.proofs.Numbers as numbers
use Rattle.instrumented.specs.Instrumented.{Instrumented, after_act}
use Rattle.w3_search.specs.declared.node.Node.{Node}
use Rattle.w3_search.specs.declared.node.NodeState.{NodeState}
use Rattle.w3_search.specs.declared.node.NodeState.TheVariants.{Waiting, Active, Confirmed, Rejected, Unfinished, Barred}
use Rattle.w3_search.specs.Nodes.{with_node_changed, in_state, is_open, is_waiting}
use Rattle.w3_search.specs.Steps.{SearchData, with_state}
use Rattle.session_spec.specs.declared.data.MetricFocusPair.{MetricFocusPair}
use Rattle.session_spec.specs.Inputs.{Inputs, planned}
use Rattle.session_spec.specs.Searches.{metric_of, rules_of}
use Rattle.session_spec.specs.States.{SessionState}
use Rattle.session_spec.specs.Admission.{with_admitted, shown_next}
use Rattle.session_spec.specs.Tests.{tested, tests_next}
use Rattle.session_spec.proofs.Standing.{Since}
use Rattle.session_spec.proofs.Acting.{admitted_placer, done_since}
use Rattle.session_spec.proofs.AdmittingSteps.{IsBeside, Keeps}
use Rattle.session_spec.proofs.Likes.{below_more, below_push}
use Rattle.session_spec.proofs.Grown.{Grows, changed_here, grows_none, grows_state}
use Rattle.session_spec.proofs.Seen.{IsNode, IsSeen, IsTaken, IsTest, NotOf, OneTest, no_node, tags}
use Rattle.session_spec.proofs.Tagged.{alone_push, apart_push, never_tested, taken_grown, taken_push}
use Rattle.session_spec.proofs.Carrying.{tests_grown, tests_push, tests_since}

number_same : (a b : ℕ) → Some a ≡ Some b → a ≡ b
number_same a b e = cc

-- a node's metric is that of its hypothesis
pub metric_active : (i : Inputs) (x : Node) → metric_of i (in_state Active x) ≡ metric_of i x
unfolding metric_of
metric_active i x = refl

module _ (i : Inputs) (owns : List ℕ) where
  seen_beside : (k j : SessionState) → IsBeside k j → IsSeen i owns k → IsSeen i owns j
  seen_beside k j b s =
      subst (IsSeen i owns)
      (ap (λ (m : Instrumented). record j { machine = m; shown = k.shown; search = k.search; time = k.time }) (sym b.machine)
      ∙ (ap (λ (ss : List MetricFocusPair). record j { shown = ss; search = k.search; time = k.time }) (sym b.shown)
      ∙ (ap (λ (v : SearchData). record j { search = v; time = k.time }) (sym b.search)
      ∙ ap (λ (t : ℕ). record j { time = t }) (sym b.time))))
      (record { rules = s.rules; time = s.time; roster = s.roster; below = s.below; apart = s.apart; alone = s.alone; taken = s.taken; nodes = s.nodes; tests = s.tests })

  -- a machine in which no instrument was armed since
  pub seen_machine : (k : SessionState) (m : Instrumented) → Since k.machine.placer m.placer → IsSeen i owns k → IsSeen i owns (record k { machine = m })
  seen_machine k m a s = record {
    rules = s.rules;
    time = s.time;
    roster = a.roster;
    below = below_more k.machine.placer.count m.placer.count k.shown a.count s.below;
    apart = s.apart;
    alone = s.alone;
    taken = s.taken;
    nodes = s.nodes;
    tests = tests_since i owns k.search.nodes no_node k.machine.placer m.placer k.shown a s.below s.tests;
  }

  -- ---- nodes that wait no more

  waits_open : (q : NodeState) → is_waiting q ≡ true → is_open q ≡ true
  waits_open Waiting e = refl
  waits_open Active e = absurd (true≢false (sym e))
  waits_open Confirmed e = absurd (true≢false (sym e))
  waits_open Rejected e = absurd (true≢false (sym e))
  waits_open (Barred cause) e = absurd (true≢false (sym e))
  waits_open (Unfinished seen) e = absurd (true≢false (sym e))

  barred_node : (cause : BarCause) (x : Node) → IsNode i owns (in_state (Barred cause) x)
  barred_node cause x = record {
    judged = λ e. absurd (true≢false (sym e));
    blank = λ e. absurd (true≢false (sym e));
    few = λ e. absurd (true≢false (sym e));
    unfinished = λ k e. absurd cc;
  }

  active_node : (x : Node) → is_waiting x.state ≡ true → IsNode i owns x → IsNode i owns (in_state Active x)
  active_node x w o = record {
    judged = λ e. absurd (true≢false (sym e));
    blank = λ e. absurd (true≢false (sym e));
    few = λ e. o.few (waits_open x.state w);
    unfinished = λ k e. absurd cc;
  }

  -- the search with a node in another state
  seen_state : (k : SessionState) (n : ℕ) (x : Node) (q : NodeState) → slice_get k.search.nodes n ≡ Some x → is_waiting x.state ≡ true → (IsNode i owns x → IsNode i owns (in_state q x))
      → IsSeen i owns k → IsSeen i owns (record k { search = with_state n q k.search })
  seen_state k n x q e w f s =
      let g = grows_state (IsNode i owns) no_node k.search.nodes n x q e w f in
      record {
        rules = s.rules;
        time = s.time;
        roster = s.roster;
        below = s.below;
        apart = s.apart;
        alone = s.alone;
        taken = taken_grown (IsNode i owns) no_node k.search.nodes (with_node_changed (in_state q) n k.search.nodes) (tags k.shown) g s.taken;
        nodes = g.each s.nodes;
        tests = tests_grown i owns k.machine.placer (IsNode i owns) no_node no_node no_node k.search.nodes (with_node_changed (in_state q) n k.search.nodes) k.shown g (λ n h. h) (λ n h. h) s.tests;
      }

  -- ---- an instrument more

  module _ (k : SessionState) (plan : Plan) (cost : Option ℕ) (placer : Placements) (e : admission k.machine.placer plan cost ≡ Ok placer) (s : IsSeen i owns k) where
    abbrev p : Placements
    p = k.machine.placer

    abbrev m : Instrumented
    m = after_act (Admits plan cost) k.machine

    placer_is : m.placer ≡ placer
    placer_is = admitted_placer plan cost k.machine ∙ ap (or_same p) e

    count_is : m.placer.count ≡ p.count + 1
    count_is = ap (λ (q : Placements). q.count) placer_is ∙ (numbers.admissions_tell p plan cost placer (s.roster).numbered e).count

    new_placing : state_of m.placer p.count ≡ Placing
    new_placing = ap (λ (q : Placements). state_of q p.count) placer_is ∙ (numbers.admissions_tell p plan cost placer (s.roster).numbered e).state

    -- after the nodes that the search has then
    seen_more : (v : SearchData) (x : MetricFocusPair) → v.rules ≡ rules_of i → Grows (IsNode i owns) no_node k.search.nodes v.nodes → x.instrument.n ≡ p.count
        → ((n : ℕ) → x.node ≡ Some n → IsTaken v.nodes n)
        → ((n : ℕ) → x.node ≡ Some n → NotOf n (tags k.shown)) → OneTest i owns m.placer v.nodes no_node x → IsSeen i owns (record k { machine = m; search = v; shown = k.shown ++ x ∷ [] })
    seen_more v x rules g number t a o =
        let since = done_since (Admits plan cost) tt k.machine s.roster in
        record {
          rules = rules;
          time = s.time;
          roster = since.roster;
          below = below_push m.placer.count k.shown x (below_more p.count m.placer.count k.shown since.count s.below) (omega (arith, number, count_is));
          apart = apart_push p.count k.shown x number s.below s.apart;
          alone = alone_push k.shown x s.alone a;
          taken = taken_push v.nodes k.shown x (taken_grown (IsNode i owns) no_node k.search.nodes v.nodes (tags k.shown) g s.taken) (t, tt);
          nodes = g.each s.nodes;
          tests = tests_push i owns v.nodes no_node m.placer k.shown x
              (tests_since i owns v.nodes no_node p m.placer k.shown since s.below
              (tests_grown i owns p (IsNode i owns) no_node no_node no_node k.search.nodes v.nodes k.shown g (λ n h. h) (λ n h. h) s.tests)) o;
        }

  -- the instrument of a wish
  seen_wished : (k : SessionState) (plan : Plan) (w : CheckedWish) (placer : Placements) → admission k.machine.placer plan None ≡ Ok placer → IsSeen i owns k
      → IsSeen i owns (record (with_admitted plan k) { shown = k.shown ++ shown_next w k ∷ [] })
  seen_wished k plan w placer e s =
      seen_more k plan None placer e s k.search (shown_next w k) s.rules (grows_none (IsNode i owns) no_node k.search.nodes) refl (λ n q. absurd cc) (λ n q. absurd cc) (λ n q l. absurd cc)

  -- the instrument of a node
  seen_tested : (k : SessionState) (n : ℕ) (x : Node) (plan : Plan) (placer : Placements) → slice_get k.search.nodes n ≡ Some x → is_waiting x.state ≡ true → planned i (metric_of i x) x.focus ≡ Ok plan
      → admission k.machine.placer plan (Some (rules_of i).decl.cost) ≡ Ok placer → IsSeen i owns k → IsSeen i owns (tested i n x plan k)
  seen_tested k n x plan placer stands waits is e s =
      let v = with_state n Active k.search in
      let cost = Some (rules_of i).decl.cost in
      let new = tests_next i n x k in
      let placed = new_placing k plan cost placer e s in
      let q = (after_act (Admits plan cost) k.machine).placer in
      let here = changed_here (in_state Active) k.search.nodes n x stands in
      let same = metric_active i x in
      let blank = (s.nodes n x stands).blank waits in
      let test : IsTest i owns Placing v.nodes n new = record {
        node = in_state Active x;
        stands = here;
        active = refl;
        metric = sym same;
        focus = refl;
        plan = plan;
        planned = ap (λ (z : ℕ). planned i z x.focus) same ∙ is;
        placing = λ _. record { seen = blank.seen; value = blank.value; ticks = blank.ticks };
        running = λ z. absurd (let w : Placing ≡ Armed = z in cc);
      } in
      seen_more k plan cost placer e s v new s.rules (grows_state (IsNode i owns) no_node k.search.nodes n x Active stands waits (active_node x waits)) refl
      (λ z f. subst (IsTaken v.nodes) (number_same n z f) (record { node = in_state Active x; stands = here; taken = refl }))
      (λ z f. subst (λ (d : ℕ). NotOf d (tags k.shown)) (number_same n z f) (never_tested k.search.nodes n x (tags k.shown) stands waits s.taken))
      (λ z f l. inr (subst (λ (d : ℕ). IsTest i owns (state_of q new.instrument.n) v.nodes d new) (number_same n z f)
      (subst (λ (g : Stage). IsTest i owns g v.nodes n new) (sym placed) test)))

  pub seen_keeps : Keeps i (IsSeen i owns)
  seen_keeps = record {
    beside = seen_beside;
    drops = λ k n s. seen_machine k (after_act (Drops n) k.machine) (done_since (Drops n) tt k.machine s.roster) s;
    wished = λ k plan w placer is e s. seen_wished k plan w placer e s;
    barred = λ k n x cause stands waits by s. seen_state k n x (Barred cause) stands waits (λ o. barred_node cause x) s;
    tested = λ k n x plan placer stands waits is room e s. seen_tested k n x plan placer stands waits is e s;
  }
