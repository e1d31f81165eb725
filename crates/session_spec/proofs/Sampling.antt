-- The samples of a due work: each test goes on from them, or its node has ended.
use Rattle.std.proofs.Common.{◌≡◌, ℕ, ◌^◌, ◌<◌, Bool, true, false, cond, Option, Some, None, List, [], ◌∷◌, ◌++◌, length, map, refl, sym, ap, subst, ◌∙◌, inl, inr, ⊎_elim}
use Rattle.std.specs.Prelude.{slice_get}
use Rattle.std.proofs.lemmas.Bool.{true≢false, cond-true, cond-false}
use Rattle.instrument.specs.Placements.{Placements, is_leaving, state_of}
use Rattle.instrument.specs.declared.number.State.{State as Stage}
use Rattle.instrument.specs.declared.number.State.TheVariants.{Placing, Armed, Leaving, Gone}
use Rattle.w3_search.specs.declared.node.Node.{Node}
use Rattle.w3_search.specs.declared.node.NodeSample.{NodeSample}
use Rattle.w3_search.specs.Steps.{with_samples}
use Rattle.session_spec.specs.declared.data.MetricFocusPair.{MetricFocusPair}
use Rattle.session_spec.specs.Inputs.{Inputs}
use Rattle.session_spec.specs.Searches.{rules_of}
use Rattle.session_spec.specs.Due.{is_armed, is_armed_state, sampled_to}
use Rattle.session_spec.specs.Verdicts.{node_sample, node_samples, node_samples_by}
use Rattle.session_spec.proofs.Grown.{Each}
use Rattle.session_spec.proofs.Running.{IsEnded, each_sampled, elsewhere, goes_sampled, later, taken_sampled}
use Rattle.session_spec.proofs.Seen.{AreAlone, AreTests, IsNode, IsTaken, IsTest, NotOf, OneTest, no_node, tags}

-- a test whose node is as it was
pub test_moved : (i : Inputs) (owns : List ℕ) (q : Stage) (ns ms : List Node) (n : ℕ) (x : MetricFocusPair) → slice_get ms n ≡ slice_get ns n → IsTest i owns q ns n x → IsTest i owns q ms n x
test_moved i owns q ns ms n x e o =
    record { node = o.node; stands = e ∙ o.stands; active = o.active; metric = o.metric; focus = o.focus; plan = o.plan; planned = o.planned; placing = o.placing; running = o.running }

ended_moved : (ns ms : List Node) (n : ℕ) → slice_get ms n ≡ slice_get ns n → IsEnded ns n → IsEnded ms n
ended_moved ns ms n e o = record { node = o.node; stands = e ∙ o.stands; ended = o.ended }

module _ (i : Inputs) (owns : List ℕ) (p : Placements) where
  others_moved : (k : ℕ) (ns ms : List Node) (xs : List MetricFocusPair) → ((n : ℕ) → (n ≡ k → ⊥) → slice_get ms n ≡ slice_get ns n) → NotOf k (tags xs)
      → AreTests i owns p ns no_node xs → AreTests i owns p ms no_node xs
  others_moved k ns ms [] f a h = tt
  others_moved k ns ms (x ∷ xs) f a h = (
    (λ n e l. ⊎_elim (λ d. inl d) (λ (o : IsTest i owns (state_of p x.instrument.n) ns n x).
        inr (test_moved i owns (state_of p x.instrument.n) ns ms n x (f n (λ q. a.0 (e ∙ ap (λ (z : ℕ). Some z) q))) o)) (h.0 n e l)),
    others_moved k ns ms xs f a.1 h.1,
  )

pub armed_is : (q : Stage) → is_armed_state q ≡ true → q ≡ Armed
armed_is Armed e = refl
armed_is Placing e = absurd (true≢false (sym e))
armed_is Leaving e = absurd (true≢false (sym e))
armed_is Gone e = absurd (true≢false (sym e))

module _ (i : Inputs) (owns : List ℕ) (p : Placements) (time : ℕ) (timed : time ≡ length owns) (low : time < 2 ^ 64) where
  abbrev with : List NodeSample → List Node → List Node
  with ss ns = with_samples (rules_of i).hypotheses (rules_of i).decl.window time ss ns

  -- what the samples of these made of the nodes
  pub record Ran (ns ms : List Node) (xs : List MetricFocusPair) : Type 0 where
    pub other : (n : ℕ) → NotOf n (tags xs) → slice_get ms n ≡ slice_get ns n
    pub nodes : Each (IsNode i owns) ms
    pub taken : (n : ℕ) → IsTaken ns n → IsTaken ms n
    pub tests : AreTests i owns p ms (IsEnded ms) (map (sampled_to p time) xs)

  -- one that isn't armed is as it was
  not_sampled : (ns ms : List Node) (x : MetricFocusPair) → is_armed p x ≡ false → ((n : ℕ) → x.node ≡ Some n → slice_get ms n ≡ slice_get ns n) → OneTest i owns p ns no_node x
      → OneTest i owns p ms (IsEnded ms) (sampled_to p time x)
  not_sampled ns ms x e f o =
      subst (OneTest i owns p ms (IsEnded ms)) (sym (cond-false (is_armed p x) (record x { from = time }) x e))
      (λ n k l. ⊎_elim (λ d. absurd d) (λ (t : IsTest i owns (state_of p x.instrument.n) ns n x). inr (test_moved i owns (state_of p x.instrument.n) ns ms n x (f n k) t)) (o n k l))

  -- the first of them
  module _ (x : MetricFocusPair) (xs : List MetricFocusPair) (ns : List Node) (h : AreTests i owns p ns no_node (x ∷ xs)) (a : AreAlone (tags (x ∷ xs))) (all : Each (IsNode i owns) ns) where
    abbrev rest : List NodeSample
    rest = node_samples i p owns time xs

    abbrev samples_by : Option ℕ → List NodeSample
    samples_by o = node_samples_by o i p owns time x ++ rest

    untested : (ms : List Node) → is_armed p x ≡ false → ((n : ℕ) → x.node ≡ Some n → NotOf n (tags xs)) → Ran ns ms xs → Ran ns ms (x ∷ xs)
    untested ms e f ih = record {
      other = λ n o. ih.other n o.1;
      nodes = ih.nodes;
      taken = ih.taken;
      tests = (not_sampled ns ms x e (λ n k. ih.other n (f n k)) h.0, ih.tests);
    }

    armed : (n : ℕ) → x.node ≡ Some n → is_armed p x ≡ true → IsTest i owns (state_of p x.instrument.n) ns n x
        → ((n1 : List Node) → AreTests i owns p n1 no_node xs → Each (IsNode i owns) n1 → Ran n1 (with rest n1) xs) → Ran ns (with (node_sample i owns time n x ∷ rest) ns) (x ∷ xs)
    armed n is e o again =
        let stage = armed_is (state_of p x.instrument.n) e in
        let t : IsTest i owns Armed ns n x = subst (λ (q : Stage). IsTest i owns q ns n x) stage o in
        let n1 = later i owns time timed low ns all n x t in
        let apart = elsewhere i owns time timed low ns all n x t in
        let ih = again n1 (others_moved i owns p n ns n1 xs apart (a.0 n is) h.1) (each_sampled i owns time timed low ns all n x t) in
        let ms = with rest n1 in
        record {
          other = λ k q. ih.other k q.1 ∙ apart k (λ z. q.0 (is ∙ ap (λ (z : ℕ). Some z) (sym z)));
          nodes = ih.nodes;
          taken = λ k q. ih.taken k (taken_sampled i owns time timed low ns all n x t k q);
          tests = (
            subst (OneTest i owns p ms (IsEnded ms)) (sym (cond-true (is_armed p x) (record x { from = time }) x e))
                (λ k q l.
                let same : n ≡ k = let z : Some n ≡ Some k = sym is ∙ q in cc in
                let at = ih.other n (a.0 n is) in
                ⊎_elim
                (λ (d : IsEnded n1 n). inl (subst (IsEnded ms) same (ended_moved n1 ms n at d)))
                (λ (z : IsTest i owns Armed n1 n (record x { from = time })). inr (subst (λ (k : ℕ). IsTest i owns (state_of p x.instrument.n) ms k (record x { from = time })) same
                (test_moved i owns (state_of p x.instrument.n) n1 ms n (record x { from = time }) at (subst (λ (q : Stage). IsTest i owns q n1 n (record x { from = time })) (sym stage) z))))
                (goes_sampled i owns time timed low ns all n x t)),
            ih.tests,
          );
        }

    some : (n : ℕ) → x.node ≡ Some n → (b : Bool) → is_armed p x ≡ b
        → ((n1 : List Node) → AreTests i owns p n1 no_node xs → Each (IsNode i owns) n1 → Ran n1 (with rest n1) xs)
        → Ran ns (with (cond b (node_sample i owns time n x ∷ []) [] ++ rest) ns) (x ∷ xs)
    some n is false e again = untested (with rest ns) e (λ k q. a.0 k q) (again ns h.1 all)
    some n is true e again =
        ⊎_elim (λ d. absurd d) (λ (o : IsTest i owns (state_of p x.instrument.n) ns n x). armed n is e o again)
        (h.0 n is (ap is_leaving (armed_is (state_of p x.instrument.n) e)))

    none_sampled : x.node ≡ None → (b : Bool) → is_armed p x ≡ b → (ms : List Node) → OneTest i owns p ms (IsEnded ms) (sampled_to p time x)
    none_sampled is true e ms =
        subst (OneTest i owns p ms (IsEnded ms)) (sym (cond-true (is_armed p x) (record x { from = time }) x e)) (λ n q l. absurd (let z : None ≡ Some n = sym is ∙ q in cc))
    none_sampled is false e ms =
        subst (OneTest i owns p ms (IsEnded ms)) (sym (cond-false (is_armed p x) (record x { from = time }) x e)) (λ n q l. absurd (let z : None ≡ Some n = sym is ∙ q in cc))

    by_node : (o : Option ℕ) → x.node ≡ o → ((n1 : List Node) → AreTests i owns p n1 no_node xs → Each (IsNode i owns) n1 → Ran n1 (with rest n1) xs)
        → Ran ns (with (node_samples i p owns time (x ∷ xs)) ns) (x ∷ xs)
    by_node None is again =
        let ih = again ns h.1 all in
        let ms = with rest ns in
        subst (λ (ss : List NodeSample). Ran ns (with ss ns) (x ∷ xs)) (sym (ap (λ (o : Option ℕ). samples_by o) is))
        (record { other = λ n o. ih.other n o.1; nodes = ih.nodes; taken = ih.taken; tests = (none_sampled is (is_armed p x) refl ms, ih.tests) })
    by_node (Some n) is again =
        subst (λ (ss : List NodeSample). Ran ns (with ss ns) (x ∷ xs)) (sym (ap (λ (o : Option ℕ). samples_by o) is)) (some n is (is_armed p x) refl again)

  pub run : (xs : List MetricFocusPair) (ns : List Node) → AreTests i owns p ns no_node xs → AreAlone (tags xs) → Each (IsNode i owns) ns → Ran ns (with (node_samples i p owns time xs) ns) xs
  run [] ns h a all = record { other = λ n o. refl; nodes = all; taken = λ n t. t; tests = tt }
  run (x ∷ xs) ns h a all = by_node x xs ns h a all x.node refl (λ n1 h1 all1. run xs n1 h1 a.1 all1)
