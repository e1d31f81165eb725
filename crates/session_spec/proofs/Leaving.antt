-- The instruments of the nodes whose test ended are dropped: what is left are tests that go on.
use Rattle.std.proofs.Common.{◌≡◌, ℕ, Bool, true, false, Option, Some, None, List, [], ◌∷◌, refl, sym, ap, subst, ◌∙◌, inl, inr, ⊎_elim}
use Rattle.std.specs.Prelude.{◌&&◌, not}
use Rattle.std.proofs.lemmas.Bool.{true≢false, and_parts, eq-eqb, eqb-true}
use Rattle.machine.specs.Cores.{In}
use Rattle.machine.proofs.Lists.{find_gives}
use Rattle.instrument.specs.Placements.{Placements, is_leaving, state_of}
use Rattle.instrument.specs.Scenes.{Drops}
use Rattle.instrument.specs.declared.number.State.{State as Stage}
use Rattle.instrument.proofs.Folds.{find_none}
use Rattle.instrumented.specs.Instrumented.{Instrumented, after_act}
use Rattle.w3_search.specs.declared.node.Node.{Node}
use Rattle.w3_search.specs.Nodes.{is_same_number}
use Rattle.session_spec.specs.declared.data.MetricFocusPair.{MetricFocusPair}
use Rattle.session_spec.specs.Inputs.{Inputs}
use Rattle.session_spec.specs.States.{SessionState}
use Rattle.session_spec.specs.Verdicts.{tester_of, tests, without_tester, without_tests}
use Rattle.session_spec.specs.Rosters.{AreBelow, AreNumbered}
use Rattle.session_spec.proofs.Standing.{Since, dropped_leaves, since_none, since_on}
use Rattle.session_spec.proofs.Acting.{done_since, dropped_placer}
use Rattle.session_spec.proofs.Likes.{below_more}
use Rattle.session_spec.proofs.Tagged.{same_tester}
use Rattle.session_spec.proofs.Seen.{AreAlone, AreTests, IsTest, OneTest, no_node, tags}

-- ---- the machine alone changes

abbrev with_machine : Instrumented → SessionState → SessionState
with_machine m k = record k { machine = m }

pub tester_alone : (o : Option MetricFocusPair) (k : SessionState) → without_tester o k ≡ with_machine (without_tester o k).machine k
tester_alone None k = refl
tester_alone (Some s) k = refl

pub tests_alone : (ds : List ℕ) (k : SessionState) → without_tests ds k ≡ with_machine (without_tests ds k).machine k
tests_alone [] k = refl
tests_alone (d ∷ ds) k =
    let j = without_tester (tester_of k.machine.placer d k.shown) k in
    tests_alone ds j ∙ ap (with_machine (without_tests ds j).machine) (tester_alone (tester_of k.machine.placer d k.shown) k)

-- and arms none
pub since_tester : (o : Option MetricFocusPair) (k : SessionState) → AreNumbered k.machine.placer → Since k.machine.placer (without_tester o k).machine.placer
since_tester None k r = since_none k.machine.placer r
since_tester (Some s) k r = done_since (Drops s.instrument.n) tt k.machine r

-- ---- tests by membership

module _ (i : Inputs) (owns : List ℕ) (p : Placements) (ns : List Node) (D : ℕ → Type 0) where
  test_at : (xs : List MetricFocusPair) (x : MetricFocusPair) → AreTests i owns p ns D xs → In x xs → OneTest i owns p ns D x
  test_at [] x h k = absurd k
  test_at (y ∷ xs) x h (inl e) = subst (OneTest i owns p ns D) (sym e) h.0
  test_at (y ∷ xs) x h (inr k) = test_at xs x h.1 k

  tests_of_all : (xs : List MetricFocusPair) → ((x : MetricFocusPair) → In x xs → OneTest i owns p ns D x) → AreTests i owns p ns D xs
  tests_of_all [] f = tt
  tests_of_all (x ∷ xs) f = (f x (inl refl), tests_of_all xs (λ y k. f y (inr k)))

below_at : (c : ℕ) (xs : List MetricFocusPair) (x : MetricFocusPair) → AreBelow c xs → In x xs → AreBelow c (x ∷ [])
below_at c [] x b k = absurd k
below_at c (y ∷ xs) x b (inl e) = subst (λ (z : MetricFocusPair). AreBelow c (z ∷ [])) (sym e) (b.0, tt)
below_at c (y ∷ xs) x b (inr k) = below_at c xs x b.1 k

-- ---- one node's

pub same_number : (o : Option ℕ) (d : ℕ) → is_same_number o (Some d) ≡ true → o ≡ Some d
same_number None d e = absurd (true≢false (sym e))
same_number (Some n) d e = ap (λ (z : ℕ). Some z) (eqb-true n d e)

is_tester : (p : Placements) (d n : ℕ) (x : MetricFocusPair) → x.node ≡ Some n → n ≡ d → is_leaving (state_of p x.instrument.n) ≡ false → tests p d x ≡ true
is_tester p d n x e q l =
    ap (λ (o : Option ℕ). is_same_number o (Some d) && not (is_leaving (state_of p x.instrument.n))) e
    ∙ (ap (λ (b : Bool). b && not (is_leaving (state_of p x.instrument.n))) (eq-eqb n d q) ∙ ap not l)

module _ (i : Inputs) (owns : List ℕ) (d : ℕ) (ds : List ℕ) (k : SessionState) (r : AreNumbered k.machine.placer) (b : AreBelow k.machine.placer.count k.shown) (a : AreAlone (tags k.shown)) where
  abbrev p : Placements
  p = k.machine.placer

  abbrev was : ℕ → Type 0
  was n = In n (d ∷ ds)

  abbrev is : ℕ → Type 0
  is n = In n ds

  none_left : (o : Option MetricFocusPair) → tester_of p d k.shown ≡ o → (x : MetricFocusPair) → In x k.shown → (n : ℕ) → x.node ≡ Some n → n ≡ d
      → is_leaving (state_of (without_tester o k).machine.placer x.instrument.n) ≡ false → ⊥
  none_left None f x h n e q l = find_none (tests p d) k.shown f x h (is_tester p d n x e q l)
  none_left (Some s) f x h n e q l =
      let g = find_gives (tests p d) k.shown s f in
      let of : s.node ≡ Some d = same_number s.node d (and_parts (is_same_number s.node (Some d)) (not (is_leaving (state_of p s.instrument.n))) g.1).0 in
      let same : s.instrument.n ≡ x.instrument.n = same_tester d k.shown s x a g.0 h of (e ∙ ap (λ (z : ℕ). Some z) q) in
      let gone = ap (λ (z : Placements). is_leaving (state_of z s.instrument.n)) (dropped_placer s.instrument.n k.machine) ∙ dropped_leaves s.instrument.n p in
      true≢false (sym gone ∙ (ap (λ (m : ℕ). is_leaving (state_of (after_act (Drops s.instrument.n) k.machine).placer m)) same ∙ l))

  one_dropped : (ns : List Node) → AreTests i owns p ns was k.shown → (o : Option MetricFocusPair) → tester_of p d k.shown ≡ o → AreTests i owns (without_tester o k).machine.placer ns is k.shown
  one_dropped ns h o f =
      let q = (without_tester o k).machine.placer in
      let s = since_tester o k r in
      tests_of_all i owns q ns is k.shown
      (λ x m n e l.
      let same = s.live x.instrument.n (below_at p.count k.shown x b m).0 l in
      let t = test_at i owns p ns was k.shown x h m n e (sym (ap is_leaving same) ∙ l) in
      ⊎_elim (λ w. ⊎_elim (λ (z : n ≡ d). absurd (none_left o f x m n e z l)) (λ z. inl z) w) (λ z. inr (subst (λ (g : Stage). IsTest i owns g ns n x) (sym same) z)) t)

-- ---- all of them

pub record AllDropped (i : Inputs) (owns : List ℕ) (ns : List Node) (ds : List ℕ) (k : SessionState) : Type 0 where
  pub since : Since k.machine.placer (without_tests ds k).machine.placer
  pub tests : AreTests i owns (without_tests ds k).machine.placer ns no_node k.shown

pub all_dropped : (i : Inputs) (owns : List ℕ) (ns : List Node) (ds : List ℕ) (k : SessionState) → AreNumbered k.machine.placer → AreBelow k.machine.placer.count k.shown → AreAlone (tags k.shown)
    → AreTests i owns k.machine.placer ns (λ n. In n ds) k.shown → AllDropped i owns ns ds k
all_dropped i owns ns [] k r b a h = record { since = since_none k.machine.placer r; tests = h }
all_dropped i owns ns (d ∷ ds) k r b a h =
    let o = tester_of k.machine.placer d k.shown in
    let j = without_tester o k in
    let s = since_tester o k r in
    let shown : j.shown ≡ k.shown = ap (λ (z : SessionState). z.shown) (tester_alone o k) in
    let one = one_dropped i owns d ds k r b a ns h o refl in
    let all = all_dropped i owns ns ds j s.roster
    (subst (AreBelow j.machine.placer.count) (sym shown) (below_more k.machine.placer.count j.machine.placer.count k.shown s.count b))
    (subst (λ ss. AreAlone (tags ss)) (sym shown) a)
    (subst (AreTests i owns j.machine.placer ns (λ n. In n ds)) (sym shown) one) in
    record {
      since = since_on k.machine.placer j.machine.placer (without_tests ds j).machine.placer s all.since;
      tests = subst (AreTests i owns (without_tests ds j).machine.placer ns no_node) shown all.tests;
    }
