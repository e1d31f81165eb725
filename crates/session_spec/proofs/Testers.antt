-- The instrument that tests a node, with what was recorded for it: as instruments come, are sampled and armed.
use Rattle.std.proofs.Common.{◌≡◌, ℕ, zero, suc, ◌+◌, ◌-◌, ◌^◌, ◌<◌, ◌≤◌, Bool, true, false, cond, Option, Some, None, List, [], ◌∷◌, ◌++◌, length, map, refl, sym, ap, subst, ◌∙◌, arith, inl, inr, ◌⊎◌, ⊎_elim}
use Rattle.std.specs.Prelude.{replicate, slice_get}
use Rattle.std.proofs.lemmas.Bool.{cond-true, cond-false}
use Rattle.std.proofs.lemmas.List.{length_push}
use Rattle.fold_hist.specs.declared.bin.Bin.{Bin}
use Rattle.instrument.specs.Placements.{Placements, is_leaving, state_of}
use Rattle.instrument.specs.declared.number.State.TheVariants.{Placing, Armed}
use Rattle.instrumented.specs.Instrumented.{Instrumented}
use Rattle.mdl_ast.specs.declared.items.Hypothesis.{Hypothesis}
use Rattle.w3_search.specs.declared.node.Node.{Node}
use Rattle.w3_search.specs.declared.node.NodeSample.{NodeSample}
use Rattle.w3_search.specs.declared.node.NodeState.TheVariants.{Active}
use Rattle.w3_search.specs.Nodes.{sampled}
use Rattle.w3_search.specs.Steps.{with_verdict, may_take, with_sample, with_samples}
use Rattle.session_spec.specs.declared.data.MetricFocusPair.{MetricFocusPair}
use Rattle.session_spec.specs.Inputs.{Inputs}
use Rattle.session_spec.specs.Searches.{metric_of}
use Rattle.session_spec.specs.Due.{all_armed, armed_at, is_armed, is_ready, machine_armed, recorded_with, sample_of, sampled_to}
use Rattle.session_spec.specs.Verdicts.{node_sample, node_samples, node_samples_by}
use Rattle.session_spec.specs.Work.{with_room}
use Rattle.session_spec.specs.Rosters.{AreNumbered}
use Rattle.session_spec.proofs.Arming.{ready_placing}
use Rattle.session_spec.proofs.Grown.{changed_here, changed_there, some_same}
use Rattle.session_spec.proofs.Seen.{AreAlone, AreApart, AreTests, IsRunning, IsTest, NotBy, NotOf, OneTest, is_judged, no_node, tags}
use Rattle.session_spec.proofs.Pairs.{ArePairs, IsPair, arms_are}
use Rattle.session_spec.proofs.Running.{begins, may, metric_sampled}
use Rattle.session_spec.proofs.Sampling.{armed_is}
use Rattle.session_spec.proofs.Tried.{IsBack, from_samples, is_tried, sample_on, tried_old}

-- ---- what was recorded at a place; nothing, after the last

abbrev pub row : List (List Bin) → ℕ → List Bin
row [] k = []
row (r ∷ rs) zero = r
row (r ∷ rs) (suc k) = row rs k

pub row_past : (rs : List (List Bin)) (k : ℕ) → length rs ≤ k → row rs k ≡ []
row_past [] k l = refl
row_past (r ∷ rs) zero l = absurd (omega arith)
row_past (r ∷ rs) (suc k) l = row_past rs k (omega arith)

row_blank : (n k : ℕ) → row (replicate n []) k ≡ []
row_blank zero k = refl
row_blank (suc n) zero = refl
row_blank (suc n) (suc k) = row_blank n k

row_append : (rs : List (List Bin)) (n k : ℕ) → row (rs ++ replicate n []) k ≡ row rs k
row_append [] n k = row_blank n k
row_append (r ∷ rs) n zero = refl
row_append (r ∷ rs) n (suc k) = row_append rs n k

pub row_room : (xs : List MetricFocusPair) (rs : List (List Bin)) (k : ℕ) → row (with_room xs rs) k ≡ row rs k
row_room xs rs k = row_append rs (length xs - length rs) k

pub row_at : (xs : List MetricFocusPair) (rs : List (List Bin)) (k : ℕ) (x : MetricFocusPair) → length rs ≡ length xs → slice_get xs k ≡ Some x → slice_get rs k ≡ Some (row rs k)
row_at [] rs k x m e = absurd cc
row_at (y ∷ xs) [] k x m e = absurd (omega arith)
row_at (y ∷ xs) (r ∷ rs) zero x m e = refl
row_at (y ∷ xs) (r ∷ rs) (suc k) x m e = row_at xs rs k x (omega arith) e

row_sampled : (i : Inputs) (p : Placements) (owns : List ℕ) (t : ℕ) (xs : List MetricFocusPair) (rs : List (List Bin)) (k : ℕ) (x : MetricFocusPair) → length rs ≡ length xs → slice_get xs k ≡ Some x
    → row (recorded_with i p owns t xs rs) k ≡ cond (is_armed p x) (row rs k ++ sample_of i owns t x ∷ []) (row rs k)
row_sampled i p owns t [] rs k x m e = absurd cc
row_sampled i p owns t (y ∷ xs) [] k x m e = absurd (omega arith)
row_sampled i p owns t (y ∷ xs) (r ∷ rs) zero x m e =
    let s : y ≡ x = cc in
    ap (λ (z : MetricFocusPair). cond (is_armed p z) (r ++ sample_of i owns t z ∷ []) r) s
row_sampled i p owns t (y ∷ xs) (r ∷ rs) (suc k) x m e = row_sampled i p owns t xs rs k x (omega arith) e

-- ---- shown instruments by their places

pub shown_left : (xs ys : List MetricFocusPair) (k : ℕ) (x : MetricFocusPair) → slice_get xs k ≡ Some x → slice_get (xs ++ ys) k ≡ Some x
shown_left [] ys k x e = absurd cc
shown_left (y ∷ xs) ys zero x e = e
shown_left (y ∷ xs) ys (suc k) x e = shown_left xs ys k x e

pub shown_last : (xs : List MetricFocusPair) (x : MetricFocusPair) → slice_get (xs ++ x ∷ []) (length xs) ≡ Some x
shown_last [] x = refl
shown_last (y ∷ xs) x = shown_last xs x

pub sampled_at : (p : Placements) (t : ℕ) (xs : List MetricFocusPair) (k : ℕ) (x : MetricFocusPair) → slice_get xs k ≡ Some x → slice_get (map (sampled_to p t) xs) k ≡ Some (sampled_to p t x)
sampled_at p t [] k x e = absurd cc
sampled_at p t (y ∷ xs) zero x e = ap (λ (z : MetricFocusPair). Some (sampled_to p t z)) (some_same y x e)
sampled_at p t (y ∷ xs) (suc k) x e = sampled_at p t xs k x e

test_at : (i : Inputs) (owns : List ℕ) (p : Placements) (ns : List Node) (D : ℕ → Type 0) (xs : List MetricFocusPair) (k : ℕ) (x : MetricFocusPair) → AreTests i owns p ns D xs → slice_get xs k ≡ Some x → OneTest i owns p ns D x
test_at i owns p ns D [] k x h e = absurd cc
test_at i owns p ns D (y ∷ xs) zero x h e = subst (OneTest i owns p ns D) (some_same y x e) h.0
test_at i owns p ns D (y ∷ xs) (suc k) x h e = test_at i owns p ns D xs k x h.1 e

pub pair_at : (i : Inputs) (owns : List ℕ) (p : Placements) (xs : List MetricFocusPair) (rs : List (List Bin)) (k : ℕ) (x : MetricFocusPair) → ArePairs i owns p xs rs → slice_get xs k ≡ Some x
    → IsPair i owns (state_of p x.instrument.n) x (row rs k)
pair_at i owns p [] rs k x h e = absurd cc
pair_at i owns p (y ∷ xs) [] zero x h e = subst (λ (z : MetricFocusPair). IsPair i owns (state_of p z.instrument.n) z []) (some_same y x e) h.0
pair_at i owns p (y ∷ xs) [] (suc k) x h e = pair_at i owns p xs [] k x h.1 e
pair_at i owns p (y ∷ xs) (r ∷ rs) zero x h e = subst (λ (z : MetricFocusPair). IsPair i owns (state_of p z.instrument.n) z r) (some_same y x e) h.0
pair_at i owns p (y ∷ xs) (r ∷ rs) (suc k) x h e = pair_at i owns p xs rs k x h.1 e

not_of_at : (n : ℕ) (xs : List MetricFocusPair) (k : ℕ) (x : MetricFocusPair) → NotOf n (tags xs) → slice_get xs k ≡ Some x → x.node ≡ Some n → ⊥
not_of_at n [] k x o e f = cc
not_of_at n (y ∷ xs) zero x o e f = o.0 (ap (λ (z : MetricFocusPair). z.node) (some_same y x e) ∙ f)
not_of_at n (y ∷ xs) (suc k) x o e f = not_of_at n xs k x o.1 e f

pub not_by_at : (n : ℕ) (xs : List MetricFocusPair) (k : ℕ) (x : MetricFocusPair) → NotBy n (tags xs) → slice_get xs k ≡ Some x → x.instrument.n ≡ n → ⊥
not_by_at n [] k x o e f = cc
not_by_at n (y ∷ xs) zero x o e f = o.0 (ap (λ (z : MetricFocusPair). z.instrument.n) (some_same y x e) ∙ f)
not_by_at n (y ∷ xs) (suc k) x o e f = not_by_at n xs k x o.1 e f

-- ---- the samples of nodes

module _ (i : Inputs) (p : Placements) (owns : List ℕ) (t : ℕ) (hs : List Hypothesis) (w : ℕ) where
  abbrev with : List NodeSample → List Node → List Node
  with ss ns = with_samples hs w t ss ns

  abbrev samples : List MetricFocusPair → List NodeSample
  samples xs = node_samples i p owns t xs

  -- of no instrument of the node
  untouched_by : (o : Option ℕ) (z : MetricFocusPair) (rest : List NodeSample) (n : ℕ) (ns : List Node) → (o ≡ Some n → ⊥) → (ms : List Node) × (slice_get ms n ≡ slice_get ns n)
      × (with (node_samples_by o i p owns t z ++ rest) ns ≡ with rest ms)
  untouched_by None z rest n ns a = (ns, refl, refl)
  untouched_by (Some m) z rest n ns a = by (is_armed p z)
    where
      by : (b : Bool) → (ms : List Node) × (slice_get ms n ≡ slice_get ns n) × (with (cond b (node_sample i owns t m z ∷ []) [] ++ rest) ns ≡ with rest ms)
      by true =
          let s = node_sample i owns t m z in
          (with_sample hs w t s ns, changed_there (sample_on hs w t s) ns m n (λ q. a (ap (λ (v : ℕ). Some v) (sym q))), refl)
      by false = (ns, refl, refl)

  untouched : (xs : List MetricFocusPair) (n : ℕ) (ns : List Node) → NotOf n (tags xs) → slice_get (with (samples xs) ns) n ≡ slice_get ns n
  untouched [] n ns a = refl
  untouched (z ∷ xs) n ns a =
      let u = untouched_by z.node z (samples xs) n ns a.0 in
      ap (λ (ms : List Node). slice_get ms n) u.2 ∙ (untouched xs n u.0 a.1 ∙ u.1)

  -- of its own
  pub touched : (xs : List MetricFocusPair) (k : ℕ) (x : MetricFocusPair) (n : ℕ) (ns : List Node) (y : Node) → slice_get xs k ≡ Some x → x.node ≡ Some n → AreAlone (tags xs) → slice_get ns n ≡ Some y
      → slice_get (with (samples xs) ns) n ≡ Some (cond (is_armed p x) (sample_on hs w t (node_sample i owns t n x) y) y)
  touched [] k x n ns y e f a g = absurd cc
  touched (z ∷ xs) zero x n ns y e f a g =
      let same = some_same z x e in
      let is : z.node ≡ Some n = ap (λ (v : MetricFocusPair). v.node) same ∙ f in
      subst (λ (v : MetricFocusPair). slice_get (with (samples (z ∷ xs)) ns) n ≡ Some (cond (is_armed p v) (sample_on hs w t (node_sample i owns t n v) y) y)) same
      (ap (λ (o : Option ℕ). slice_get (with (node_samples_by o i p owns t z ++ samples xs) ns) n) is ∙ by (is_armed p z) (a.0 n is))
    where
      by : (b : Bool) → NotOf n (tags xs) → slice_get (with (cond b (node_sample i owns t n z ∷ []) [] ++ samples xs) ns) n ≡ Some (cond b (sample_on hs w t (node_sample i owns t n z) y) y)
      by true o =
          let s = node_sample i owns t n z in
          untouched xs n (with_sample hs w t s ns) o ∙ changed_here (sample_on hs w t s) ns n y g
      by false o = untouched xs n ns o ∙ g
  touched (z ∷ xs) (suc k) x n ns y e f a g =
      let u = untouched_by z.node z (samples xs) n ns (λ q. not_of_at n xs k x (a.0 n q) e f) in
      ap (λ (ms : List Node). slice_get ms n) u.2 ∙ touched xs k x n u.0 y e f a.1 (u.1 ∙ g)

-- ---- testers

-- The instrument that tests node k, or did: as many samples of it were recorded as the node has seen. Where the node was judged, it
-- was armed where the window begins, and sampled last where that ends.
pub record HasTester (i : Inputs) (xs : List MetricFocusPair) (rs : List (List Bin)) (k : ℕ) (n : Node) : Type 0 where
  pub place : ℕ
  pub x : MetricFocusPair
  pub listed : slice_get xs place ≡ Some x
  pub node : x.node ≡ Some k
  pub metric : x.metric ≡ metric_of i n
  pub focus : x.focus ≡ n.focus
  pub seen : length (row rs place) ≡ n.seen
  pub judged : is_judged n.state ≡ true → (x.armed ≡ Some n.from) × (x.from ≡ n.to)

-- each node that is or was under test has one
abbrev pub AreTraced : Inputs → List MetricFocusPair → List (List Bin) → List Node → Type 0
AreTraced i xs rs ns = (k : ℕ) (n : Node) → slice_get ns k ≡ Some n → is_tried n.state ≡ true → HasTester i xs rs k n

pub traced_back : (i : Inputs) (xs : List MetricFocusPair) (rs : List (List Bin)) (ns ms : List Node) → IsBack ns ms → AreTraced i xs rs ns → AreTraced i xs rs ms
traced_back i xs rs ns ms b h k n e t = h k n (b.back k n e (tried_old n.state t)) t

-- one instrument more
pub tester_left : (i : Inputs) (xs ys : List MetricFocusPair) (rs : List (List Bin)) (k : ℕ) (n : Node) → HasTester i xs rs k n → HasTester i (xs ++ ys) rs k n
tester_left i xs ys rs k n o =
    record { place = o.place; x = o.x; listed = shown_left xs ys o.place o.x o.listed; node = o.node; metric = o.metric; focus = o.focus; seen = o.seen; judged = o.judged }

pub traced_room : (i : Inputs) (xs : List MetricFocusPair) (rs : List (List Bin)) (ns : List Node) → AreTraced i xs rs ns → AreTraced i xs (with_room xs rs) ns
traced_room i xs rs ns h k n e t =
    let o = h k n e t in
    record {
      place = o.place;
      x = o.x;
      listed = o.listed;
      node = o.node;
      metric = o.metric;
      focus = o.focus;
      seen = ap (λ (r : List Bin). length r) (row_room xs rs o.place) ∙ o.seen;
      judged = o.judged;
    }

-- ---- samples

module _ (i : Inputs) (owns : List ℕ) (p : Placements) (t : ℕ) (timed : t ≡ length owns) (low : t < 2 ^ 64) (hs : List Hypothesis) (w : ℕ)
    (xs : List MetricFocusPair) (rs : List (List Bin)) (ns : List Node) (many : length rs ≡ length xs) (alone : AreAlone (tags xs)) (tests : AreTests i owns p ns no_node xs)
    (traced : AreTraced i xs rs ns) where
  abbrev later : List Node
  later = with_samples hs w t (node_samples i p owns t xs) ns

  abbrev xs1 : List MetricFocusPair
  xs1 = map (sampled_to p t) xs

  abbrev rs1 : List (List Bin)
  rs1 = recorded_with i p owns t xs rs

  module _ (k : ℕ) (y : Node) (stands : slice_get ns k ≡ Some y) (o : HasTester i xs rs k y) where
    abbrev s : NodeSample
    s = node_sample i owns t k o.x

    abbrev r : List Bin
    r = row rs o.place

    -- not armed: all is as it was
    still : is_armed p o.x ≡ false → HasTester i xs1 rs1 k y
    still e =
        let same : sampled_to p t o.x ≡ o.x = cond-false (is_armed p o.x) (record (o.x) { from = t }) o.x e in
        record {
          place = o.place;
          x = o.x;
          listed = sampled_at p t xs o.place o.x o.listed ∙ ap (λ (z : MetricFocusPair). Some z) same;
          node = o.node;
          metric = o.metric;
          focus = o.focus;
          seen = ap (λ (l : List Bin). length l) (row_sampled i p owns t xs rs o.place o.x many o.listed ∙ cond-false (is_armed p o.x) (r ++ sample_of i owns t o.x ∷ []) r e) ∙ o.seen;
          judged = o.judged;
        }

    -- armed: the node takes the sample
    takes : is_armed p o.x ≡ true → HasTester i xs1 rs1 k (sample_on hs w t s y)
    takes e =
        let stage = armed_is (state_of p (o.x).instrument.n) e in
        ⊎_elim (λ z. absurd z) (λ z. by stage z) (test_at i owns p ns no_node xs o.place o.x tests o.listed k o.node (ap is_leaving stage))
      where
        by : state_of p (o.x).instrument.n ≡ Armed → IsTest i owns (state_of p (o.x).instrument.n) ns k o.x → HasTester i xs1 rs1 k (sample_on hs w t s y)
        by stage test =
            let same : test.node ≡ y = some_same test.node y (sym test.stands ∙ stands) in
            let run : IsRunning i owns y test.plan o.x = subst (λ (z : Node). IsRunning i owns z test.plan o.x) same (test.running stage) in
            let active : y.state ≡ Active = ap (λ (z : Node). z.state) (sym same) ∙ test.active in
            let m : Node = with_verdict hs w (sampled t s y) in
            let takes_it : may_take s y ≡ true = may i owns t timed k o.x y test.plan o.focus run low active in
            let from : m.from ≡ run.at = begins i owns t timed k o.x y test.plan o.focus run in
            let armed : sampled_to p t o.x ≡ record (o.x) { from = t } = cond-true (is_armed p o.x) (record (o.x) { from = t }) o.x e in
            subst (HasTester i xs1 rs1 k) (sym (cond-true (may_take s y) m y takes_it))
            (record {
              place = o.place;
              x = record (o.x) { from = t };
              listed = sampled_at p t xs o.place o.x o.listed ∙ ap (λ (z : MetricFocusPair). Some z) armed;
              node = o.node;
              metric = o.metric ∙ sym (metric_sampled i hs w t s y);
              focus = o.focus;
              seen = ap (λ (l : List Bin). length l) (row_sampled i p owns t xs rs o.place o.x many o.listed ∙ cond-true (is_armed p o.x) (r ++ sample_of i owns t o.x ∷ []) r e)
                  ∙ (length_push r (sample_of i owns t o.x) ∙ ap (λ (v : ℕ). v + 1) o.seen);
              judged = λ _. (run.armed ∙ ap (λ (v : ℕ). Some v) (sym from), refl);
            })

    sampled_by : (m : Node) → slice_get later k ≡ Some m → HasTester i xs1 rs1 k m
    sampled_by m e =
        let is = touched i p owns t hs w xs o.place o.x k ns y o.listed o.node alone stands in
        subst (HasTester i xs1 rs1 k) (some_same (cond (is_armed p o.x) (sample_on hs w t s y) y) m (sym is ∙ e)) (by (is_armed p o.x) refl)
      where
        by : (b : Bool) → is_armed p o.x ≡ b → HasTester i xs1 rs1 k (cond b (sample_on hs w t s y) y)
        by true z = takes z
        by false z = still z

  pub traced_sampled : AreTraced i xs1 rs1 later
  traced_sampled k m e tried =
      let f = from_samples hs w t (node_samples i p owns t xs) ns k m e in
      let was : is_tried (f.0).state ≡ true = ⊎_elim (λ (z : m ≡ f.0). ap (λ (y : Node). is_tried y.state) (sym z) ∙ tried) (λ z. ap is_tried z.0) f.2 in
      sampled_by k f.0 f.1 (traced k f.0 f.1 was) m e

-- ---- armings

-- One after the armings: as it was, if it wasn't being placed.
pub record IsBehind (m : Instrumented) (x y : MetricFocusPair) : Type 0 where
  pub same : (y ≡ x) ⊎ (state_of m.placer x.instrument.n ≡ Placing)
  pub node : y.node ≡ x.node
  pub metric : y.metric ≡ x.metric
  pub focus : y.focus ≡ x.focus

module _ (i : Inputs) (owns : List ℕ) (t : ℕ) (timed : t ≡ length owns) where
  first_behind : (m : Instrumented) (x : MetricFocusPair) → IsBehind m x (armed_at t m x)
  first_behind m x = by (is_ready m x) refl
    where
      by : (b : Bool) → is_ready m x ≡ b → IsBehind m x (cond b (record x { armed = Some t; from = t }) x)
      by true e = record { same = inr (ready_placing m x e); node = refl; metric = refl; focus = refl }
      by false e = record { same = inl refl; node = refl; metric = refl; focus = refl }

  pub armed_behind : (xs : List MetricFocusPair) (m : Instrumented) (k : ℕ) (x : MetricFocusPair) → AreNumbered m.placer → AreApart (tags xs) → slice_get xs k ≡ Some x
      → (y : MetricFocusPair) × (slice_get (all_armed t m xs) k ≡ Some y) × IsBehind m x y
  armed_behind [] m k x r a e = absurd cc
  armed_behind (z ∷ xs) m zero x r a e = (armed_at t m z, refl, subst (λ (v : MetricFocusPair). IsBehind m v (armed_at t m z)) (some_same z x e) (first_behind m z))
  armed_behind (z ∷ xs) m (suc k) x r a e =
      let one = arms_are i owns t timed m (z ∷ []) r (tt, tt) in
      let b = armed_behind xs (machine_armed m z) k x one.roster a.1 e in
      let as_was : state_of (machine_armed m z).placer x.instrument.n ≡ state_of m.placer x.instrument.n =
      one.other x.instrument.n ((λ q. not_by_at z.instrument.n xs k x a.0 e (sym q)), tt) in
      (b.0, b.1, record { same = ⊎_elim (λ v. inl v) (λ v. inr (sym as_was ∙ v)) b.2.same; node = b.2.node; metric = b.2.metric; focus = b.2.focus })

  pub traced_armed : (xs : List MetricFocusPair) (rs : List (List Bin)) (ns : List Node) (m : Instrumented) → AreNumbered m.placer → AreApart (tags xs) → ArePairs i owns m.placer xs rs
      → AreTraced i xs rs ns → AreTraced i (all_armed t m xs) rs ns
  traced_armed xs rs ns m r a pairs h k n e tried =
      let o = h k n e tried in
      let b = armed_behind xs m o.place o.x r a o.listed in
      record {
        place = o.place;
        x = b.0;
        listed = b.1;
        node = b.2.node ∙ o.node;
        metric = b.2.metric ∙ o.metric;
        focus = b.2.focus ∙ o.focus;
        seen = o.seen;
        judged = λ j.
            let z = o.judged j in
            ⊎_elim
            (λ (v : b.0 ≡ o.x). (ap (λ (y : MetricFocusPair). y.armed) v ∙ z.0, ap (λ (y : MetricFocusPair). y.from) v ∙ z.1))
            (λ v. absurd (never n.from (sym ((pair_at i owns m.placer xs rs o.place o.x pairs o.listed).placing v) ∙ z.0))) b.2.same;
      }
    where
      never : (a : ℕ) → None ≡ Some a → ⊥
      never a e = cc
