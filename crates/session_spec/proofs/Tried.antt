-- Nodes that are or were under test: where they came from in a step of the search.
use Rattle.std.proofs.Common.{◌≡◌, ℕ, zero, suc, ◌+◌, Bool, true, false, cond, Option, Some, None, List, [], ◌∷◌, ◌++◌, map, refl, sym, ap, ◌∙◌, inl, inr, ◌⊎◌, ⊎_elim}
use Rattle.std.specs.Prelude.{nat_le, nat_lt, ◌&&◌, ◌==◌, ◌^◌, slice_get}
use Rattle.std.proofs.lemmas.Bool.{true≢false, cond-true, cond-false, cond_both, cases_Bool, and_parts}
use Rattle.pn_types.specs.declared.focus.Focus.{Focus}
use Rattle.machine.proofs.Arming.{get_map}
use Rattle.mdl_ast.specs.declared.items.Hypothesis.{Hypothesis}
use Rattle.mdl_ast.specs.declared.items.PhaseDecl.{PhaseDecl}
use Rattle.resource_tree.specs.Resources.{Resources}
use Rattle.w3_search.specs.Refining.{children, roots, threshold_of}
use Rattle.w3_search.specs.Testing.{holds}
use Rattle.w3_search.specs.declared.node.Node.{Node}
use Rattle.w3_search.specs.declared.node.NodeSample.{NodeSample}
use Rattle.w3_search.specs.declared.node.NodeState.{NodeState}
use Rattle.w3_search.specs.declared.node.NodeState.TheVariants.{Waiting, Active, Confirmed, Rejected, Barred, Unfinished}
use Rattle.w3_search.specs.Nodes.{with_node_changed, node_at_end, is_active, is_confirmed, is_free, is_open, new_node, place, sampled, unfinished, with_node}
use Rattle.w3_search.specs.Steps.{SearchData, with_next_phase, with_verdict, may_take, new_search, Rules, with_all_families, with_all_phases, with_children, with_families, with_family, with_family_of, with_phases, with_roots, with_sample, with_samples}
use Rattle.w3_search.proofs.Changes.{all_children, all_roots}
use Rattle.session_spec.proofs.Grown.{get_push}

-- it is under test, or has its verdict
abbrev pub is_tried : NodeState → Bool
is_tried Active = true
is_tried Confirmed = true
is_tried Rejected = true
is_tried Waiting = false
is_tried (Barred cause) = false
is_tried (Unfinished seen) = false

-- or is barred: it neither waits nor ended before its window
abbrev pub is_old : NodeState → Bool
is_old Active = true
is_old Confirmed = true
is_old Rejected = true
is_old (Barred cause) = true
is_old Waiting = false
is_old (Unfinished seen) = false

pub tried_old : (q : NodeState) → is_tried q ≡ true → is_old q ≡ true
tried_old Active e = refl
tried_old Confirmed e = refl
tried_old Rejected e = refl
tried_old (Barred cause) e = refl
tried_old Waiting e = e
tried_old (Unfinished seen) e = e

active_is : (q : NodeState) → is_active q ≡ true → q ≡ Active
active_is Active e = refl
active_is Waiting e = absurd (true≢false (sym e))
active_is Confirmed e = absurd (true≢false (sym e))
active_is Rejected e = absurd (true≢false (sym e))
active_is (Barred cause) e = absurd (true≢false (sym e))
active_is (Unfinished seen) e = absurd (true≢false (sym e))

-- ---- one node is changed

pub get_changed : (f : Node → Node) (i : ℕ) (ns : List Node) (k : ℕ) (m : Node) → slice_get (with_node_changed f i ns) k ≡ Some m
    → (y : Node) × (slice_get ns k ≡ Some y) × ((m ≡ y) ⊎ (m ≡ f y))
get_changed f i [] k m e = absurd cc
get_changed f zero (n ∷ ns) zero m e = let s : m ≡ f n = cc in (n, refl, inr s)
get_changed f zero (n ∷ ns) (suc k) m e = (m, e, inl refl)
get_changed f (suc i) (n ∷ ns) zero m e = let s : n ≡ m = cc in (n, refl, inl (sym s))
get_changed f (suc i) (n ∷ ns) (suc k) m e = get_changed f i ns k m e

-- ---- samples

-- what a sample makes of the node that it is of
abbrev pub sample_on : List Hypothesis → ℕ → ℕ → NodeSample → Node → Node
sample_on hs w t s n = cond (may_take s n) (with_verdict hs w (sampled t s n)) n

-- it is as it was, or was under test, and is now or was until now
abbrev pub IsFrom : List Node → ℕ → Node → Type 0
IsFrom ns k m = (y : Node) × (slice_get ns k ≡ Some y) × ((m ≡ y) ⊎ ((y.state ≡ Active) × (is_tried m.state ≡ true)))

module _ (hs : List Hypothesis) (w t : ℕ) where
  judged_is : (y : Node) (s : NodeSample) → y.state ≡ Active → is_tried (with_verdict hs w (sampled t s y)).state ≡ true
  judged_is y s e = by ((y.seen + 1) == w)
    where
      ruled : (b : Bool) → is_tried (cond b Confirmed Rejected) ≡ true
      ruled true = refl
      ruled false = refl

      by : (b : Bool) → is_tried (cond b (cond (holds (sampled t s y).value (sampled t s y).ticks (threshold_of hs y.hypothesis)) Confirmed Rejected) y.state) ≡ true
      by true = ruled (holds (sampled t s y).value (sampled t s y).ticks (threshold_of hs y.hypothesis))
      by false = ap is_tried e

  from_sample : (s : NodeSample) (ns : List Node) (k : ℕ) (m : Node) → slice_get (with_sample hs w t s ns) k ≡ Some m → IsFrom ns k m
  from_sample s ns k m e =
      let g = get_changed (sample_on hs w t s) s.node ns k m e in
      (g.0, g.1, ⊎_elim (λ (z : m ≡ g.0). inl z) (λ (z : m ≡ sample_on hs w t s g.0). by g.0 (cases_Bool (may_take s g.0)) z) g.2)
    where
      by : (y : Node) → (may_take s y ≡ true) ⊎ (may_take s y ≡ false) → m ≡ sample_on hs w t s y → (m ≡ y) ⊎ ((y.state ≡ Active) × (is_tried m.state ≡ true))
      by y (inl c) z =
          let a = active_is y.state (and_parts (is_active y.state) (nat_lt (y.ticks + s.ticks) (2 ^ 64)) c).0 in
          inr (a, ap (λ (v : Node). is_tried v.state) (z ∙ cond-true (may_take s y) (with_verdict hs w (sampled t s y)) y c) ∙ judged_is y s a)
      by y (inr c) z = inl (z ∙ cond-false (may_take s y) (with_verdict hs w (sampled t s y)) y c)

  pub from_samples : (ss : List NodeSample) (ns : List Node) (k : ℕ) (m : Node) → slice_get (with_samples hs w t ss ns) k ≡ Some m → IsFrom ns k m
  from_samples [] ns k m e = (m, e, inl refl)
  from_samples (s ∷ ss) ns k m e =
      let g = from_samples ss (with_sample hs w t s ns) k m e in
      let f = from_sample s ns k g.0 g.1 in (
        f.0,
        f.1,
        ⊎_elim
            (λ (z : m ≡ g.0). ⊎_elim (λ (u : g.0 ≡ f.0). inl (z ∙ u)) (λ (u : ((f.0).state ≡ Active) × (is_tried (g.0).state ≡ true)). inr (u.0, ap (λ (y : Node). is_tried y.state) z ∙ u.1)) f.2)
            (λ (z : ((g.0).state ≡ Active) × (is_tried m.state ≡ true)).
            ⊎_elim (λ (u : g.0 ≡ f.0). inr (ap (λ (y : Node). y.state) (sym u) ∙ z.0, z.1)) (λ (u : ((f.0).state ≡ Active) × (is_tried (g.0).state ≡ true)). inr (u.0, z.1)) f.2) g.2,
      )

-- ---- children, and phases: nodes that are or were under test, or are barred, are from before

pub record IsBack (ns ms : List Node) : Type 0 where
  pub back : (k : ℕ) (m : Node) → slice_get ms k ≡ Some m → is_old m.state ≡ true → slice_get ns k ≡ Some m

back_none : (ns : List Node) → IsBack ns ns
back_none ns = record { back = λ k m e t. e }

back_on : (ns ms os : List Node) → IsBack ns ms → IsBack ms os → IsBack ns os
back_on ns ms os a b = record { back = λ k m e t. a.back k m (b.back k m e t) t }

-- no new node is
back_node : (q : ℕ) (parent : Option ℕ) (h : ℕ) (focus : Focus) (ns ms : List Node) → IsBack ns ms → IsBack ns (with_node q parent h focus ms)
back_node q parent h focus ns ms b =
    let n = new_node q parent h focus in
    cond_both (is_free (place q h focus) ms) (ms ++ n ∷ []) ms (IsBack ns)
    (λ _. back_on ns ms (ms ++ n ∷ []) b (record {
      back = λ k m e t. ⊎_elim (λ z. z) (λ (z : n ≡ m). absurd (true≢false (sym t ∙ ap (λ (y : Node). is_old y.state) (sym z)))) (get_push ms n k m e);
    }))
    (λ _. b)

pub back_roots : (q : ℕ) (hs : List ℕ) (ns ms : List Node) → IsBack ns ms → IsBack ns (with_roots q hs ms)
back_roots q hs ns ms b = all_roots (IsBack ns) q hs ms (λ parent h focus os k. back_node q parent h focus ns os k) b

back_family_of : (hs : List Hypothesis) (tree : Resources) (i : ℕ) (o : Option Node) (ns ms : List Node) → IsBack ns ms → IsBack ns (with_family_of hs tree i o ms)
back_family_of hs tree i None ns ms b = b
back_family_of hs tree i (Some n) ns ms b =
    let ks = children hs tree n.hypothesis n.focus in
    cond_both (is_confirmed n.state) (with_children n.phase i ks ms) ms (IsBack ns)
    (λ _. all_children (IsBack ns) n.phase i ks ms (λ parent h focus os k. back_node n.phase parent h focus ns os k) b) (λ _. b)

back_family : (hs : List Hypothesis) (tree : Resources) (i : ℕ) (ns ms : List Node) → IsBack ns ms → IsBack ns (with_family hs tree i ms)
unfolding with_family
back_family hs tree i ns ms b = back_family_of hs tree i (slice_get ms i) ns ms b

back_families : (hs : List Hypothesis) (tree : Resources) (is : List ℕ) (ns ms : List Node) → IsBack ns ms → IsBack ns (with_families hs tree is ms)
back_families hs tree [] ns ms b = b
back_families hs tree (i ∷ is) ns ms b = back_families hs tree is ns (with_family hs tree i ms) (back_family hs tree i ns ms b)

-- one that ends so isn't
old_unfinished : (q : ℕ) (n : Node) → is_old (unfinished q n).state ≡ true → unfinished q n ≡ n
old_unfinished q n t = by (cases_Bool ((n.phase == q) && is_open n.state))
  where
    by : (((n.phase == q) && is_open n.state) ≡ true) ⊎ (((n.phase == q) && is_open n.state) ≡ false) → unfinished q n ≡ n
    by (inl e) = absurd (true≢false (sym t ∙ ap is_old (cond-true ((n.phase == q) && is_open n.state) (Unfinished n.seen) n.state e)))
    by (inr e) = ap (λ (s : NodeState). record n { state = s }) (cond-false ((n.phase == q) && is_open n.state) (Unfinished n.seen) n.state e)

back_unfinished : (q : ℕ) (ns : List Node) → IsBack ns (map (unfinished q) ns)
back_unfinished q ns = record {
  back = λ k m e t.
      let g = get_map (unfinished q) ns k m e in
      let same : m ≡ g.0 = g.2 ∙ old_unfinished q g.0 (ap (λ (y : Node). is_old y.state) (sym g.2) ∙ t) in
      g.1 ∙ ap (λ (y : Node). Some y) (sym same);
}

back_begun : (v : SearchData) → IsBack v.nodes (with_next_phase v).nodes
back_begun v = back_roots (v.present + 1) (roots v.rules.hypotheses) v.nodes (map (unfinished v.present) v.nodes) (back_unfinished v.present v.nodes)

back_phases : (t : ℕ) (ps : List PhaseDecl) (v : SearchData) → IsBack v.nodes (with_phases t ps v).nodes
back_phases t [] v = back_none v.nodes
back_phases t (p ∷ ps) v =
    cond_both (nat_le p.at t) (with_phases t ps (with_next_phase v)) v (λ (w : SearchData). IsBack v.nodes w.nodes)
    (λ _. back_on v.nodes (with_next_phase v).nodes (with_phases t ps (with_next_phase v)).nodes (back_begun v) (back_phases t ps (with_next_phase v))) (λ _. back_none v.nodes)

-- of the nodes after the samples
pub back_step : (t : ℕ) (v : SearchData) → IsBack v.nodes (with_all_phases t (with_all_families v)).nodes
back_step t v =
    let f = with_all_families v in
    back_on v.nodes f.nodes (with_all_phases t f).nodes
    (back_families v.rules.hypotheses v.rules.tree v.drops v.nodes v.nodes (back_none v.nodes)) (back_phases t _ f)

-- a new search has none
pub none_tried : (r : Rules) → IsBack [] (new_search r).nodes
none_tried r = back_roots 0 (roots r.hypotheses) [] [] (back_none [])

-- ---- the end of the search

pub back_finished : (ns : List Node) → IsBack ns (map node_at_end ns)
back_finished ns = record {
  back = λ k m e t.
      let g = get_map node_at_end ns k m e in
      let same : m ≡ g.0 = g.2 ∙ by g.0 (cases_Bool (is_open (g.0).state)) (ap (λ (y : Node). is_old y.state) (sym g.2) ∙ t) in
      g.1 ∙ ap (λ (y : Node). Some y) (sym same);
}
  where
    by : (n : Node) → (is_open n.state ≡ true) ⊎ (is_open n.state ≡ false) → is_old (node_at_end n).state ≡ true → node_at_end n ≡ n
    by n (inl e) t = absurd (true≢false (sym t ∙ ap is_old (cond-true (is_open n.state) (Unfinished n.seen) n.state e)))
    by n (inr e) t = ap (λ (s : NodeState). record n { state = s }) (cond-false (is_open n.state) (Unfinished n.seen) n.state e)
