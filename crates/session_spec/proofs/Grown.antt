-- What a step of the search does to its nodes besides their samples: nodes that it doesn't change stay as they are, and where one
-- that is under test ends, its number is told.
use Rattle.std.proofs.Common.{◌≡◌, ℕ, zero, suc, ◌+◌, Bool, true, false, Option, Some, None, List, [], ◌∷◌, ◌++◌, map, refl, sym, ap, subst, ◌∙◌, arith, inl, inr, ◌⊎◌, ⊎_elim}
use Rattle.std.specs.Prelude.{nat_le, ◌&&◌, ◌==◌, slice_get}
use Rattle.std.proofs.lemmas.Bool.{true≢false, cond-true, cond-false, cond_both, cases_Bool, cases_eq}
use Rattle.pn_types.specs.declared.focus.Focus.{Focus}
use Rattle.machine.specs.Cores.{In}
use Rattle.instrument.proofs.Folds.{append_left, append_right}
use Rattle.mdl_ast.specs.declared.items.Hypothesis.{Hypothesis}
use Rattle.mdl_ast.specs.declared.items.PhaseDecl.{PhaseDecl}
use Rattle.resource_tree.specs.Resources.{Resources}
use Rattle.w3_search.specs.Refining.{children, roots}
use Rattle.w3_search.specs.declared.node.Node.{Node}
use Rattle.w3_search.specs.declared.node.NodeState.{NodeState}
use Rattle.w3_search.specs.declared.node.NodeState.TheVariants.{Active, Unfinished}
use Rattle.w3_search.specs.Nodes.{with_node_changed, in_state, is_active, is_confirmed, is_free, is_open, is_waiting, new_node, node_numbers_from, place, unfinished, with_node}
use Rattle.w3_search.specs.Steps.{SearchData, active_in, with_next_phase, with_all_families, with_children, with_families, with_family, with_family_of, with_phases, with_roots}
use Rattle.w3_search.proofs.Changes.{all_children, all_roots}

-- ---- lists of nodes

-- P holds of each node
abbrev pub Each : (Node → Type 0) → List Node → Type 0
Each P ns = (k : ℕ) (n : Node) → slice_get ns k ≡ Some n → P n

pub some_same : {A : Type 0} (a b : A) → Some a ≡ Some b → a ≡ b
some_same a b e = cc

get_left : (xs ys : List Node) (i : ℕ) (n : Node) → slice_get xs i ≡ Some n → slice_get (xs ++ ys) i ≡ Some n
get_left [] ys i n e = cc
get_left (x ∷ xs) ys zero n e = e
get_left (x ∷ xs) ys (suc i) n e = get_left xs ys i n e

pub get_push : {A : Type 0} (xs : List A) (y : A) (i : ℕ) (n : A) → slice_get (xs ++ y ∷ []) i ≡ Some n → (slice_get xs i ≡ Some n) ⊎ (y ≡ n)
get_push [] y zero n e = inr cc
get_push [] y (suc i) n e = cc
get_push (x ∷ xs) y zero n e = inl e
get_push (x ∷ xs) y (suc i) n e = get_push xs y i n e

pub get_map : (f : Node → Node) (ns : List Node) (i : ℕ) (m : Node) → slice_get (map f ns) i ≡ Some m → (n : Node) × (slice_get ns i ≡ Some n) × (f n ≡ m)
get_map f [] i m e = cc
get_map f (n ∷ ns) zero m e = (n, refl, cc)
get_map f (n ∷ ns) (suc i) m e = get_map f ns i m e

map_get : (f : Node → Node) (ns : List Node) (i : ℕ) (n : Node) → slice_get ns i ≡ Some n → slice_get (map f ns) i ≡ Some (f n)
map_get f [] i n e = cc
map_get f (x ∷ ns) zero n e = let s : x ≡ n = cc in ap (λ (y : Node). Some (f y)) s
map_get f (x ∷ ns) (suc i) n e = map_get f ns i n e

pub changed_here : (f : Node → Node) (ns : List Node) (i : ℕ) (n : Node) → slice_get ns i ≡ Some n → slice_get (with_node_changed f i ns) i ≡ Some (f n)
changed_here f [] i n e = cc
changed_here f (x ∷ ns) zero n e = let s : x ≡ n = cc in ap (λ (y : Node). Some (f y)) s
changed_here f (x ∷ ns) (suc i) n e = changed_here f ns i n e

pub changed_there : (f : Node → Node) (ns : List Node) (i j : ℕ) → (j ≡ i → ⊥) → slice_get (with_node_changed f i ns) j ≡ slice_get ns j
changed_there f [] i j e = refl
changed_there f (x ∷ ns) zero zero e = absurd (e refl)
changed_there f (x ∷ ns) zero (suc j) e = refl
changed_there f (x ∷ ns) (suc i) zero e = refl
changed_there f (x ∷ ns) (suc i) (suc j) e = changed_there f ns i j (λ s. e (ap suc s))

-- a node that passes a test is among the numbers
pub number_in : (p : Node → Bool) (k : ℕ) (ns : List Node) (i : ℕ) (n : Node) → slice_get ns i ≡ Some n → p n ≡ true → In (k + i) (node_numbers_from p k ns)
number_in p k [] i n e a = cc
number_in p k (x ∷ ns) zero n e a =
    let s : x ≡ n = cc in
    subst (In (k + 0)) (sym (cond-true (p x) (k ∷ node_numbers_from p (k + 1) ns) (node_numbers_from p (k + 1) ns) (ap p s ∙ a))) (inl (omega arith))
number_in p k (x ∷ ns) (suc i) n e a =
    let h : In (k + suc i) (node_numbers_from p (k + 1) ns) = subst (λ (j : ℕ). In j (node_numbers_from p (k + 1) ns)) (omega arith) (number_in p (k + 1) ns i n e a) in
    cond_both (p x) (k ∷ node_numbers_from p (k + 1) ns) (node_numbers_from p (k + 1) ns) (In (k + suc i)) (λ _. inr h) (λ _. h)

-- ---- growth

-- What is at a place where a node stood: the same, or if that was under test, C holds. One that didn't wait doesn't now.
pub record IsAged (C : ℕ → Type 0) (ms : List Node) (i : ℕ) (n : Node) : Type 0 where
  pub m : Node
  pub stands : slice_get ms i ≡ Some m
  pub same : (m ≡ n) ⊎ (n.state ≡ Active → C i)
  pub aged : is_waiting n.state ≡ false → is_waiting m.state ≡ false

-- nodes grow old, and there are more; what held of each holds of each
pub record Grows (P : Node → Type 0) (C : ℕ → Type 0) (ns ms : List Node) : Type 0 where
  pub forth : (i : ℕ) (n : Node) → slice_get ns i ≡ Some n → IsAged C ms i n
  pub each : Each P ns → Each P ms

pub grows_none : (P : Node → Type 0) (C : ℕ → Type 0) (ns : List Node) → Grows P C ns ns
grows_none P C ns = record { forth = λ i n e. record { m = n; stands = e; same = inl refl; aged = λ w. w }; each = λ h. h }

pub grows_on : (P : Node → Type 0) (C D : ℕ → Type 0) (ns ms os : List Node) → Grows P C ns ms → Grows P D ms os → ((i : ℕ) → C i → D i) → Grows P D ns os
grows_on P C D ns ms os g h c = record {
  forth = λ i n e.
      let f = g.forth i n e in
      let t = h.forth i f.m f.stands in
      record {
        m = t.m;
        stands = t.stands;
        same = ⊎_elim
            (λ (s : f.m ≡ n). ⊎_elim (λ (r : t.m ≡ f.m). inl (r ∙ s)) (λ d. inr (λ a. d (ap (λ (x : Node). x.state) s ∙ a))) t.same)
            (λ d. inr (λ a. c i (d a))) f.same;
        aged = λ w. t.aged (f.aged w);
      };
  each = λ a. h.each (g.each a);
}

-- a node that waits is in another state
pub grows_state : (P : Node → Type 0) (C : ℕ → Type 0) (ns : List Node) (k : ℕ) (x : Node) (state : NodeState) → slice_get ns k ≡ Some x → is_waiting x.state ≡ true
    → (P x → P (in_state state x)) → Grows P C ns (with_node_changed (in_state state) k ns)
grows_state P C ns k x state e w p = record {
  forth = λ i y f. forth i y f (cases_eq i k);
  each = λ a i m f. each a i m f (cases_eq i k);
}
  where
    forth : (i : ℕ) (y : Node) → slice_get ns i ≡ Some y → (i ≡ k) ⊎ (i ≡ k → ⊥) → IsAged C (with_node_changed (in_state state) k ns) i y
    forth i y f (inl q) =
        let same : x ≡ y = some_same x y (sym e ∙ (ap (slice_get ns) (sym q) ∙ f)) in
        let waits : is_waiting y.state ≡ true = sym (ap (λ (z : Node). is_waiting z.state) same) ∙ w in
        record {
          m = in_state state x;
          stands = ap (slice_get (with_node_changed (in_state state) k ns)) q ∙ changed_here (in_state state) ns k x e;
          same = inr (λ a. absurd (true≢false (sym waits ∙ ap is_waiting a)));
          aged = λ o. absurd (true≢false (sym waits ∙ o));
        }
    forth i y f (inr q) = record { m = y; stands = changed_there (in_state state) ns k i q ∙ f; same = inl refl; aged = λ o. o }

    each : Each P ns → (i : ℕ) (m : Node) → slice_get (with_node_changed (in_state state) k ns) i ≡ Some m → (i ≡ k) ⊎ (i ≡ k → ⊥) → P m
    each a i m f (inl q) = subst P (some_same (in_state state x) m (sym (changed_here (in_state state) ns k x e) ∙ (ap (slice_get (with_node_changed (in_state state) k ns)) (sym q) ∙ f))) (p (a k x e))
    each a i m f (inr q) = a i m (sym (changed_there (in_state state) ns k i q) ∙ f)

-- ---- nodes that are made, and that end

-- a node at the end of its phase
abbrev IsEndOf : ℕ → Node → Type 0
IsEndOf q n = (unfinished q n ≡ n) ⊎ ((is_waiting (unfinished q n).state ≡ false) × (n.state ≡ Active → ((n.phase == q) && is_active n.state) ≡ true))

end_same : (q : ℕ) (n : Node) → IsEndOf q n
end_same q n = by (cases_Bool ((n.phase == q) && is_open n.state))
  where
    by : (((n.phase == q) && is_open n.state) ≡ true) ⊎ (((n.phase == q) && is_open n.state) ≡ false) → IsEndOf q n
    by (inl t) =
        inr (
          ap is_waiting (cond-true ((n.phase == q) && is_open n.state) (Unfinished n.seen) n.state t),
          λ a. ap (λ (x : NodeState). (n.phase == q) && is_active x) a ∙ (sym (ap (λ (x : NodeState). (n.phase == q) && is_open x) a) ∙ t),
        )
    by (inr f) = inl (ap (λ (s : NodeState). record n { state = s }) (cond-false ((n.phase == q) && is_open n.state) (Unfinished n.seen) n.state f))

-- a step: the drops grow, and the rules stay
pub record Steps (P : Node → Type 0) (v w : SearchData) : Type 0 where
  pub rules : w.rules ≡ v.rules
  pub drops : (i : ℕ) → In i v.drops → In i w.drops
  pub grows : Grows P (λ i. In i w.drops) v.nodes w.nodes

pub steps_on : (P : Node → Type 0) (v w x : SearchData) → Steps P v w → Steps P w x → Steps P v x
steps_on P v w x s t = record {
  rules = t.rules ∙ s.rules;
  drops = λ i h. t.drops i (s.drops i h);
  grows = grows_on P (λ i. In i w.drops) (λ i. In i x.drops) v.nodes w.nodes x.nodes s.grows t.grows t.drops;
}

module _ (P : Node → Type 0) (new : (q : ℕ) (parent : Option ℕ) (h : ℕ) (focus : Focus) → P (new_node q parent h focus)) (old : (q : ℕ) (n : Node) → P n → P (unfinished q n)) where
  grows_node : (C : ℕ → Type 0) (ns : List Node) (q : ℕ) (parent : Option ℕ) (h : ℕ) (focus : Focus) (ms : List Node) → Grows P C ns ms → Grows P C ns (with_node q parent h focus ms)
  grows_node C ns q parent h focus ms g =
      let n = new_node q parent h focus in
      cond_both (is_free (place q h focus) ms) (ms ++ n ∷ []) ms (Grows P C ns)
      (λ _. grows_on P C C ns ms (ms ++ n ∷ []) g (record {
        forth = λ i x e. record { m = x; stands = get_left ms (n ∷ []) i x e; same = inl refl; aged = λ w. w };
        each = λ a i m e. ⊎_elim (λ s. a i m s) (λ s. subst P s (new q parent h focus)) (get_push ms n i m e);
      }) (λ i c. c))
      (λ _. g)

  pub grows_roots : (C : ℕ → Type 0) (q : ℕ) (hs : List ℕ) (ns ms : List Node) → Grows P C ns ms → Grows P C ns (with_roots q hs ms)
  grows_roots C q hs ns ms g = all_roots (λ (os : List Node). Grows P C ns os) q hs ms (λ parent h focus os k. grows_node C ns q parent h focus os k) g

  grows_family_of : (C : ℕ → Type 0) (hs : List Hypothesis) (tree : Resources) (i : ℕ) (o : Option Node) (ns ms : List Node) → Grows P C ns ms → Grows P C ns (with_family_of hs tree i o ms)
  grows_family_of C hs tree i None ns ms g = g
  grows_family_of C hs tree i (Some n) ns ms g =
      let ks = children hs tree n.hypothesis n.focus in
      cond_both (is_confirmed n.state) (with_children n.phase i ks ms) ms (Grows P C ns)
      (λ _. all_children (λ (os : List Node). Grows P C ns os) n.phase i ks ms (λ parent h focus os k. grows_node C ns n.phase parent h focus os k) g) (λ _. g)

  grows_family : (C : ℕ → Type 0) (hs : List Hypothesis) (tree : Resources) (i : ℕ) (ns ms : List Node) → Grows P C ns ms → Grows P C ns (with_family hs tree i ms)
  unfolding with_family
  grows_family C hs tree i ns ms g = grows_family_of C hs tree i (slice_get ms i) ns ms g

  grows_families : (C : ℕ → Type 0) (hs : List Hypothesis) (tree : Resources) (is : List ℕ) (ns ms : List Node) → Grows P C ns ms → Grows P C ns (with_families hs tree is ms)
  grows_families C hs tree [] ns ms g = g
  grows_families C hs tree (i ∷ is) ns ms g = grows_families C hs tree is ns (with_family hs tree i ms) (grows_family C hs tree i ns ms g)

  grows_ended : (C : ℕ → Type 0) (q : ℕ) (ns : List Node) → ((i : ℕ) → In i (active_in q ns) → C i) → Grows P C ns (map (unfinished q) ns)
  grows_ended C q ns c = record {
    forth = λ i n e.
        let s = end_same q n in
        let is : 0 + i ≡ i = omega arith in
        let told = λ (a : ((n.phase == q) && is_active n.state) ≡ true).
        subst (λ (j : ℕ). In j (active_in q ns)) is (number_in (λ n. (n.phase == q) && is_active n.state) 0 ns i n e a) in
        record {
          m = unfinished q n;
          stands = map_get (unfinished q) ns i n e;
          same = ⊎_elim (λ z. inl z) (λ z. inr (λ a. c i (told (z.1 a)))) s;
          aged = λ w. ⊎_elim (λ (z : unfinished q n ≡ n). ap (λ (x : Node). is_waiting x.state) z ∙ w) (λ z. z.0) s;
        };
    each = λ a i m e. let b = get_map (unfinished q) ns i m e in subst P b.2 (old q b.0 (a i b.0 b.1));
  }

  grows_begun : (v : SearchData) → Grows P (λ i. In i (with_next_phase v).drops) v.nodes (with_next_phase v).nodes
  grows_begun v =
      let C = λ (i : ℕ). In i (with_next_phase v).drops in
      grows_roots C (v.present + 1) (roots v.rules.hypotheses) v.nodes (map (unfinished v.present) v.nodes)
      (grows_ended C v.present v.nodes (λ i h. append_right v.drops (active_in v.present v.nodes) i h))

  pub steps_families : (v : SearchData) → Steps P v (with_all_families v)
  steps_families v =
      let C = λ (i : ℕ). In i v.drops in
      record { rules = refl; drops = λ i h. h; grows = grows_families C v.rules.hypotheses v.rules.tree v.drops v.nodes v.nodes (grows_none P C v.nodes) }

  pub steps_phases : (t : ℕ) (ps : List PhaseDecl) (v : SearchData) → Steps P v (with_phases t ps v)
  steps_phases t [] v = record { rules = refl; drops = λ i h. h; grows = grows_none P (λ i. In i v.drops) v.nodes }
  steps_phases t (p ∷ ps) v =
      cond_both (nat_le p.at t) (with_phases t ps (with_next_phase v)) v (Steps P v)
      (λ _. steps_on P v (with_next_phase v) (with_phases t ps (with_next_phase v))
      (record { rules = refl; drops = λ i h. append_left v.drops (active_in v.present v.nodes) i h; grows = grows_begun v }) (steps_phases t ps (with_next_phase v)))
      (λ _. record { rules = refl; drops = λ i h. h; grows = grows_none P (λ i. In i v.drops) v.nodes })
