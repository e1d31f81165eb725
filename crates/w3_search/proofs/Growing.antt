-- The history of a search while nodes are made.
use Rattle.std.proofs.Common.{◌≡◌, ℕ, zero, suc, ◌<◌, ◌≤◌, true, false, Option, Some, None, List, [], ◌∷◌, ◌++◌, length, refl, sym, ap, subst, ◌∙◌, arith, inl, inr, ◌⊎◌}
use Rattle.std.specs.Prelude.{slice_get, nat_lt, not}
use Rattle.std.proofs.lemmas.Bool.{cases_Bool, cond_both, cond-true, cond-false, eq-eqb, and_from, and_cases, or_left, or_right, ltb-false, not-false, both_ways, true≢false}
use Rattle.std.proofs.lemmas.List.{length_push}
use Rattle.std.proofs.lemmas.List.Folds.{list_any-append}
use Rattle.pn_types.specs.declared.focus.Focus.{Focus}
use Rattle.pn_types.specs.declared.focus.CodePart.{CodePart}
use Rattle.pn_types.specs.declared.focus.CodePart.TheVariants.{All, Module, Procedure}
use Rattle.resource_tree.specs.Foci as foci
use Rattle.w3_search.specs.Refining.{children, roots}
use Rattle.w3_search.specs.declared.node.Node.{Node}
use Rattle.w3_search.specs.declared.node.NodeState.{NodeState}
use Rattle.w3_search.specs.declared.node.NodeState.TheVariants.{Confirmed}
use Rattle.w3_search.specs.declared.place.NodePlace.{NodePlace}
use Rattle.resource_tree.specs.SameNodes.{is_same_code, is_same_number}
use Rattle.w3_search.specs.Nodes.{is_free, is_same_place, is_confirmed, new_node, place, place_of, has_place, with_node, most_nodes}
use Rattle.w3_search.specs.Steps.{Rules, with_children, with_family, with_family_of, with_families, with_roots}
use Rattle.w3_search.specs.History.{In, Lineage, lineage_of, IsRoot, IsChild}
use Rattle.w3_search.proofs.Changes.{free_parts, got}
use Rattle.w3_search.proofs.Aging.{Going}

-- ---- one more node

pub get_push : (ns : List Node) (n : Node) (i : ℕ) (m : Node) → slice_get (ns ++ n ∷ []) i ≡ Some m → (slice_get ns i ≡ Some m) ⊎ ((i ≡ length ns) × (m ≡ n))
get_push [] n zero m e = let s : m ≡ n = cc in inr (refl, s)
get_push [] n (suc i) m e = cc
get_push (x ∷ ns) n zero m e = inl e
get_push (x ∷ ns) n (suc i) m e = elim (get_push ns n i m e) [ inl a ↦ inl a | inr b ↦ inr (ap suc b.0, b.1) ]

get_kept : (ns : List Node) (n : Node) (i : ℕ) (m : Node) → slice_get ns i ≡ Some m → slice_get (ns ++ n ∷ []) i ≡ Some m
get_kept [] n i m e = cc
get_kept (x ∷ ns) n zero m e = e
get_kept (x ∷ ns) n (suc i) m e = get_kept ns n i m e

same_code : (a : CodePart) → is_same_code a a ≡ true
same_code All = refl
same_code (Module n) = eq-eqb n n refl
same_code (Procedure n) = eq-eqb n n refl

same_number : (a : Option ℕ) → is_same_number a a ≡ true
same_number None = refl
same_number (Some n) = eq-eqb n n refl

same_place : (p : NodePlace) → is_same_place p p ≡ true
same_place p =
    and_from _ _ (eq-eqb p.phase p.phase refl) (and_from _ _ (eq-eqb p.hypothesis p.hypothesis refl) (and_from _ _ (same_code p.code) (and_from _ _ (same_number p.hart) (same_number p.object))))

stands_push : (p : NodePlace) (ns : List Node) (n : Node) → has_place p ns ≡ true → has_place p (ns ++ n ∷ []) ≡ true
stands_push p ns n e = list_any-append (λ (m : Node). is_same_place p (place_of m)) ns (n ∷ []) ∙ or_left _ _ e

stands_new : (p : NodePlace) (ns : List Node) (n : Node) → p ≡ place_of n → has_place p (ns ++ n ∷ []) ≡ true
stands_new p ns n e =
    list_any-append (λ (m : Node). is_same_place p (place_of m)) ns (n ∷ [])
    ∙ or_right _ _ (or_left _ _ (ap (is_same_place p) (sym e) ∙ same_place p))

-- who stands at a place is found there
stands_at : (p : NodePlace) (ns : List Node) (i : ℕ) (m : Node) → slice_get ns i ≡ Some m → place_of m ≡ p → has_place p ns ≡ true
stands_at p [] i m e s = cc
stands_at p (x ∷ ns) zero m e s =
    let y : place_of x ≡ p = ap place_of (let k : x ≡ m = cc in k) ∙ s in
    or_left _ _ (ap (is_same_place p) y ∙ same_place p)
stands_at p (x ∷ ns) (suc i) m e s = or_right _ _ (stands_at p ns i m e s)

pub with_node_stands : (q : ℕ) (parent : Option ℕ) (h : ℕ) (f : Focus) (p : NodePlace) (ns : List Node) → has_place p ns ≡ true → has_place p (with_node q parent h f ns) ≡ true
with_node_stands q parent h f p ns e =
    cond_both (is_free (place q h f) ns) (ns ++ new_node q parent h f ∷ []) ns (λ (l : List Node). has_place p l ≡ true) (λ _. stands_push p ns (new_node q parent h f) e) (λ _. e)

pub with_node_length : (q : ℕ) (parent : Option ℕ) (h : ℕ) (f : Focus) (ns : List Node) → length ns ≤ length (with_node q parent h f ns)
with_node_length q parent h f ns =
    cond_both (is_free (place q h f) ns) (ns ++ new_node q parent h f ∷ []) ns (λ (l : List Node). length ns ≤ length l) (λ _. omega (arith, length_push ns (new_node q parent h f))) (λ _. omega arith)

-- it stands there afterwards, where there was room
pub with_node_there : (q : ℕ) (parent : Option ℕ) (h : ℕ) (f : Focus) (ns : List Node) → length (with_node q parent h f ns) < most_nodes → has_place (place q h f) (with_node q parent h f ns) ≡ true
with_node_there q parent h f ns l = by (cases_Bool (is_free (place q h f) ns))
  where
    by : (is_free (place q h f) ns ≡ true) ⊎ (is_free (place q h f) ns ≡ false) → has_place (place q h f) (with_node q parent h f ns) ≡ true
    by (inl allowed) =
        subst (λ (m : List Node). has_place (place q h f) m ≡ true) (sym (cond-true (is_free (place q h f) ns) (ns ++ new_node q parent h f ∷ []) ns allowed)) (stands_new (place q h f) ns (new_node q parent h f) refl)
    by (inr not_free) =
        let e : with_node q parent h f ns ≡ ns = cond-false (is_free (place q h f) ns) (ns ++ new_node q parent h f ∷ []) ns not_free in
        let few : length ns < most_nodes = subst (λ (m : List Node). length m < most_nodes) e l in
        subst (λ (m : List Node). has_place (place q h f) m ≡ true) (sym e)
        (elim (and_cases (nat_lt (length ns) most_nodes) (not (has_place (place q h f) ns)) not_free) [
          | inl full ↦ absurd (omega (arith, ltb-false (length ns) most_nodes full))
          | inr taken ↦ not-false (has_place (place q h f) ns) taken
        ])

-- ---- the history

-- a new node comes from somewhere
abbrev pub Comes : Rules → List Node → Lineage → Type 0
Comes r ns s = IsRoot r s ⊎ IsChild r ns (length ns) s

child_kept : (r : Rules) (ns : List Node) (n : Node) (i : ℕ) (s : Lineage) → IsChild r ns i s → IsChild r (ns ++ n ∷ []) i s
child_kept r ns n i s c = record {
  number = c.number;
  parent = c.parent;
  named = c.named;
  lower = c.lower;
  stands = get_kept ns n c.number c.parent c.stands;
  confirmed = c.confirmed;
  phase = c.phase;
  child = c.child;
}

pushed : (r : Rules) (present : ℕ) (ns : List Node) (owed left : List ℕ) (n : Node) → Going r present ns owed left → n.phase ≤ present → (n.state ≡ Confirmed → ⊥) → Comes r ns (lineage_of n) → has_place (place_of n) ns ≡ false → length ns < most_nodes
    → Going r present (ns ++ n ∷ []) owed left
pushed r present ns owed left n g phase waits comes free room = record {
  begun = λ i m e. elim (get_push ns n i m e) [ inl old ↦ g.begun i m old | inr new ↦ subst (λ (k : Node). k.phase ≤ present) (sym new.1) phase ];
  origin = λ i m e. elim (get_push ns n i m e) [
    | inl old ↦ elim (g.origin i m old) [ inl root ↦ inl root | inr child ↦ inr (child_kept r ns n i (lineage_of m) child) ]
    | inr new ↦
        subst (λ (k : Node). IsRoot r (lineage_of k) ⊎ IsChild r (ns ++ n ∷ []) i (lineage_of k)) (sym new.1)
        (elim comes [ inl root ↦ inl root | inr child ↦ inr (child_kept r ns n i (lineage_of n) (subst (λ (k : ℕ). IsChild r ns k (lineage_of n)) (sym new.0) child)) ])
  ];
  apart = λ i j a b e f same. elim (get_push ns n i a e) [
    | inl old ↦ elim (get_push ns n j b f) [
      | inl old' ↦ g.apart i j a b old old' same
      | inr new' ↦ absurd (both_ways _ free (stands_at (place_of n) ns i a old (same ∙ ap place_of new'.1)))
    ]
    | inr new ↦ elim (get_push ns n j b f) [
      | inl old' ↦ absurd (both_ways _ free (stands_at (place_of n) ns j b old' (sym same ∙ ap place_of new.1)))
      | inr new' ↦ new.0 ∙ sym new'.0
    ]
  ];
  roots = λ l q h b i. elim (g.roots room q h b i) [ inl x ↦ inl x | inr y ↦ inr (stands_push (place q h foci.root) ns n y) ];
  families = λ l i m e s. elim (get_push ns n i m e) [
    | inl old ↦ elim (g.families room i m old s) [ inl x ↦ inl x | inr y ↦ inr (λ h f c. stands_push (place m.phase h f) ns n (y h f c)) ]
    | inr new ↦ absurd (waits (subst (λ (k : Node). k.state ≡ Confirmed) new.1 s))
  ];
}

pub noded : (r : Rules) (present : ℕ) (ns : List Node) (owed left : List ℕ) (q : ℕ) (parent : Option ℕ) (h : ℕ) (f : Focus) → Going r present ns owed left → q ≤ present
    → Comes r ns (record { phase = q; parent = parent; hypothesis = h; focus = f }) → Going r present (with_node q parent h f ns) owed left
noded r present ns owed left q parent h f g phase comes =
    cond_both (is_free (place q h f) ns) (ns ++ new_node q parent h f ∷ []) ns (λ (l : List Node). Going r present l owed left)
    (λ free. let parts = free_parts (place q h f) ns free in pushed r present ns owed left (new_node q parent h f) g phase (λ e. cc) comes parts.1 parts.0)
    (λ _. g)

-- ---- a family

-- a confirmed node stays where it is
pub record Parent (ns : List Node) (i : ℕ) (n : Node) : Type 0 where
  pub there : slice_get ns i ≡ Some n
  pub confirmed : n.state ≡ Confirmed

parent_kept : (q : ℕ) (parent : Option ℕ) (h : ℕ) (f : Focus) (ns : List Node) (i : ℕ) (n : Node) → Parent ns i n → Parent (with_node q parent h f ns) i n
parent_kept q parent h f ns i n p =
    cond_both (is_free (place q h f) ns) (ns ++ new_node q parent h f ∷ []) ns (λ (l : List Node). Parent l i n)
    (λ _. record { there = get_kept ns (new_node q parent h f) i n p.there; confirmed = p.confirmed }) (λ _. p)

children_stand : (q i : ℕ) (ks : List (ℕ × Focus)) (p : NodePlace) (ns : List Node) → has_place p ns ≡ true → has_place p (with_children q i ks ns) ≡ true
children_stand q i [] p ns e = e
children_stand q i (k ∷ ks) p ns e = children_stand q i ks p (with_node q (Some i) k.0 k.1 ns) (with_node_stands q (Some i) k.0 k.1 p ns e)

children_length : (q i : ℕ) (ks : List (ℕ × Focus)) (ns : List Node) → length ns ≤ length (with_children q i ks ns)
children_length q i [] ns = omega arith
children_length q i (k ∷ ks) ns = omega (arith, with_node_length q (Some i) k.0 k.1 ns, children_length q i ks (with_node q (Some i) k.0 k.1 ns))

-- these children stand, where there was room
children_there : (q i : ℕ) (ks : List (ℕ × Focus)) (ns : List Node) → length (with_children q i ks ns) < most_nodes → (h : ℕ) (f : Focus) → In (h, f) ks → has_place (place q h f) (with_children q i ks ns) ≡ true
children_there q i [] ns l h f c = absurd c
children_there q i (k ∷ ks) ns l h f (inl e) =
    let m = with_node q (Some i) k.0 k.1 ns in
    let room : length m < most_nodes = omega (arith, children_length q i ks m) in
    let same : place q h f ≡ place q k.0 k.1 = ap (λ (x : ℕ × Focus). place q x.0 x.1) e in
    children_stand q i ks (place q h f) m (subst (λ (p : NodePlace). has_place p m ≡ true) (sym same) (with_node_there q (Some i) k.0 k.1 ns room))
children_there q i (k ∷ ks) ns l h f (inr c) = children_there q i ks (with_node q (Some i) k.0 k.1 ns) l h f c

children_going : (r : Rules) (present : ℕ) (ks : List (ℕ × Focus)) (ns : List Node) (owed left : List ℕ) (i : ℕ) (n : Node) → Going r present ns owed left → Parent ns i n
    → ((h : ℕ) (f : Focus) → In (h, f) ks → In (h, f) (children r.hypotheses r.tree n.hypothesis n.focus)) → Going r present (with_children n.phase i ks ns) owed left × Parent (with_children n.phase i ks ns) i n
children_going r present [] ns owed left i n g p sub = (g, p)
children_going r present (k ∷ ks) ns owed left i n g p sub =
    let child : IsChild r ns (length ns) (record { phase = n.phase; parent = Some i; hypothesis = k.0; focus = k.1 }) = record {
      number = i;
      parent = n;
      named = refl;
      lower = (got ns i n n p.there).1;
      stands = p.there;
      confirmed = p.confirmed;
      phase = refl;
      child = sub k.0 k.1 (inl refl);
    } in
    children_going r present ks (with_node n.phase (Some i) k.0 k.1 ns) owed left i n
    (noded r present ns owed left n.phase (Some i) k.0 k.1 g (g.begun i n p.there) (inr child))
    (parent_kept n.phase (Some i) k.0 k.1 ns i n p)
    (λ h f c. sub h f (inr c))

confirmed_is : (s : NodeState) → is_confirmed s ≡ true → s ≡ Confirmed
confirmed_is Confirmed e = refl
confirmed_is _ e = cc

-- a node owes no more
paid : (r : Rules) (present : ℕ) (ns : List Node) (i : ℕ) (owed left : List ℕ) → Going r present ns (i ∷ owed) left
    → (length ns < most_nodes → (n : Node) → slice_get ns i ≡ Some n → n.state ≡ Confirmed → (h : ℕ) (f : Focus) → In (h, f) (children r.hypotheses r.tree n.hypothesis n.focus) → has_place (place n.phase h f) ns ≡ true)
    → Going r present ns owed left
paid r present ns i owed left g done = record {
  begun = g.begun;
  origin = g.origin;
  apart = g.apart;
  roots = g.roots;
  families = λ l j n e s. elim (g.families l j n e s) [
    | inl x ↦ elim x [
      | inl here ↦ inr (done l n (subst (λ (k : ℕ). slice_get ns k ≡ Some n) here e) s)
      | inr more ↦ inl more
    ]
    | inr y ↦ inr y
  ];
}

family_going : (r : Rules) (present : ℕ) (ns : List Node) (i : ℕ) (o : Option Node) (owed left : List ℕ) → slice_get ns i ≡ o → Going r present ns (i ∷ owed) left → Going r present (with_family_of r.hypotheses r.tree i o ns) owed left
family_going r present ns i None owed left e g = paid r present ns i owed left g (λ l n f s h at c. cc)
family_going r present ns i (Some n) owed left e g = by (cases_Bool (is_confirmed n.state))
  where
    ks : List (ℕ × Focus)
    ks = children r.hypotheses r.tree n.hypothesis n.focus

    by : (is_confirmed n.state ≡ true) ⊎ (is_confirmed n.state ≡ false) → Going r present (with_family_of r.hypotheses r.tree i (Some n) ns) owed left
    by (inl allowed) =
        let p : Parent ns i n = record { there = e; confirmed = confirmed_is n.state allowed } in
        let all = children_going r present (children r.hypotheses r.tree n.hypothesis n.focus) ns (i ∷ owed) left i n g p (λ h f c. c) in
        subst (λ (m : List Node). Going r present m owed left) (sym (cond-true (is_confirmed n.state) (with_children n.phase i (children r.hypotheses r.tree n.hypothesis n.focus) ns) ns allowed))
        (paid r present (with_children n.phase i (children r.hypotheses r.tree n.hypothesis n.focus) ns) i owed left all.0
        (λ l m f s h at c.
        let same : m ≡ n = (let k : Some m ≡ Some n = sym f ∙ all.1.there in cc) in
        subst (λ (x : Node). has_place (place x.phase h at) (with_children n.phase i (children r.hypotheses r.tree n.hypothesis n.focus) ns) ≡ true) (sym same)
        (children_there n.phase i (children r.hypotheses r.tree n.hypothesis n.focus) ns l h at (subst (λ (x : Node). In (h, at) (children r.hypotheses r.tree x.hypothesis x.focus)) same c))))
    by (inr other) =
        subst (λ (m : List Node). Going r present m owed left) (sym (cond-false (is_confirmed n.state) (with_children n.phase i (children r.hypotheses r.tree n.hypothesis n.focus) ns) ns other))
        (paid r present ns i owed left g (λ l m f s. absurd
        (let same : m ≡ n = (let k : Some m ≡ Some n = sym f ∙ e in cc) in
        true≢false (sym (ap is_confirmed (subst (λ (x : Node). x.state ≡ Confirmed) same s)) ∙ other))))

family_paid : (r : Rules) (present i : ℕ) (is : List ℕ) (ns : List Node) (left : List ℕ) → Going r present ns (i ∷ is) left → Going r present (with_family r.hypotheses r.tree i ns) is left
unfolding with_family
family_paid r present i is ns left g = family_going r present ns i (slice_get ns i) is left refl g

pub families_going : (r : Rules) (present : ℕ) (owed : List ℕ) (ns : List Node) (left : List ℕ) → Going r present ns owed left → Going r present (with_families r.hypotheses r.tree owed ns) [] left
families_going r present [] ns left g = g
families_going r present (i ∷ is) ns left g = families_going r present is (with_family r.hypotheses r.tree i ns) left (family_paid r present i is ns left g)

-- ---- roots

pub roots_going : (r : Rules) (present : ℕ) (left : List ℕ) (ns : List Node) → Going r present ns [] left → ((h : ℕ) → In h left → In h (roots r.hypotheses)) → Going r present (with_roots present left ns) [] []
roots_going r present [] ns g sub = g
roots_going r present (h ∷ hs) ns g sub =
    let m = with_node present None h foci.root ns in
    let g' : Going r present m [] (h ∷ hs) = noded r present ns [] (h ∷ hs) present None h foci.root g (omega arith) (inl (refl, sub h (inl refl), refl)) in
    let g'' : Going r present m [] hs = record {
      begun = g'.begun;
      origin = g'.origin;
      apart = g'.apart;
      roots = λ l q k b i. elim (g'.roots l q k b i) [
        | inl x ↦ elim x.1 [
          | inl here ↦ inr (subst (λ (j : ℕ). has_place (place j k foci.root) m ≡ true) (sym x.0) (subst (λ (j : ℕ). has_place (place present j foci.root) m ≡ true) (sym here) (with_node_there present None h foci.root ns l)))
          | inr more ↦ inl (x.0, more)
        ]
        | inr y ↦ inr y
      ];
      families = g'.families;
    } in
    roots_going r present hs m g'' (λ k i. sub k (inr i))
