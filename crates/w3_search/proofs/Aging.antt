-- The history of a search while nodes change their states.
use Rattle.std.proofs.Common.{◌≡◌, ℕ, ◌<◌, ◌≤◌, Bool, true, Some, List, [], ◌∷◌, ◌||◌, length, refl, sym, ap, subst, ◌∙◌, arith, inl, inr, ◌⊎◌}
use Rattle.std.specs.Prelude.{slice_get}
use Rattle.pn_types.specs.declared.focus.Focus.{Focus}
use Rattle.resource_tree.specs.Foci as foci
use Rattle.w3_search.specs.Refining.{children, roots}
use Rattle.w3_search.specs.declared.node.Node.{Node}
use Rattle.w3_search.specs.declared.node.NodeState.TheVariants.{Confirmed}
use Rattle.w3_search.specs.declared.place.NodePlace.{NodePlace}
use Rattle.w3_search.specs.Nodes.{is_same_place, place, place_of, has_place, most_nodes}
use Rattle.w3_search.specs.Steps.{Rules, SearchData}
use Rattle.w3_search.specs.History.{In, Lineage, lineage_of, IsRoot, IsChild, IsHistory}
use Rattle.w3_search.proofs.Pairs.{OneAged, Pairs, pairs_back, pairs_forth, pairs_length}

-- the place of a node of this lineage
abbrev pub place_at : Lineage → NodePlace
place_at s = place s.phase s.hypothesis s.focus

-- A history in which the children of some nodes, and some roots of the present phase, are still to be made.
pub record Going (r : Rules) (present : ℕ) (ns : List Node) (owed left : List ℕ) : Type 0 where
  pub begun : (i : ℕ) (n : Node) → slice_get ns i ≡ Some n → n.phase ≤ present
  pub origin : (i : ℕ) (n : Node) → slice_get ns i ≡ Some n → IsRoot r (lineage_of n) ⊎ IsChild r ns i (lineage_of n)
  pub apart : (i j : ℕ) (m n : Node) → slice_get ns i ≡ Some m → slice_get ns j ≡ Some n → place_of m ≡ place_of n → i ≡ j
  pub roots : length ns < most_nodes → (q h : ℕ) → q ≤ present → In h (roots r.hypotheses) → ((q ≡ present) × In h left) ⊎ (has_place (place q h foci.root) ns ≡ true)
  pub families : length ns < most_nodes → (i : ℕ) (n : Node) → slice_get ns i ≡ Some n → n.state ≡ Confirmed
      → In i owed ⊎ ((h : ℕ) (f : Focus) → In (h, f) (children r.hypotheses r.tree n.hypothesis n.focus) → has_place (place n.phase h f) ns ≡ true)

pub whole : (v : SearchData) → Going v.rules v.present v.nodes [] [] → IsHistory v
whole v g = record {
  begun = g.begun;
  origin = g.origin;
  apart = g.apart;
  roots = λ l q h b i. elim (g.roots l q h b i) [ inl x ↦ absurd x.1 | inr y ↦ y ];
  families = λ l i n e s. elim (g.families l i n e s) [ inl x ↦ absurd x | inr y ↦ y ];
}

pub going : (v : SearchData) → IsHistory v → Going v.rules v.present v.nodes [] []
going v g = record {
  begun = g.begun;
  origin = g.origin;
  apart = g.apart;
  roots = λ l q h b i. inr (g.roots l q h b i);
  families = λ l i n e s. inr (g.families l i n e s);
}

-- ---- nodes in other states

places_same : (C : Node → Type 0) (ns ms : List Node) → Pairs (OneAged C) ns ms → (p : NodePlace) → has_place p ms ≡ has_place p ns
places_same C [] [] a p = refl
places_same C [] (m ∷ ms) a p = absurd a
places_same C (n ∷ ns) [] a p = absurd a
places_same C (n ∷ ns) (m ∷ ms) a p =
    ap (λ (s : Lineage). is_same_place p (place_at s) || has_place p ms) a.0.same ∙ ap (λ (b : Bool). is_same_place p (place_of n) || b) (places_same C ns ms a.1 p)

pub aged : (C : Node → Type 0) (r : Rules) (present : ℕ) (ns ms : List Node) (owed more left : List ℕ) → Going r present ns owed left → Pairs (OneAged C) ns ms
    → ((i : ℕ) (n m : Node) → slice_get ns i ≡ Some n → slice_get ms i ≡ Some m → C n → m.state ≡ Confirmed → In i more) → ((i : ℕ) → In i owed → In i more) → Going r present ms more left
aged C r present ns ms owed more left g a anew kept = record {
  begun = λ i m e. let b = pairs_back (OneAged C) ns ms i m a e in subst (λ (s : Lineage). s.phase ≤ present) (sym b.2.same) (g.begun i b.0 b.1);
  origin = λ i m e. let b = pairs_back (OneAged C) ns ms i m a e in
      elim (g.origin i b.0 b.1) [
        | inl root ↦ inl (subst (IsRoot r) (sym b.2.same) root)
        | inr child ↦ let p = pairs_forth (OneAged C) ns ms child.number child.parent a child.stands in
            inr (record {
              number = child.number;
              parent = p.0;
              named = ap (λ (s : Lineage). s.parent) b.2.same ∙ child.named;
              lower = child.lower;
              stands = p.1;
              confirmed = p.2.stays child.confirmed;
              phase = ap (λ (s : Lineage). s.phase) b.2.same ∙ child.phase ∙ ap (λ (s : Lineage). s.phase) (sym p.2.same);
              child = subst (λ (s : Lineage). In (s.hypothesis, s.focus) (children r.hypotheses r.tree p.0.hypothesis p.0.focus)) (sym b.2.same)
                  (subst (λ (s : Lineage). In (b.0.hypothesis, b.0.focus) (children r.hypotheses r.tree s.hypothesis s.focus)) (sym p.2.same) child.child);
            })
      ];
  apart = λ i j m n e f same.
      let b = pairs_back (OneAged C) ns ms i m a e in
      let d = pairs_back (OneAged C) ns ms j n a f in
      g.apart i j b.0 d.0 b.1 d.1 (ap place_at (sym b.2.same) ∙ same ∙ ap place_at d.2.same);
  roots = λ l q h b i. let len = pairs_length (OneAged C) ns ms a in elim (g.roots (omega arith) q h b i) [ inl x ↦ inl x | inr y ↦ inr (places_same C ns ms a (place q h foci.root) ∙ y) ];
  families = λ l i m e s.
      let len = pairs_length (OneAged C) ns ms a in
      let b = pairs_back (OneAged C) ns ms i m a e in
      elim (b.2.fresh s) [
        | inl old ↦ elim (g.families (omega arith) i b.0 b.1 old) [
          | inl x ↦ inl (kept i x)
          | inr y ↦ inr (λ h f c.
              subst (λ (s : Lineage). has_place (place s.phase h f) ms ≡ true) (sym b.2.same)
              (places_same C ns ms a (place b.0.phase h f) ∙ y h f (subst (λ (s : Lineage). In (h, f) (children r.hypotheses r.tree s.hypothesis s.focus)) b.2.same c)))
        ]
        | inr new ↦ inl (anew i b.0 m b.1 e new s)
      ];
}
