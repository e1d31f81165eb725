-- What each new node of a phase keeps, all of them keep.
use Rattle.std.proofs.Common.{◌≡◌, ℕ, ◌<◌, ◌≤◌, Option, List, [], ◌∷◌, ◌++◌, refl, ap, ◌∙◌, inl, inr}
use Rattle.std.specs.Prelude.{slice_get}
use Rattle.std.proofs.lemmas.Bool.{cond_both}
use Rattle.std.proofs.lemmas.List.{append-nil}
use Rattle.pn_types.specs.declared.focus.Focus.{Focus}
use Rattle.mdl_ast.specs.declared.items.Hypothesis.{Hypothesis}
use Rattle.resource_tree.specs.Resources.{Resources}
use Rattle.w3_search.specs.declared.node.Node.{Node}
use Rattle.w3_search.specs.History.{AreFew, AreHere, In}
use Rattle.w3_search.specs.Nodes.{active_of, is_active, is_free, new_node, place, with_node}
use Rattle.w3_search.specs.States.{AreOf}
use Rattle.w3_search.specs.Steps.{with_families, with_family, with_roots}
use Rattle.w3_search.proofs.Changes.{all_family_of, all_roots, open_push}
use Rattle.w3_search.proofs.Growing.{get_push}
use Rattle.w3_search.proofs.Numbering.{numbers_push}

-- open nodes are of phase q with too few samples for a verdict, these nodes are of it, and these are under test
pub record Kept (window q : ℕ) (drops active : List ℕ) (ns : List Node) : Type 0 where
  pub few : AreFew window ns
  pub here : AreHere q ns
  pub dropped : AreOf q drops ns
  pub same : active_of ns ≡ active

module _ (window q : ℕ) (drops active : List ℕ) (some : 1 ≤ window) where
  kept_push : (parent : Option ℕ) (h : ℕ) (focus : Focus) (ns : List Node) → Kept window q drops active ns → Kept window q drops active (ns ++ new_node q parent h focus ∷ [])
  kept_push parent h focus ns k = record {
    few = open_push (λ (n : Node). n.seen < window) ns (new_node q parent h focus) k.few (λ _. some);
    here = open_push (λ (n : Node). n.phase ≡ q) ns (new_node q parent h focus) k.here (λ _. refl);
    dropped = λ i n listed e. elim (get_push ns (new_node q parent h focus) i n e) [ inl old ↦ k.dropped i n listed old | inr new ↦ ap (λ (m : Node). m.phase) new.1 ];
    same = numbers_push (λ n. is_active n.state) 0 ns (new_node q parent h focus) ∙ append-nil (active_of ns) ∙ k.same;
  }

  pub kept_node : (parent : Option ℕ) (h : ℕ) (focus : Focus) (ns : List Node) → Kept window q drops active ns → Kept window q drops active (with_node q parent h focus ns)
  kept_node parent h focus ns k =
      cond_both (is_free (place q h focus) ns) (ns ++ new_node q parent h focus ∷ []) ns (Kept window q drops active) (λ _. kept_push parent h focus ns k) (λ _. k)

  pub kept_roots : (hs : List ℕ) (ns : List Node) → Kept window q drops active ns → Kept window q drops active (with_roots q hs ns)
  kept_roots hs ns k = all_roots (Kept window q drops active) q hs ns kept_node k

  kept_family : (hs : List Hypothesis) (tree : Resources) (i : ℕ) (ns : List Node) → In i drops → Kept window q drops active ns → Kept window q drops active (with_family hs tree i ns)
  unfolding with_family
  kept_family hs tree i ns listed k =
      all_family_of (Kept window q drops active) q hs tree i (slice_get ns i) ns kept_node (λ n e. k.dropped i n listed e) k

  pub kept_families : (hs : List Hypothesis) (tree : Resources) (is : List ℕ) (ns : List Node) → ((i : ℕ) → In i is → In i drops) → Kept window q drops active ns → Kept window q drops active (with_families hs tree is ns)
  kept_families hs tree [] ns within k = k
  kept_families hs tree (i ∷ is) ns within k =
      kept_families hs tree is (with_family hs tree i ns) (λ j x. within j (inr x)) (kept_family hs tree i ns (within i (inl refl)) k)
