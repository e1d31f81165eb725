-- How many children there are.
use Rattle.std.proofs.Common.{◌≡◌, ℕ, ◌+◌, Option, Some, List, length, map, ap, ◌∙◌, refl}
use Rattle.std.specs.Prelude.{slice_get}
use Rattle.std.proofs.lemmas.List.{length-map, length-append}
use Rattle.pn_types.specs.declared.focus.Focus.{Focus}
use Rattle.mdl_ast.specs.declared.items.Hypothesis.{Hypothesis}
use Rattle.resource_tree.specs.Resources.{Resources}
use Rattle.w3_search.specs.Refining.{axes_named, children, children_of, finer, refinements}

pub count_children : (hs : List Hypothesis) (tree : Resources) (h : ℕ) (focus : Focus) (own : Hypothesis) → slice_get hs h ≡ Some own
    → length (children hs tree h focus) ≡ length (refinements hs own.name) + length (finer tree focus (axes_named own.axes))
unfolding children
count_children hs tree h focus own is =
    ap (λ (o : Option Hypothesis). length (children_of hs tree h focus o)) is
    ∙ length-append (map (λ (k : ℕ). (k, focus)) (refinements hs own.name)) (map (λ (below : Focus). (h, below)) (finer tree focus (axes_named own.axes)))
    ∙ simp length-map refl
