-- Directives make no statements, so those that stand stay small.
use Rattle.std.proofs.Common.{◌≡◌, Bool, true, false, cond, List, [], ◌∷◌, ◌++◌, flat_map, Ok, refl, sym, ap, ◌∙◌, subst}
use Rattle.std.specs.List.{AllByRecursion}
use Rattle.std.proofs.lemmas.Grind.{flat_map-append}
use Rattle.mdl_ast.specs.Small.{HasSmall}
use Rattle.mdl_ast.specs.declared.items.Item.{Item}
use Rattle.mdl_ast.specs.declared.items.Item.TheVariants.{Include, Sync, Metric, Constraint, Hypothesis, Search, Phase, Wish}
use Rattle.mdl_ast.specs.declared.items.Include.{Include as TheInclude}
use Rattle.directives.specs.declared.directive.Directive.{Directive}
use Rattle.directives.specs.Acts.{at_line, expanded, applied}
use Rattle.directives.proofs.Spread.{none_at_line}
use Rattle.directives.proofs.Acting.{hidden_acted}
use Rattle.directives.proofs.Runs.{stays}

abbrev Small : List Item → Type 0
Small = AllByRecursion HasSmall

-- the item, if it is no hypothesis
abbrev rest_of : Item → List Item
rest_of (Hypothesis h) = []
rest_of item = item ∷ []

small_all : (items : List Item) → Small (flat_map rest_of items) → Small items
small_all [] s = tt
small_all (Include i ∷ xs) s = (s.0, small_all xs s.1)
small_all (Sync x ∷ xs) s = (s.0, small_all xs s.1)
small_all (Metric x ∷ xs) s = (s.0, small_all xs s.1)
small_all (Constraint x ∷ xs) s = (s.0, small_all xs s.1)
small_all (Hypothesis x ∷ xs) s = (tt, small_all xs s)
small_all (Search x ∷ xs) s = (s.0, small_all xs s.1)
small_all (Phase x ∷ xs) s = (s.0, small_all xs s.1)
small_all (Wish x ∷ xs) s = (s.0, small_all xs s.1)

include_small : (shipped rest : List Item) (i : TheInclude) (metrics : Bool) → Small (flat_map rest_of rest) → Small (flat_map rest_of (cond metrics (Include i ∷ []) (flat_map (at_line i.line) shipped) ++ rest))
include_small shipped rest i true s = (tt, s)
include_small shipped rest i false s =
    subst Small (sym (flat_map-append rest_of (flat_map (at_line i.line) shipped) rest ∙ ap (λ (l : List Item). l ++ flat_map rest_of rest) (none_at_line rest_of (λ h. refl) i.line shipped))) s

expanded_small : (shipped items : List Item) → Small items → Small (flat_map rest_of (expanded shipped items))
expanded_small shipped [] s = tt
expanded_small shipped (Include i ∷ xs) s = include_small shipped (expanded shipped xs) i i.metrics (expanded_small shipped xs s.1)
expanded_small shipped (Sync x ∷ xs) s = (s.0, expanded_small shipped xs s.1)
expanded_small shipped (Metric x ∷ xs) s = (s.0, expanded_small shipped xs s.1)
expanded_small shipped (Constraint x ∷ xs) s = (s.0, expanded_small shipped xs s.1)
expanded_small shipped (Hypothesis x ∷ xs) s = expanded_small shipped xs s.1
expanded_small shipped (Search x ∷ xs) s = (s.0, expanded_small shipped xs s.1)
expanded_small shipped (Phase x ∷ xs) s = (s.0, expanded_small shipped xs s.1)
expanded_small shipped (Wish x ∷ xs) s = (s.0, expanded_small shipped xs s.1)

pub small_after : (shipped items : List Item) (ds : List Directive) (new : List Item) → Small items → applied shipped items ds ≡ Ok new → Small new
unfolding applied
small_after shipped items ds new s e =
    let same : flat_map rest_of new ≡ flat_map rest_of (expanded shipped items) =
    stays (λ xs. flat_map rest_of xs ≡ flat_map rest_of (expanded shipped items)) (λ _. false) (λ act xs k. absurd cc) (λ act xs k. hidden_acted rest_of (λ h. refl) act xs ∙ k) ds (expanded shipped items) new refl e in
    small_all new (subst Small (sym same) (expanded_small shipped items s))
