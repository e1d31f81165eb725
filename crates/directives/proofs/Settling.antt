-- Taking away those without a parent, again and again.
use Rattle.std.proofs.Common.{◌≡◌, ℕ, zero, suc, ◌≤◌, not, cond, Bool, true, false, List, [], ◌∷◌, length, refl, ap, ◌∙◌, arith}
use Rattle.std.specs.List.{filter}
use Rattle.mdl_ast.specs.declared.items.Item.{Item}
use Rattle.directives.specs.Hypotheses.{is_named, is_orphan}

-- ---- rounds

abbrev pub settled : ℕ → List Item → List Item
settled zero items = items
settled (suc n) items = settled n (filter (λ item. not (is_orphan items item)) items)

-- a prune in rounds, each of which takes away the hypotheses whose parent doesn't stand
unfoldable pub pruned_in_rounds : List ℕ → List Item → List Item
pruned_in_rounds name items = settled (length items) (filter (λ item. not (is_named name item)) items)

pub same_filter : {A : Type 0} (p q : A → Bool) → ((x : A) → p x ≡ q x) → (xs : List A) → filter p xs ≡ filter q xs
same_filter p q h [] = refl
same_filter p q h (x ∷ xs) = ap (λ (b : Bool). cond b (x ∷ filter p xs) (filter p xs)) (h x) ∙ ap (λ (l : List _). cond (q x) (x ∷ l) l) (same_filter p q h xs)

pub filter_few : {A : Type 0} (p : A → Bool) (xs : List A) → length (filter p xs) ≤ length xs
filter_few p [] = omega arith
filter_few p (x ∷ xs) = by (p x) (filter_few p xs)
  where
    by : (b : Bool) → length (filter p xs) ≤ length xs → length (cond b (x ∷ filter p xs) (filter p xs)) ≤ length (x ∷ xs)
    by true h = omega arith
    by false h = omega arith

abbrev pub round : List Item → List Item
round items = filter (λ item. not (is_orphan items item)) items

pub still : (n : ℕ) (items : List Item) → round items ≡ items → settled n items ≡ items
still zero items e = refl
still (suc n) items e = ap (settled n) e ∙ still n items e
