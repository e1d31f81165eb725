-- The pieces that have statements, in their order.
use Rattle.std.proofs.Common.{◌≡◌, cond, ◌&&◌, Bool, true, false, List, [], ◌∷◌, ◌++◌, refl, sym, ap, ◌∙◌, append_assoc}
use Rattle.std.specs.List.{filter}
use Rattle.std.proofs.lemmas.List.Elements.{filter-append}
use Rattle.mdl_plan.specs.Pieces.{Piece, is_before, is_behind, in_order}
use Rattle.mdl_plan.specs.Busy.{is_put_there, has_some, busy}

-- a filter of a filter
filter_both : {X : Type 0} (p q : X → Bool) (xs : List X) → filter (λ x. p x && q x) xs ≡ filter q (filter p xs)
filter_both {X = X} p q [] = refl
filter_both {X = X} p q (x ∷ xs) = by (p x) (q x) refl (filter_both p q xs)
  where
    by : (b c : Bool) → q x ≡ c → filter (λ y. p y && q y) xs ≡ filter q (filter p xs)
        → cond (b && c) (x ∷ filter (λ y. p y && q y) xs) (filter (λ y. p y && q y) xs) ≡ filter q (cond b (x ∷ filter p xs) (filter p xs))
    by true true e h = ap (λ (l : List X). x ∷ l) h ∙ sym (ap (λ (d : Bool). cond d (x ∷ filter q (filter p xs)) (filter q (filter p xs))) e)
    by true false e h = h ∙ sym (ap (λ (d : Bool). cond d (x ∷ filter q (filter p xs)) (filter q (filter p xs))) e)
    by false c e h = h

goes_before : (ps : List Piece) → filter (is_put_there true) ps ≡ busy (filter is_before ps)
goes_before ps = filter_both is_before has_some ps

goes_behind : (ps : List Piece) → filter (is_put_there false) ps ≡ busy (filter is_behind ps)
goes_behind ps = filter_both is_behind has_some ps

-- the four parts make up the order
pub in_parts : (counters base : List Piece) (a b c d : List Piece)
    → a ≡ [] ++ filter (is_put_there true) counters → b ≡ a ++ filter (is_put_there true) base → c ≡ b ++ filter (is_put_there false) base → d ≡ c ++ filter (is_put_there false) counters
    → d ≡ busy (in_order counters base)
in_parts counters base a b c d ea eb ec ed =
    let front : b ≡ busy (filter is_before (counters ++ base)) =
    eb ∙ ap (λ (l : List Piece). l ++ filter (is_put_there true) base) ea ∙ sym (filter-append (is_put_there true) counters base) ∙ goes_before (counters ++ base) in
    let back : filter (is_put_there false) base ++ filter (is_put_there false) counters ≡ busy (filter is_behind (base ++ counters)) =
    sym (filter-append (is_put_there false) base counters) ∙ goes_behind (base ++ counters) in
    ed
    ∙ ap (λ (l : List Piece). l ++ filter (is_put_there false) counters) ec
    ∙ append_assoc b (filter (is_put_there false) base) (filter (is_put_there false) counters)
    ∙ ap (λ (l : List Piece). l ++ (filter (is_put_there false) base ++ filter (is_put_there false) counters)) front
    ∙ ap (λ (l : List Piece). busy (filter is_before (counters ++ base)) ++ l) back
    ∙ sym (filter-append has_some (filter is_before (counters ++ base)) (filter is_behind (base ++ counters)))
