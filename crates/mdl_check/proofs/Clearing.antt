-- Items that are cleared.
use Rattle.std.proofs.Common.{◌≡◌, ℕ, zero, suc, ◌+◌, ◌<◌, ◌==◌, ◌||◌, Bool, true, false, Option, Some, None, List, [], ◌∷◌, ◌++◌, length, map, replicate, set, get_or, refl, sym, ap, ◌∙◌, subst, arith, eqb-true, eq-eqb}
use Rattle.std.proofs.Math.Bool.{or-true}
use Rattle.std.proofs.lemmas.List.{get_or-map, get_or-set_same, get_or-set_other, length-map, length-replicate, length-set, map-set}
use Rattle.std.proofs.lemmas.List.Folds.{list_any-append}
use Rattle.std.specs.Prelude.{slice_index_or}
use Rattle.mdl_check.specs.Rules.{parent_at, is_cyclic}
use Rattle.mdl_check.specs.Ancestry.{has, is_clear, noted, HaveChildren, KeepsOthers, IsAncestry}
use Rattle.mdl_check.proofs.Cycles.{clash, has_place, cyclic_child}

decided : (b : Bool) → (b ≡ true → ⊥) → b ≡ false
decided true h = absurd (h refl)
decided false h = refl

earlier : (child n : ℕ) → child < n + 1 → (child == n) ≡ false → child < n
earlier child n below e = omega (arith, below, λ (s : child ≡ n). clash (child == n) (eq-eqb child n s) e)

-- an item without a child that may be its own ancestor isn't its own
pub childless : (parents : List (Option ℕ)) (children : List (List ℕ)) (clear : List Bool) (place : ℕ) → IsAncestry parents children clear → place < length children → slice_index_or children place [] ≡ []
    → is_cyclic parents place ≡ false
childless parents children clear place h few none = decided (is_cyclic parents place) (λ cyclic.
    let c = cyclic_child parents place cyclic in
    let known : is_clear clear c.child ≡ true = ap (λ (l : List ℕ). has l c.child || is_clear clear c.child) (sym none) ∙ h.children_stand c.child place few c.parent in
    clash (is_cyclic parents c.child) c.cyclic (h.clear_are c.child known))

-- ---- the children of each item

last_stands : (l : List ℕ) (c : ℕ) → has (l ++ c ∷ []) c ≡ true
last_stands l c = list_any-append (λ p. p == c) l (c ∷ []) ∙ ap (λ (b : Bool). has l c || (b || false)) (eq-eqb c c refl) ∙ or-true (has l c)

still_stands : (l : List ℕ) (c d : ℕ) → has l c ≡ true → has (l ++ d ∷ []) c ≡ true
still_stands l c d h = list_any-append (λ p. p == c) l (d ∷ []) ∙ ap (λ (b : Bool). b || has (d ∷ []) c) h

-- the list that stands at p where the one at q is replaced
list_at : (children : List (List ℕ)) (q p : ℕ) (l : List ℕ) → p < length children → (P : List ℕ → Type 0) → (p ≡ q → P l) → ((p ≡ q → ⊥) → P (slice_index_or children p [])) → P (slice_index_or (set children q l) p [])
list_at children q p l few P here there = by (p == q) refl
  where
    by : (b : Bool) → (p == q) ≡ b → P (slice_index_or (set children q l) p [])
    by true e = let same : p ≡ q = eqb-true p q e in subst P (sym (ap (λ (i : ℕ). slice_index_or (set children q l) i []) same ∙ get_or-set_same children q l [] (omega (arith, few, same)))) (here same)
    by false e = let other : p ≡ q → ⊥ = λ s. clash (p == q) (eq-eqb p q s) e in subst P (sym (get_or-set_other children q p l [] other)) (there other)

pub one_more_child : (parents : List (Option ℕ)) (children : List (List ℕ)) (n : ℕ) → HaveChildren n parents children → HaveChildren (n + 1) parents (noted (parent_at parents n) n children)
one_more_child parents children n h = by (parent_at parents n) refl
  where
    by : (o : Option ℕ) → parent_at parents n ≡ o → HaveChildren (n + 1) parents (noted o n children)
    by None e child p below few at = from (child == n) refl
      where
        from : (b : Bool) → (child == n) ≡ b → has (slice_index_or children p []) child ≡ true
        from true s = let same : child ≡ n = eqb-true child n s in let g = sym e ∙ ap (parent_at parents) (sym same) ∙ at in absurd cc
        from false s = h child p (earlier child n below s) few at
    by (Some q) e child p below few at = list_at children q p (slice_index_or children q [] ++ n ∷ []) fits (λ l. has l child ≡ true) here there
      where
        fits : p < length children
        fits = omega (arith, few, length-set children q (slice_index_or children q [] ++ n ∷ []))

        here : p ≡ q → has (slice_index_or children q [] ++ n ∷ []) child ≡ true
        here same = from (child == n) refl
          where
            from : (b : Bool) → (child == n) ≡ b → has (slice_index_or children q [] ++ n ∷ []) child ≡ true
            from true s = subst (λ (c : ℕ). has (slice_index_or children q [] ++ n ∷ []) c ≡ true) (sym (eqb-true child n s)) (last_stands (slice_index_or children q []) n)
            from false s = still_stands (slice_index_or children q []) child n (subst (λ (i : ℕ). has (slice_index_or children i []) child ≡ true) same (h child p (earlier child n below s) fits at))

        there : (p ≡ q → ⊥) → has (slice_index_or children p []) child ≡ true
        there other = from (child == n) refl
          where
            from : (b : Bool) → (child == n) ≡ b → has (slice_index_or children p []) child ≡ true
            from true s = let g : Some q ≡ Some p = sym e ∙ ap (parent_at parents) (sym (eqb-true child n s)) ∙ at in absurd (other cc)
            from false s = h child p (earlier child n below s) fits at

-- ---- what is cleared

kept_or : (a b c : Bool) → (a ≡ true → (c || b) ≡ true) → (a || b) ≡ true → (c || b) ≡ true
kept_or true b c f h = f refl
kept_or false true true f h = refl
kept_or false true false f h = refl
kept_or false false c f h = absurd cc

pub dropped : (parents : List (Option ℕ)) (children : List (List ℕ)) (clear : List Bool) (place : ℕ) (l : List ℕ) → IsAncestry parents children clear → place < length children
    → KeepsOthers clear (slice_index_or children place []) l → IsAncestry parents (set children place l) clear
dropped parents children clear place l h within keeps = record {
  many = length-set children place l ∙ h.many;
  many_clear = h.many_clear;
  children_stand = λ child p few at.
      let fits : p < length children = omega (arith, few, length-set children place l) in
      list_at children place p l fits (λ m. (has m child || is_clear clear child) ≡ true)
      (λ same. kept_or (has (slice_index_or children place []) child) (is_clear clear child) (has l child) (keeps child)
      (subst (λ (i : ℕ). (has (slice_index_or children i []) child || is_clear clear child) ≡ true) same (h.children_stand child p fits at)))
      (λ other. h.children_stand child p fits at);
  clear_are = h.clear_are;
}

or_more : (a b c : Bool) → (b ≡ true → c ≡ true) → (a || b) ≡ true → (a || c) ≡ true
or_more true b c f h = refl
or_more false b c f h = f h

pub marked : (parents : List (Option ℕ)) (children : List (List ℕ)) (clear : List Bool) (place : ℕ) → IsAncestry parents children clear → place < length children
    → slice_index_or children place [] ≡ [] → IsAncestry parents children (set clear place true)
marked parents children clear place h within none = record {
  many = h.many;
  many_clear = length-set clear place true ∙ h.many_clear;
  children_stand = λ child p few at. or_more (has (slice_index_or children p []) child) (is_clear clear child) (is_clear (set clear place true) child) (stays child) (h.children_stand child p few at);
  clear_are = λ q. from q (q == place) refl;
}
  where
    here : is_clear (set clear place true) place ≡ true
    here = get_or-set_same clear place true false (omega (arith, within, h.many, h.many_clear))

    stays : (child : ℕ) → is_clear clear child ≡ true → is_clear (set clear place true) child ≡ true
    stays child g = by (child == place) refl
      where
        by : (b : Bool) → (child == place) ≡ b → is_clear (set clear place true) child ≡ true
        by true e = ap (is_clear (set clear place true)) (eqb-true child place e) ∙ here
        by false e = get_or-set_other clear place child true false (λ s. clash (child == place) (eq-eqb child place s) e) ∙ g

    from : (q : ℕ) (b : Bool) → (q == place) ≡ b → is_clear (set clear place true) q ≡ true → is_cyclic parents q ≡ false
    from q true e g = ap (is_cyclic parents) (eqb-true q place e) ∙ childless parents children clear place h within none
    from q false e g = h.clear_are q (sym (get_or-set_other clear place q true false (λ s. clash (q == place) (eq-eqb q place s) e)) ∙ g)

-- nothing is dropped, and what is dropped is clear
pub keeps_all : (clear : List Bool) (l : List ℕ) → KeepsOthers clear l l
keeps_all clear l child h = ap (λ (b : Bool). b || is_clear clear child) h

pub drops_last : (clear : List Bool) (old l : List ℕ) (c : ℕ) → KeepsOthers clear old (l ++ c ∷ []) → is_clear clear c ≡ true → KeepsOthers clear old l
drops_last clear old l c keeps known child h = by (has l child) (c == child) refl (list_any-append (λ p. p == child) l (c ∷ [])) (keeps child h)
  where
    by : (a b : Bool) → (c == child) ≡ b → has (l ++ c ∷ []) child ≡ (a || (b || false)) → (has (l ++ c ∷ []) child || is_clear clear child) ≡ true → (a || is_clear clear child) ≡ true
    by true b e s g = refl
    by false true e s g = ap (is_clear clear) (sym (eqb-true c child e)) ∙ known
    by false false e s g = sym (ap (λ (x : Bool). x || is_clear clear child) s) ∙ g

-- ---- lists in their places

pub put_last : {V : Type 0} (items : V → List ℕ) (vs : List V) (q i : ℕ) (v w : V) → q < length vs → v ≡ get_or vs q v → items w ≡ items v ++ i ∷ [] → map items (set vs q w) ≡ noted (Some q) i (map items vs)
put_last items vs q i v w lt is e = map-set items vs q w ∙ ap (set (map items vs) q) (e ∙ ap (λ (l : List ℕ). l ++ i ∷ []) (ap items is ∙ sym (get_or-map items vs q v [] lt)))

pub noted_many : (o : Option ℕ) (i : ℕ) (children : List (List ℕ)) → length (noted o i children) ≡ length children
noted_many None i children = refl
noted_many (Some q) i children = length-set children q (slice_index_or children q [] ++ i ∷ [])

pub dropped_there : {V : Type 0} (items : V → List ℕ) (parents : List (Option ℕ)) (vs : List V) (clear : List Bool) (place : ℕ) (v w : V) → IsAncestry parents (map items vs) clear → place < length vs → v ≡ get_or vs place v
    → KeepsOthers clear (items v) (items w) → IsAncestry parents (map items (set vs place w)) clear
dropped_there items parents vs clear place v w h lt is keeps =
    subst (λ (l : List (List ℕ)). IsAncestry parents l clear) (sym (map-set items vs place w))
    (dropped parents (map items vs) clear place (items w) h (omega (arith, lt, length-map vs items)) (subst (λ (l : List ℕ). KeepsOthers clear l (items w)) (ap items is ∙ sym (get_or-map items vs place v [] lt)) keeps))

nothing : (l : List ℕ) → length l ≡ 0 → l ≡ []
nothing [] h = refl
nothing (x ∷ xs) h = absurd (omega (arith, h))

pub marked_there : {V : Type 0} (items : V → List ℕ) (parents : List (Option ℕ)) (vs : List V) (clear : List Bool) (place : ℕ) (w : V) → IsAncestry parents (map items (set vs place w)) clear → place < length vs → length (items w) ≡ 0
    → IsAncestry parents (map items (set vs place w)) (set clear place true)
marked_there items parents vs clear place w h lt none =
    marked parents (map items (set vs place w)) clear place h (omega (arith, lt, length-map (set vs place w) items, length-set vs place w))
    (ap (λ (l : List (List ℕ)). slice_index_or l place []) (map-set items vs place w) ∙ get_or-set_same (map items vs) place (items w) [] (omega (arith, lt, length-map vs items)) ∙ nothing (items w) none)

none_clear : (n place : ℕ) → is_clear (replicate n false) place ≡ false
none_clear zero place = refl
none_clear (suc n) zero = refl
none_clear (suc n) (suc place) = none_clear n place

pub at_first : (parents : List (Option ℕ)) (children : List (List ℕ)) (clear : List Bool) → length children ≡ length parents → HaveChildren (length parents) parents children → clear ≡ replicate (length parents) false → IsAncestry parents children clear
at_first parents children clear many h are = record {
  many = many;
  many_clear = ap length are ∙ length-replicate (length parents) false;
  children_stand = λ child p few at. ap (λ (b : Bool). b || is_clear clear child) (h child p (has_place parents child p at) few at);
  clear_are = λ place known. absurd (clash (is_clear clear place) known (ap (λ (l : List Bool). is_clear l place) are ∙ none_clear (length parents) place));
}
