-- An item that is its own ancestor is so within as many generations as there are items.
use Rattle.std.proofs.Common.{◌≡◌, ℕ, zero, suc, ◌+◌, ◌-◌, ◌<◌, ◌≤◌, ◌==◌, ◌||◌, eqb, Bool, true, false, Option, Some, None, List, [], ◌∷◌, length, refl, sym, ap, ◌∙◌, arith, eqb-true}
use Rattle.std.specs.List.{list_any, AllByRecursion, IsDistinct}
use Rattle.std.specs.Option.{option_and_then}
use Rattle.std.proofs.lemmas.Bool.{or_parts}
use Rattle.std.proofs.lemmas.Map.Steps.{length-le_from_distinct_below}
use Rattle.mdl_check.specs.Ancestors.{IsAncestor, Parent, Higher, CyclicIsOwnAncestor}
use Rattle.mdl_check.specs.Rules.{parent_at, leads_to, is_cyclic}
use Rattle.mdl_check.proofs.Cycles.{clash, has_place, up, above_none, steps_of, leads}

module _ (parents : List (Option ℕ)) where
  -- ---- a number of generations, and the relation

  generation : (a p : ℕ) → IsAncestor parents a p → (k : ℕ) × (up parents k (parent_at parents p) ≡ Some a)
  generation a p (Parent q h) = (0, h)
  generation a p (Higher q r h higher) = let u = generation a r higher in (suc u.0, ap (λ (o : Option ℕ). up parents u.0 (option_and_then (parent_at parents) o)) h ∙ u.1)

  related : (a k p : ℕ) → up parents k (parent_at parents p) ≡ Some a → IsAncestor parents a p
  related a zero p e = Parent p e
  related a (suc k) p e = by (parent_at parents p) refl (λ q. related a k q)
    where
      by : (o : Option ℕ) → parent_at parents p ≡ o → ((q : ℕ) → up parents k (parent_at parents q) ≡ Some a → IsAncestor parents a q) → IsAncestor parents a p
      by None h f = let g = sym (ap (up parents (suc k)) h ∙ above_none parents (suc k)) ∙ e in absurd cc
      by (Some q) h f = Higher p q h (f q (sym (ap (up parents (suc k)) h) ∙ e))

  -- ---- the first time

  -- those from an item on, k generations above it and no more
  abbrev from : ℕ → Option ℕ → List ℕ
  from k None = []
  from zero (Some a) = a ∷ []
  from (suc k) (Some a) = a ∷ from k (parent_at parents a)

  -- one of them is in the first k generations
  found : (q k : ℕ) (o : Option ℕ) → list_any (eqb q) (from k o) ≡ true → (j : ℕ) × (j ≤ k) × (up parents j o ≡ Some q)
  found q k None h = absurd cc
  found q zero (Some a) h = (0, omega arith, ap Some (sym (eqb-true q a (last (eqb q a) h))))
    where
      last : (b : Bool) → (b || false) ≡ true → b ≡ true
      last true g = refl
      last false g = g
  found q (suc k) (Some a) h = by (eqb q a) refl h (found q k (parent_at parents a))
    where
      by : (b : Bool) → eqb q a ≡ b → (b || list_any (eqb q) (from k (parent_at parents a))) ≡ true → (list_any (eqb q) (from k (parent_at parents a)) ≡ true → (j : ℕ) × (j ≤ k) × (up parents j (parent_at parents a) ≡ Some q)) →
          (j : ℕ) × (j ≤ suc k) × (up parents j (Some a) ≡ Some q)
      by true e g f = (0, omega arith, ap Some (sym (eqb-true q a e)))
      by false e g f = let r = f g in (suc r.0, omega (arith, r.1), r.2)

  -- generations above generations
  as_many : (m n : ℕ) (o : Option ℕ) → m ≡ n → up parents m o ≡ up parents n o
  as_many m n o h = ap (λ (i : ℕ). up parents i o) h

  further : (j k : ℕ) (o : Option ℕ) → up parents (j + k) o ≡ up parents k (up parents j o)
  further zero k o = as_many (zero + k) k o (omega arith)
  further (suc j) k o = as_many (suc j + k) (suc (j + k)) o (omega arith) ∙ further j k (option_and_then (parent_at parents) o)

  none_of : (q : ℕ) (l : List ℕ) → (list_any (eqb q) l ≡ true → ⊥) → AllByRecursion (λ y. eqb q y ≡ false) l
  none_of q [] h = tt
  none_of q (x ∷ l) h = by (eqb q x) refl h (none_of q l)
    where
      by : (b : Bool) → eqb q x ≡ b → ((b || list_any (eqb q) l) ≡ true → ⊥) → ((list_any (eqb q) l ≡ true → ⊥) → AllByRecursion (λ y. eqb q y ≡ false) l) → AllByRecursion (λ y. eqb q y ≡ false) (x ∷ l)
      by true e g f = absurd (g refl)
      by false e g f = (e, f g)

  -- where none before the last is the one sought, no two are one
  distinct : (p k : ℕ) (o : Option ℕ) → leads_to parents k p o ≡ false → up parents k o ≡ Some p → IsDistinct eqb (from k o)
  unfolding IsDistinct
  distinct p k None not_yet e = tt
  distinct p zero (Some a) not_yet e = (tt, tt)
  distinct p (suc k) (Some a) not_yet e =
      let parts = or_parts (a == p) (leads_to parents k p (parent_at parents a)) not_yet in (
        none_of a (from k (parent_at parents a)) (λ again.
            let r = found a k (parent_at parents a) again in
            let rest : up parents (k - r.0) (Some a) ≡ Some p = ap (up parents (k - r.0)) (sym r.2) ∙ sym (further r.0 (k - r.0) (parent_at parents a)) ∙ as_many (r.0 + (k - r.0)) k (parent_at parents a) (omega (arith, r.1)) ∙ e in
            clash (leads_to parents (suc k) p (Some a)) (leads parents (k - r.0) (suc k) p (Some a) (omega arith) rest) not_yet),
        distinct p k (parent_at parents a) parts.1 e,
      )

  -- each has a parent
  below : (p k : ℕ) (o : Option ℕ) → p < length parents → up parents k o ≡ Some p → (q : ℕ) → list_any (eqb q) (from k o) ≡ true → q < length parents
  below p k o few e q h = by (k - r.0) refl
    where
      r : (j : ℕ) × (j ≤ k) × (up parents j o ≡ Some q)
      r = found q k o h

      above : (n : ℕ) → k - r.0 ≡ n → up parents n (Some q) ≡ Some p
      above n s = ap (up parents n) (sym r.2) ∙ sym (further r.0 n o) ∙ as_many (r.0 + n) k o (omega (arith, r.1, s)) ∙ e

      parent : (n : ℕ) (t : Option ℕ) → parent_at parents q ≡ t → up parents n t ≡ Some p → q < length parents
      parent n None s g = let f = sym (above_none parents n) ∙ g in absurd cc
      parent n (Some a) s g = has_place parents q a s

      by : (n : ℕ) → k - r.0 ≡ n → q < length parents
      by zero s = let same : Some q ≡ Some p = above 0 s in let is : q ≡ p = cc in omega (arith, is, few)
      by (suc n) s = parent n (parent_at parents q) refl (above (suc n) s)

  from_length : (p k : ℕ) (o : Option ℕ) → up parents k o ≡ Some p → length (from k o) ≡ k + 1
  from_length p k None e = let f = sym (above_none parents k) ∙ e in absurd cc
  from_length p zero (Some a) e = omega arith
  from_length p (suc k) (Some a) e = omega (arith, from_length p k (parent_at parents a) e)

  returns_early : (p k fuel : ℕ) → k < fuel → up parents k (parent_at parents p) ≡ Some p → is_cyclic parents p ≡ true
  returns_early p k zero lt e = absurd (omega (arith, lt))
  returns_early p k (suc fuel) lt e = by (leads_to parents k p (parent_at parents p)) refl (λ j. returns_early p j fuel)
    where
      has_parent : (o : Option ℕ) → parent_at parents p ≡ o → up parents k o ≡ Some p → p < length parents
      has_parent None s g = let f = sym (above_none parents k) ∙ g in absurd cc
      has_parent (Some a) s g = has_place parents p a s

      by : (b : Bool) → leads_to parents k p (parent_at parents p) ≡ b → ((j : ℕ) → j < fuel → up parents j (parent_at parents p) ≡ Some p → is_cyclic parents p ≡ true) → is_cyclic parents p ≡ true
      by true h again = let u = steps_of parents k p (parent_at parents p) h in again u.steps (omega (arith, u.few, lt)) u.there
      by false h again =
          let many = length-le_from_distinct_below (from k (parent_at parents p)) (length parents) (distinct p k (parent_at parents p) h e) (below p k (parent_at parents p) (has_parent (parent_at parents p) refl e) e) in
          leads parents k (length parents) p (parent_at parents p) (omega (arith, many, from_length p k (parent_at parents p) e)) e

pub own_ancestors : CyclicIsOwnAncestor
own_ancestors parents place = (
  λ cyclic. let u = steps_of parents (length parents) place (parent_at parents place) cyclic in related parents place u.steps place u.there,
  λ above. let u = generation parents place place above in returns_early parents place u.0 (suc u.0) (omega arith) u.1,
)
