-- An item is its own ancestor only if a child of it is.
use Rattle.std.proofs.Common.{◌≡◌, ℕ, zero, suc, ◌<◌, ◌==◌, ◌||◌, Bool, true, false, Option, Some, None, List, length, slice_get, refl, sym, ap, ◌∙◌, arith, eqb-true, eq-eqb}
use Rattle.std.specs.Option.{option_and_then}
use Rattle.std.proofs.lemmas.Option.{slice_get_within}
use Rattle.mdl_check.specs.Rules.{parent_at, leads_to, is_cyclic}

pub clash : (b : Bool) → b ≡ true → b ≡ false → ⊥
clash true h g = cc
clash false h g = cc

pub has_place : (parents : List (Option ℕ)) (place parent : ℕ) → parent_at parents place ≡ Some parent → place < length parents
has_place parents place parent h = by (slice_get parents place) refl h
  where
    by : (o : Option (Option ℕ)) → slice_get parents place ≡ o → option_and_then (λ parent. parent) o ≡ Some parent → place < length parents
    by None e g = absurd cc
    by (Some p) e g = slice_get_within parents place p e

-- that many generations above
abbrev pub up : List (Option ℕ) → ℕ → Option ℕ → Option ℕ
up parents zero next = next
up parents (suc k) next = up parents k (option_and_then (parent_at parents) next)

pub above_none : (parents : List (Option ℕ)) (k : ℕ) → up parents k None ≡ None
above_none parents zero = refl
above_none parents (suc k) = above_none parents k

-- the last generation is above the one before
last_up : (parents : List (Option ℕ)) (k : ℕ) (next : Option ℕ) → up parents (suc k) next ≡ option_and_then (parent_at parents) (up parents k next)
last_up parents zero next = refl
last_up parents (suc k) next = last_up parents k (option_and_then (parent_at parents) next)

pub record Up (parents : List (Option ℕ)) (n sought : ℕ) (next : Option ℕ) : Type 0 where
  pub steps : ℕ
  pub few : steps < n
  pub there : up parents steps next ≡ Some sought

pub steps_of : (parents : List (Option ℕ)) (n sought : ℕ) (next : Option ℕ) → leads_to parents n sought next ≡ true → Up parents n sought next
steps_of parents zero sought next h = absurd cc
steps_of parents (suc n) sought None h = absurd cc
steps_of parents (suc n) sought (Some a) h = by (a == sought) refl h (steps_of parents n sought (parent_at parents a))
  where
    by : (b : Bool) → (a == sought) ≡ b → (b || leads_to parents n sought (parent_at parents a)) ≡ true → (leads_to parents n sought (parent_at parents a) ≡ true → Up parents n sought (parent_at parents a)) → Up parents (suc n) sought (Some a)
    by true e g f = record { steps = 0; few = omega arith; there = ap Some (eqb-true a sought e) }
    by false e g f = let u = f g in record { steps = suc u.steps; few = omega (arith, u.few); there = u.there }

or_true : (b c : Bool) → c ≡ true → (b || c) ≡ true
or_true true c h = refl
or_true false c h = h

pub leads : (parents : List (Option ℕ)) (k n sought : ℕ) (next : Option ℕ) → k < n → up parents k next ≡ Some sought → leads_to parents n sought next ≡ true
leads parents k zero sought next h e = absurd (omega (arith, h))
leads parents zero (suc n) sought next h e = ap (leads_to parents (suc n) sought) e ∙ ap (λ (b : Bool). b || leads_to parents n sought (parent_at parents sought)) (eq-eqb sought sought refl)
leads parents (suc k) (suc n) sought None h e = let f = sym (above_none parents k) ∙ e in absurd cc
leads parents (suc k) (suc n) sought (Some a) h e = or_true (a == sought) (leads_to parents n sought (parent_at parents a)) (leads parents k n sought (parent_at parents a) (omega (arith, h)) e)

pub record CyclicChild (parents : List (Option ℕ)) (place : ℕ) : Type 0 where
  pub child : ℕ
  pub parent : parent_at parents child ≡ Some place
  pub cyclic : is_cyclic parents child ≡ true

-- the last of the ancestors before the item itself
pub cyclic_child : (parents : List (Option ℕ)) (place : ℕ) → is_cyclic parents place ≡ true → CyclicChild parents place
cyclic_child parents place h = by u.steps u.few u.there
  where
    u : Up parents (length parents) place (parent_at parents place)
    u = steps_of parents (length parents) place (parent_at parents place) h

    before : (k : ℕ) (o : Option ℕ) → suc k < length parents → up parents k (parent_at parents place) ≡ o → option_and_then (parent_at parents) o ≡ Some place → CyclicChild parents place
    before k None few e g = absurd cc
    before k (Some c) few e g = record {
      child = c;
      parent = g;
      cyclic = leads parents (suc k) (length parents) c (parent_at parents c) few (ap (up parents (suc k)) g ∙ e);
    }

    by : (k : ℕ) → k < length parents → up parents k (parent_at parents place) ≡ Some place → CyclicChild parents place
    by zero few e = record { child = place; parent = e; cyclic = h }
    by (suc k) few e = before k (up parents k (parent_at parents place)) few refl (sym (last_up parents k (parent_at parents place)) ∙ e)
