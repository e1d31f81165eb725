-- All items that stand.
use Rattle.std.proofs.Common.{◌≡◌, ℕ, cond, Bool, true, false, Option, Some, None, List, [], ◌++◌, length, refl, sym, ap, ◌∙◌, arith}
use Rattle.std.specs.Prelude.{reverse}
use Rattle.std.specs.List.{list_any, range_with_len, AllByRecursion}
use Rattle.mdl_ast.specs.declared.items.Item.{Item}
use Rattle.directives.specs.Standing.{slot, items_in_slots, items_left, count, order, standing, is_place}
use Rattle.directives.proofs.Slots.{Passes, Slots, all_taken, any_taken, at, count_left, in_order, left_at, length_left, none_counted, some_taken, taken_alike, taken_both}

pub all_gone : (slots : Slots) (moved : List ℕ) (k : ℕ) → slot (items_left (order slots moved) slots) k ≡ None
all_gone slots moved k = left_at (order slots moved) slots k ∙ by (slot slots k) refl
  where
    by : (o : Option Item) → slot slots k ≡ o → cond (is_place (order slots moved) k) None (slot slots k) ≡ None
    by None e = ap (cond (is_place (order slots moved) k) None) e ∙ same (is_place (order slots moved) k)
      where
        nothing : Option Item
        nothing = None

        same : (b : Bool) → cond b nothing None ≡ None
        same true = refl
        same false = refl
    by (Some x) e = ap (λ (b : Bool). cond b None (slot slots k)) (in_order slots moved k x e)

pub standing_count : (slots : Slots) (moved : List ℕ) → length (standing slots moved) ≡ count slots
unfolding standing
standing_count slots moved = omega (arith, count_left (order slots moved) slots, none_counted (items_left (order slots moved) slots) (all_gone slots moved))

pub any_standing : (q : Item → Bool) (slots : Slots) (moved : List ℕ) (k : ℕ) (x : Item) → slot slots k ≡ Some x → q x ≡ true → list_any q (standing slots moved) ≡ true
unfolding standing
any_standing q slots moved k x s e = any_taken q (order slots moved) slots k x (in_order slots moved k x s) s e

pub some_standing : (q : Item → Bool) (slots : Slots) (moved : List ℕ) → list_any q (standing slots moved) ≡ true → Passes q slots
unfolding standing
some_standing q slots moved h = some_taken q (order slots moved) slots h

pub all_standing : (P : Item → Type 0) (slots : Slots) (moved : List ℕ) → ((k : ℕ) (x : Item) → slot slots k ≡ Some x → P x) → AllByRecursion P (standing slots moved)
unfolding standing
all_standing P slots moved f = all_taken P (order slots moved) slots (λ k x p e. f k x e)

pub standing_alike : (g : List Item → List Item) → g [] ≡ [] → ((xs ys : List Item) → g (xs ++ ys) ≡ g xs ++ g ys) → (old new : Slots) (moved : List ℕ) → length new ≡ length old → ((k : ℕ) → at new k ≡ g (at old k)) →
    standing new moved ≡ g (standing old moved)
unfolding standing
standing_alike g none both old new moved len f = ap (λ (n : ℕ). items_in_slots (reverse moved ++ range_with_len 0 n) new) len ∙ taken_alike g none both (order old moved) old new f

pub standing_by_parts : (slots : Slots) (moved : List ℕ) → items_in_slots (reverse moved) slots ++ items_in_slots (range_with_len 0 (length (items_left (reverse moved) slots))) (items_left (reverse moved) slots) ≡ standing slots moved
unfolding standing
standing_by_parts slots moved = ap (λ (n : ℕ). items_in_slots (reverse moved) slots ++ items_in_slots (range_with_len 0 n) (items_left (reverse moved) slots)) (length_left (reverse moved) slots) ∙ sym (taken_both slots (reverse moved) (range_with_len 0 (length slots)))
