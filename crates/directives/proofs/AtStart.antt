-- The items at the start: what stands at each place, and the places under each name.
use Rattle.std.proofs.Common.{◌≡◌, ℕ, zero, suc, ◌+◌, ◌<◌, ◌||◌, cond, Bool, true, false, Option, Some, None, List, [], ◌∷◌, ◌++◌, length, map, eq-eqb, refl, sym, ap, ap₂, ◌∙◌, arith}
use Rattle.std.specs.Prelude.{option_to_list}
use Rattle.std.specs.List.{filter, range_with_len}
use Rattle.std.proofs.lemmas.Bool.{ne_eqb}
use Rattle.std.proofs.lemmas.List.{append_assoc, length-append}
use Rattle.first_places.specs.Numbers.{with_number}
use Rattle.mdl_ast.specs.declared.items.Item.{Item}
use Rattle.directives.specs.Hypotheses.{is_named}
use Rattle.directives.specs.Standing.{slot, without, items_in_slots, standing, is_child, is_place, ArePlaces, HaveOwnNames, places_where}
use Rattle.directives.proofs.Slots.{Slots}

pub where_more : (t : Item → Bool) (a : ℕ) (xs : List Item) (x : Item) → places_where t a (xs ++ x ∷ []) ≡ with_number (t x) (a + length xs) (places_where t a xs)
where_more t a [] x = by (t x)
  where
    by : (b : Bool) → cond b (a ∷ []) [] ++ [] ≡ cond b ([] ++ (a + 0) ∷ []) []
    by true = ap (λ (k : ℕ). k ∷ []) (omega arith)
    by false = refl
where_more t a (y ∷ ys) x = ap (λ (l : List ℕ). cond (t y) (a ∷ []) [] ++ l) (where_more t (a + 1) ys x) ∙ by (t x)
  where
    by : (b : Bool) → cond (t y) (a ∷ []) [] ++ with_number b (a + 1 + length ys) (places_where t (a + 1) ys) ≡ with_number b (a + length (y ∷ ys)) (cond (t y) (a ∷ []) [] ++ places_where t (a + 1) ys)
    by true = let k : a + 1 + length ys ≡ a + length (y ∷ ys) = omega arith in
        sym (append_assoc (cond (t y) (a ∷ []) []) (places_where t (a + 1) ys) ((a + 1 + length ys) ∷ [])) ∙ ap (λ (n : ℕ). (cond (t y) (a ∷ []) [] ++ places_where t (a + 1) ys) ++ n ∷ []) k
    by false = refl

not_before : (t : Item → Bool) (a k : ℕ) (xs : List Item) → k < a → is_place (places_where t a xs) k ≡ false
not_before t a k [] l = refl
not_before t a k (x ∷ xs) l = by (t x) (not_before t (a + 1) k xs (omega arith))
  where
    by : (b : Bool) → is_place (places_where t (a + 1) xs) k ≡ false → is_place (cond b (a ∷ []) [] ++ places_where t (a + 1) xs) k ≡ false
    by true h = ap (λ (c : Bool). c || is_place (places_where t (a + 1) xs) k) (ne_eqb a k (λ e. absurd (omega (arith, e)))) ∙ h
    by false h = h

where_at : (t : Item → Bool) (a k : ℕ) (xs : List Item) (x : Item) → slot (map Some xs) k ≡ Some x → t x ≡ is_place (places_where t a xs) (a + k)
where_at t a k [] x e = absurd cc
where_at t a zero (y ∷ ys) x e =
    let one : y ≡ x = cc in
    let here : a + 0 ≡ a = omega arith in
    ap t (sym one) ∙ by (t y) (not_before t (a + 1) a ys (omega arith)) ∙ ap (is_place (cond (t y) (a ∷ []) [] ++ places_where t (a + 1) ys)) (sym here)
  where
    by : (b : Bool) → is_place (places_where t (a + 1) ys) a ≡ false → b ≡ is_place (cond b (a ∷ []) [] ++ places_where t (a + 1) ys) a
    by true h = sym (ap (λ (c : Bool). c || is_place (places_where t (a + 1) ys) a) (eq-eqb a a refl))
    by false h = sym h
where_at t a (suc k) (y ∷ ys) x e =
    let there : a + 1 + k ≡ a + suc k = omega arith in
    where_at t (a + 1) k ys x e ∙ ap (is_place (places_where t (a + 1) ys)) there ∙ by (t y)
  where
    by : (b : Bool) → is_place (places_where t (a + 1) ys) (a + suc k) ≡ is_place (cond b (a ∷ []) [] ++ places_where t (a + 1) ys) (a + suc k)
    by true = sym (ap (λ (c : Bool). c || is_place (places_where t (a + 1) ys) (a + suc k)) (ne_eqb a (a + suc k) (λ e. absurd (omega (arith, e)))))
    by false = refl

where_length : (t : Item → Bool) (a : ℕ) (xs : List Item) → length (places_where t a xs) ≡ length (filter t xs)
where_length t a [] = refl
where_length t a (x ∷ xs) = by (t x) (where_length t (a + 1) xs)
  where
    by : (b : Bool) → length (places_where t (a + 1) xs) ≡ length (filter t xs) → length (cond b (a ∷ []) [] ++ places_where t (a + 1) xs) ≡ length (cond b (x ∷ filter t xs) (filter t xs))
    by true h = ap suc h
    by false h = h

pub places_at_first : (xs : List Item) (named children : List ℕ → List ℕ) → HaveOwnNames xs → ((name : List ℕ) → named name ≡ places_where (is_named name) 0 xs) → ((name : List ℕ) → children name ≡ places_where (is_child name) 0 xs) →
    ArePlaces (map Some xs) named children
places_at_first xs named children own n c = record {
  by_name = λ name k x e. where_at (is_named name) 0 k xs x e ∙ ap₂ is_place (sym (n name)) (zero_more k);
  once = λ name. omega (arith, own name, ap length (n name), where_length (is_named name) 0 xs);
  by_parent = λ name k x e. where_at (is_child name) 0 k xs x e ∙ ap₂ is_place (sym (c name)) (zero_more k);
}
  where
    zero_more : (k : ℕ) → 0 + k ≡ k
    zero_more k = omega arith

slot_behind : (before slots : Slots) → slot (before ++ slots) (length before) ≡ slot slots 0
slot_behind [] slots = refl
slot_behind (s ∷ before) slots = slot_behind before slots

without_behind : (before slots : Slots) (s : Option Item) → without (before ++ s ∷ slots) (length before) ≡ before ++ None ∷ slots
without_behind [] slots s = refl
without_behind (b ∷ before) slots s = ap (λ (l : Slots). b ∷ l) (without_behind before slots s)

taken_whole : (before : Slots) (xs : List Item) (a : ℕ) → a ≡ length before → items_in_slots (range_with_len a (length xs)) (before ++ map Some xs) ≡ xs
taken_whole before [] a e = refl
taken_whole before (x ∷ xs) a e =
    let here : slot (before ++ map Some (x ∷ xs)) a ≡ Some x = ap (slot (before ++ map Some (x ∷ xs))) e ∙ slot_behind before (map Some (x ∷ xs)) in
    let rest : without (before ++ map Some (x ∷ xs)) a ≡ (before ++ None ∷ []) ++ map Some xs =
    ap (without (before ++ map Some (x ∷ xs))) e ∙ without_behind before (map Some xs) (Some x) ∙ sym (append_assoc before (None ∷ []) (map Some xs)) in
    ap (λ (o : Option Item). option_to_list o ++ items_in_slots (range_with_len (a + 1) (length xs)) (without (before ++ map Some (x ∷ xs)) a)) here
    ∙ ap (λ (s : Slots). x ∷ items_in_slots (range_with_len (a + 1) (length xs)) s) rest
    ∙ ap (λ (l : List Item). x ∷ l) (taken_whole (before ++ None ∷ []) xs (a + 1) (omega (arith, e, length-append before (None ∷ []))))

pub length_some : (xs : List Item) → length (map Some xs) ≡ length xs
length_some [] = refl
length_some (x ∷ xs) = ap suc (length_some xs)

pub standing_at_first : (xs : List Item) → standing (map Some xs) [] ≡ xs
unfolding standing
standing_at_first xs = ap (λ (n : ℕ). items_in_slots (range_with_len 0 n) (map Some xs)) (length_some xs) ∙ taken_whole [] xs 0 refl
