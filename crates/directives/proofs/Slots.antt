-- What stands at places, where some is taken out.
use Rattle.std.proofs.Common.{◌≡◌, ℕ, zero, suc, ◌+◌, ◌<◌, ◌≤◌, ◌==◌, ◌||◌, ◌⊎◌, inl, inr, cond, Bool, true, false, Option, Some, None, List, [], ◌∷◌, ◌++◌, length, take, get_or, add-one, eqb-true, eq-eqb, refl, sym, ap, ap₂, ◌∙◌, arith}
use Rattle.std.specs.Prelude.{option_to_list, slice_set}
use Rattle.std.specs.List.{list_any, range_with_len, AllByRecursion}
use Rattle.std.specs.Option.{option_map, option_map_or}
use Rattle.std.proofs.lemmas.Bool.{eqb-false}
use Rattle.std.proofs.Math.Seq.{take-suc}
use Rattle.std.proofs.Math.Dec.{eqb-zero-suc, eqb-suc-zero, eqb-suc-suc}
use Rattle.std.proofs.lemmas.List.{append_assoc, append-nil, length-set}
use Rattle.mdl_ast.specs.declared.items.Item.{Item}
use Rattle.directives.specs.Standing.{slot, without, with_change, items_in_slots, items_left, IsLeftOf, count, order, is_place}

abbrev pub Slots : Type 0
Slots = List (Option Item)

-- what stands at a place, as a list
abbrev pub at : Slots → ℕ → List Item
at slots k = option_to_list (slot slots k)

-- ---- one place

pub slot_set : (slots : Slots) (k : ℕ) (f : Option Item → Option Item) → f None ≡ None → (j : ℕ) → slot (slice_set slots k (f (slot slots k))) j ≡ cond (k == j) (f (slot slots j)) (slot slots j)
slot_set [] k f n j = by (k == j)
  where
    by : (b : Bool) → None ≡ cond b (f None) None
    by true = sym n
    by false = refl
slot_set (s ∷ slots) zero f n zero = refl
slot_set (s ∷ slots) zero f n (suc j) = ap (λ (b : Bool). cond b (f (slot slots j)) (slot slots j)) (sym (eqb-zero-suc j))
slot_set (s ∷ slots) (suc k) f n zero = ap (λ (b : Bool). cond b (f s) s) (sym (eqb-suc-zero k))
slot_set (s ∷ slots) (suc k) f n (suc j) = slot_set slots k f n j ∙ ap (λ (b : Bool). cond b (f (slot slots j)) (slot slots j)) (sym (eqb-suc-suc k j))

pub slot_without : (slots : Slots) (k j : ℕ) → slot (without slots k) j ≡ cond (k == j) None (slot slots j)
slot_without slots k j = slot_set slots k (λ s. None) refl j

pub slot_change : (slots : Slots) (k : ℕ) (f : Item → Item) (j : ℕ) → slot (with_change slots k f) j ≡ cond (k == j) (option_map f (slot slots j)) (slot slots j)
slot_change slots k f j = slot_set slots k (option_map f) refl j

-- ---- what is left

pub left_at : (ks : List ℕ) (slots : Slots) (k : ℕ) → slot (items_left ks slots) k ≡ cond (is_place ks k) None (slot slots k)
left_at [] slots k = refl
left_at (j ∷ ks) slots k = left_at ks (without slots j) k ∙ ap (cond (is_place ks k) None) (slot_without slots j k) ∙ by (j == k) (is_place ks k)
  where
    by : (b c : Bool) → cond c None (cond b None (slot slots k)) ≡ cond (b || c) None (slot slots k)
    by true true = refl
    by true false = refl
    by false c = refl

pub left_of : (ks : List ℕ) (slots : Slots) → IsLeftOf slots (items_left ks slots)
left_of ks slots k = by (is_place ks k) refl
  where
    by : (b : Bool) → is_place ks k ≡ b → (slot (items_left ks slots) k ≡ slot slots k) ⊎ (slot (items_left ks slots) k ≡ None)
    by true e = inr (left_at ks slots k ∙ ap (λ (b : Bool). cond b None (slot slots k)) e)
    by false e = inl (left_at ks slots k ∙ ap (λ (b : Bool). cond b None (slot slots k)) e)

pub nothing_there : (old new : Slots) → IsLeftOf old new → (k : ℕ) → slot old k ≡ None → slot new k ≡ None
nothing_there old new l k e = by (l k)
  where
    by : (slot new k ≡ slot old k) ⊎ (slot new k ≡ None) → slot new k ≡ None
    by (inl s) = s ∙ e
    by (inr n) = n

pub stood_there : (old new : Slots) → IsLeftOf old new → (k : ℕ) (x : Item) → slot new k ≡ Some x → slot old k ≡ Some x
stood_there old new l k x e = by (l k)
  where
    by : (slot new k ≡ slot old k) ⊎ (slot new k ≡ None) → slot old k ≡ Some x
    by (inl s) = sym s ∙ e
    by (inr n) = absurd cc

pub left_again : (a b c : Slots) → IsLeftOf a b → IsLeftOf b c → IsLeftOf a c
left_again a b c l m k = by (m k)
  where
    by : (slot c k ≡ slot b k) ⊎ (slot c k ≡ None) → (slot c k ≡ slot a k) ⊎ (slot c k ≡ None)
    by (inr n) = inr n
    by (inl s) = here (l k)
      where
        here : (slot b k ≡ slot a k) ⊎ (slot b k ≡ None) → (slot c k ≡ slot a k) ⊎ (slot c k ≡ None)
        here (inl t) = inl (s ∙ t)
        here (inr n) = inr (s ∙ n)

-- a place is one of those that were emptied
pub emptied_at : (ks : List ℕ) (slots : Slots) (k : ℕ) (x : Item) → slot slots k ≡ Some x → slot (items_left ks slots) k ≡ None → is_place ks k ≡ true
emptied_at ks slots k x s n = by (is_place ks k) refl
  where
    by : (b : Bool) → is_place ks k ≡ b → is_place ks k ≡ true
    by true e = e
    by false e = let f = sym s ∙ sym (left_at ks slots k ∙ ap (λ (b : Bool). cond b None (slot slots k)) e) ∙ n in absurd cc

-- ---- what is taken

pub any_first : (q : Item → Bool) (s : Option Item) (rest : List Item) → list_any q (option_to_list s ++ rest) ≡ (option_map_or q s false || list_any q rest)
any_first q None rest = refl
any_first q (Some x) rest = refl

or_true : (b : Bool) → (b || true) ≡ true
or_true true = refl
or_true false = refl

pub any_taken : (q : Item → Bool) (ks : List ℕ) (slots : Slots) (k : ℕ) (x : Item) → is_place ks k ≡ true → slot slots k ≡ Some x → q x ≡ true → list_any q (items_in_slots ks slots) ≡ true
any_taken q [] slots k x p s e = absurd cc
any_taken q (j ∷ ks) slots k x p s e = any_first q (slot slots j) (items_in_slots ks (without slots j)) ∙ by (j == k) refl p (λ p t. any_taken q ks (without slots j) k x p t e)
  where
    by : (b : Bool) → (j == k) ≡ b → (b || is_place ks k) ≡ true → (is_place ks k ≡ true → slot (without slots j) k ≡ Some x → list_any q (items_in_slots ks (without slots j)) ≡ true) → (option_map_or q (slot slots j) false || list_any q (items_in_slots ks (without slots j))) ≡ true
    by true f p more =
        let here : slot slots j ≡ Some x = ap (slot slots) (eqb-true j k f) ∙ s in
        ap (λ (o : Option Item). option_map_or q o false || list_any q (items_in_slots ks (without slots j))) here ∙ ap (λ (b : Bool). b || list_any q (items_in_slots ks (without slots j))) e
    by false f p more =
        let there : slot (without slots j) k ≡ Some x = slot_without slots j k ∙ ap (λ (b : Bool). cond b None (slot slots k)) f ∙ s in
        ap (λ (b : Bool). option_map_or q (slot slots j) false || b) (more p there) ∙ or_true (option_map_or q (slot slots j) false)

-- an item that stands at a place and passes a test
pub record Passes (q : Item → Bool) (slots : Slots) : Type 0 where
  pub place : ℕ
  pub item : Item
  pub there : slot slots place ≡ Some item
  pub passes : q item ≡ true

pub some_taken : (q : Item → Bool) (ks : List ℕ) (slots : Slots) → list_any q (items_in_slots ks slots) ≡ true → Passes q slots
some_taken q [] slots h = absurd cc
some_taken q (j ∷ ks) slots h = by (slot slots j) refl (sym (any_first q (slot slots j) (items_in_slots ks (without slots j))) ∙ h) (λ h. behind (some_taken q ks (without slots j) h))
  where
    behind : Passes q (without slots j) → Passes q slots
    behind m = record { place = m.place; item = m.item; there = stood_there slots (without slots j) (left_of (j ∷ []) slots) m.place m.item m.there; passes = m.passes }

    by : (o : Option Item) → slot slots j ≡ o → (option_map_or q o false || list_any q (items_in_slots ks (without slots j))) ≡ true → (list_any q (items_in_slots ks (without slots j)) ≡ true → Passes q slots) → Passes q slots
    by None e h more = more h
    by (Some x) e h more = here (q x) refl h
      where
        here : (b : Bool) → q x ≡ b → (b || list_any q (items_in_slots ks (without slots j))) ≡ true → Passes q slots
        here true p h = record { place = j; item = x; there = e; passes = p }
        here false p h = more h

pub all_taken : (P : Item → Type 0) (ks : List ℕ) (slots : Slots) → ((k : ℕ) (x : Item) → is_place ks k ≡ true → slot slots k ≡ Some x → P x) → AllByRecursion P (items_in_slots ks slots)
all_taken P [] slots f = tt
all_taken P (j ∷ ks) slots f = by (slot slots j) refl (all_taken P ks (without slots j) (λ k x p e. f k x (ap (λ (b : Bool). (j == k) || b) p ∙ or_true (j == k)) (stood_there slots (without slots j) (left_of (j ∷ []) slots) k x e)))
  where
    by : (o : Option Item) → slot slots j ≡ o → AllByRecursion P (items_in_slots ks (without slots j)) → AllByRecursion P (option_to_list o ++ items_in_slots ks (without slots j))
    by None e h = h
    by (Some x) e h = (f j x (ap (λ (b : Bool). b || is_place ks j) (eq-eqb j j refl)) e, h)

-- what is made of each item alone is made of all
pub taken_alike : (g : List Item → List Item) → g [] ≡ [] → ((xs ys : List Item) → g (xs ++ ys) ≡ g xs ++ g ys) → (ks : List ℕ) (old new : Slots) → ((k : ℕ) → at new k ≡ g (at old k)) → items_in_slots ks new ≡ g (items_in_slots ks old)
taken_alike g none both [] old new f = sym none
taken_alike g none both (j ∷ ks) old new f =
    ap₂ (λ (xs ys : List Item). xs ++ ys) (f j) (taken_alike g none both ks (without old j) (without new j) behind) ∙ sym (both (at old j) (items_in_slots ks (without old j)))
  where
    by : (k : ℕ) (b : Bool) → option_to_list (cond b None (slot new k)) ≡ g (option_to_list (cond b None (slot old k)))
    by k true = sym none
    by k false = f k

    behind : (k : ℕ) → at (without new j) k ≡ g (at (without old j) k)
    behind k = ap option_to_list (slot_without new j k) ∙ by k (j == k) ∙ ap (λ (o : Option Item). g (option_to_list o)) (sym (slot_without old j k))

-- ---- how many stand

pub none_there : (xs : List Item) → length xs ≡ 0 → xs ≡ []
none_there [] e = refl
none_there (x ∷ xs) e = absurd (omega arith)

count_without : (slots : Slots) (k : ℕ) → length (at slots k) + count (without slots k) ≡ count slots
count_without [] k = omega arith
count_without (s ∷ slots) zero = omega arith
count_without (s ∷ slots) (suc k) = omega (arith, count_without slots k)

length_first : (s : Option Item) (rest : List Item) → length (option_to_list s ++ rest) ≡ length (option_to_list s) + length rest
length_first None rest = omega arith
length_first (Some x) rest = omega arith

pub count_left : (ks : List ℕ) (slots : Slots) → length (items_in_slots ks slots) + count (items_left ks slots) ≡ count slots
count_left [] slots = omega arith
count_left (j ∷ ks) slots = omega (arith, length_first (slot slots j) (items_in_slots ks (without slots j)), count_left ks (without slots j), count_without slots j)

pub none_counted : (slots : Slots) → ((k : ℕ) → slot slots k ≡ None) → count slots ≡ 0
none_counted [] f = refl
none_counted (s ∷ slots) f = omega (arith, ap (λ (o : Option Item). length (option_to_list o)) (f 0), none_counted slots (λ k. f (suc k)))

-- ---- all places

slot_below : (slots : Slots) (k : ℕ) (x : Item) → slot slots k ≡ Some x → k < length slots
slot_below [] k x e = absurd cc
slot_below (s ∷ slots) zero x e = omega arith
slot_below (s ∷ slots) (suc k) x e = let h = slot_below slots k x e in omega arith

apart : (a k : ℕ) → a ≤ k → (a ≡ k → ⊥) → a + 1 ≤ k
apart zero zero l n = absurd (n refl)
apart zero (suc k) l n = omega arith
apart (suc a) zero l n = absurd (omega arith)
apart (suc a) (suc k) l n = let h = apart a k (omega arith) (λ e. n (ap suc e)) in omega arith

in_range : (a n k : ℕ) → a ≤ k → k < a + n → is_place (range_with_len a n) k ≡ true
in_range a zero k l h = absurd (omega arith)
in_range a (suc n) k l h = by (a == k) refl (λ m. in_range (a + 1) n k m (omega arith))
  where
    by : (b : Bool) → (a == k) ≡ b → (a + 1 ≤ k → is_place (range_with_len (a + 1) n) k ≡ true) → (b || is_place (range_with_len (a + 1) n) k) ≡ true
    by true e f = refl
    by false e f = f (apart a k l (eqb-false a k e))

any_behind : (xs ys : List ℕ) (k : ℕ) → is_place ys k ≡ true → is_place (xs ++ ys) k ≡ true
any_behind [] ys k h = h
any_behind (x ∷ xs) ys k h = ap (λ (b : Bool). (x == k) || b) (any_behind xs ys k h) ∙ or_true (x == k)

pub in_order : (slots : Slots) (moved : List ℕ) (k : ℕ) (x : Item) → slot slots k ≡ Some x → is_place (order slots moved) k ≡ true
in_order slots moved k x e = any_behind _ (range_with_len 0 (length slots)) k (let h = slot_below slots k x e in in_range 0 (length slots) k (omega arith) (omega arith))

-- ---- reading and writing a place

pub nothing_past : (slots : Slots) (k : ℕ) → length slots ≤ k → slot slots k ≡ None
nothing_past [] k h = refl
nothing_past (s ∷ slots) zero h = absurd (omega arith)
nothing_past (s ∷ slots) (suc k) h = nothing_past slots k (omega arith)

pub set_past : (slots : Slots) (k : ℕ) (s : Option Item) → length slots ≤ k → slice_set slots k s ≡ slots
set_past [] k s h = refl
set_past (x ∷ slots) zero s h = absurd (omega arith)
set_past (x ∷ slots) (suc k) s h = ap (λ (l : Slots). x ∷ l) (set_past slots k s (omega arith))

pub read_at : (slots : Slots) (k : ℕ) (d : Option Item) → k < length slots → d ≡ get_or slots k d → d ≡ slot slots k
read_at [] k d h e = absurd (omega arith)
read_at (s ∷ slots) zero d h e = e
read_at (s ∷ slots) (suc k) d h e = read_at slots k d (omega arith) e

set_same : (slots : Slots) (k : ℕ) → slice_set slots k (slot slots k) ≡ slots
set_same [] k = refl
set_same (s ∷ slots) zero = refl
set_same (s ∷ slots) (suc k) = ap (λ (l : Slots). s ∷ l) (set_same slots k)

-- where nothing stands nothing changes
pub none_there_changed : (slots : Slots) (k : ℕ) (f : Item → Item) → slot slots k ≡ None → slots ≡ with_change slots k f
none_there_changed slots k f e = sym (ap (λ (o : Option Item). slice_set slots k (option_map f o)) e ∙ ap (slice_set slots k) (sym e) ∙ set_same slots k)

pub there_changed : (slots : Slots) (k : ℕ) (f : Item → Item) (old new : Option Item) → old ≡ slot slots k → new ≡ option_map f old → slice_set slots k new ≡ with_change slots k f
there_changed slots k f old new e h = ap (slice_set slots k) (h ∙ ap (option_map f) e)

-- ---- one place more

pub left_both : (slots : Slots) (ks js : List ℕ) → items_left (ks ++ js) slots ≡ items_left js (items_left ks slots)
left_both slots [] js = refl
left_both slots (k ∷ ks) js = left_both (without slots k) ks js

pub taken_both : (slots : Slots) (ks js : List ℕ) → items_in_slots (ks ++ js) slots ≡ items_in_slots ks slots ++ items_in_slots js (items_left ks slots)
taken_both slots [] js = refl
taken_both slots (k ∷ ks) js = ap (λ (l : List Item). at slots k ++ l) (taken_both (without slots k) ks js) ∙ sym (append_assoc (at slots k) (items_in_slots ks (without slots k)) (items_in_slots js (items_left ks (without slots k))))

pub taken_more : (slots : Slots) (ks : List ℕ) (k : ℕ) → items_in_slots (ks ++ k ∷ []) slots ≡ items_in_slots ks slots ++ at (items_left ks slots) k
taken_more slots ks k = taken_both slots ks (k ∷ []) ∙ ap (λ (l : List Item). items_in_slots ks slots ++ l) (append-nil (at (items_left ks slots) k))

pub length_left : (ks : List ℕ) (slots : Slots) → length (items_left ks slots) ≡ length slots
length_left [] slots = refl
length_left (k ∷ ks) slots = length_left ks (without slots k) ∙ length-set slots k None

range_next : (a n : ℕ) → range_with_len a (suc n) ≡ range_with_len a n ++ (a + n) ∷ []
range_next a zero = ap (λ (k : ℕ). k ∷ []) (omega arith)
range_next a (suc n) = let same : a + 1 + n ≡ a + suc n = omega arith in ap (λ (l : List ℕ). a ∷ l) (range_next (a + 1) n) ∙ ap (λ (k : ℕ). a ∷ (range_with_len (a + 1) n ++ k ∷ [])) same

pub range_more : (n : ℕ) → range_with_len 0 (n + 1) ≡ range_with_len 0 n ++ n ∷ []
range_more n = let same : 0 + n ≡ n = omega arith in rw add-one (range_next 0 n) ∙ ap (λ (k : ℕ). range_with_len 0 n ++ k ∷ []) same

pub take_more : (ks : List ℕ) (i : ℕ) → i < length ks → take (i + 1) ks ≡ take i ks ++ get_or ks i 0 ∷ []
take_more ks i h = rw add-one (take-suc ks i 0 h)
