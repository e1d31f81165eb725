-- The hart that is next is one that may go; and the harts that may go, where one hart more is counted or one is taken out.
use Rattle.std.proofs.Common.{◌≡◌, ◌≢◌, ℕ, zero, suc, ◌+◌, ◌<◌, ◌≤◌, ◌%◌, ◌/◌, ◌^◌, List, [], ◌∷◌, ◌++◌, length, Option, Some, None, refl, ap, sym, subst, ◌∙◌, arith, Bool, true, false, cond, nat_eq, get_or, drop}
use Rattle.std.specs.Prelude.{find, slice_get, nat_le, ◌==◌, not}
use Rattle.std.specs.List.{filter, range_with_len, AllByRecursion}
use Rattle.std.specs.Option.{option_or}
use Rattle.std.proofs.lemmas.Bool.{eqb-true, eqb-false}
use Rattle.std.proofs.lemmas.Option.{slice_get-get_or}
use Rattle.turn_order.specs.Orders.{ready_of, chosen, picked, generated}
use Rattle.turn_order.specs.declared.order.Order.{Order}
use Rattle.turn_order.specs.declared.order.Order.TheVariants.{RoundRobin, Random}

-- ---- the hart that is next

slice_get-all : (P : ℕ → Type 0) (xs : List ℕ) (i h : ℕ) → slice_get xs i ≡ Some h → AllByRecursion P xs → P h
slice_get-all P [] i h e all = absurd (cc)
slice_get-all P (x ∷ xs) zero h e all = let same : x ≡ h = cc in subst P same all.0
slice_get-all P (x ∷ xs) (suc i) h e all = slice_get-all P xs i h e all.1

find_one : (P : ℕ → Type 0) (b : Bool) (x h : ℕ) (o rest : Option ℕ) → option_or (cond b (Some x) o) rest ≡ Some h → P x → (option_or o rest ≡ Some h → P h) → P h
find_one P true x h o rest e here later = let same : x ≡ h = cc in subst P same here
find_one P false x h o rest e here later = later e

find-all : (P : ℕ → Type 0) (p : ℕ → Bool) (xs : List ℕ) (rest : Option ℕ) (h : ℕ) → option_or (find p xs) rest ≡ Some h → AllByRecursion P xs → (rest ≡ Some h → P h) → P h
find-all P p [] rest h e all later = later e
find-all P p (x ∷ xs) rest h e all later = find_one P (p x) x h (find p xs) rest e all.0 (λ f. find-all P p xs rest h f all.1 later)

chosen-all : (P : ℕ → Type 0) (order : Order) (ready : List ℕ) (h : ℕ) → chosen order ready ≡ Some h → AllByRecursion P ready → P h
chosen-all P (RoundRobin next) ready h e all = find-all P (nat_le next) ready (slice_get ready 0) h e all (λ first. slice_get-all P ready 0 h first all)
chosen-all P (Random x) ready h e all = slice_get-all P ready (generated x / 2 ^ 33 % length ready) h e all

-- what the test keeps of a list passes it, and is of the list
filter_one : (P : ℕ → Type 0) (may : ℕ → Bool) (b : Bool) (x : ℕ) (ys : List ℕ) → may x ≡ b → P x → AllByRecursion (λ h. (may h ≡ true) × P h) ys → AllByRecursion (λ h. (may h ≡ true) × P h) (cond b (x ∷ ys) ys)
filter_one P may true x ys e here rest = ((e, here), rest)
filter_one P may false x ys e here rest = rest

filter-all : (P : ℕ → Type 0) (may : ℕ → Bool) (xs : List ℕ) → AllByRecursion P xs → AllByRecursion (λ h. (may h ≡ true) × P h) (filter may xs)
filter-all P may [] all = tt
filter-all P may (x ∷ xs) all = filter_one P may (may x) x (filter may xs) refl all.0 (filter-all P may xs all.1)

range-below : (a k n : ℕ) → a + k ≤ n → AllByRecursion (λ h. h < n) (range_with_len a k)
range-below a zero n l = tt
range-below a (suc k) n l = (omega arith, range-below (a + 1) k n (omega arith))

-- the next hart may go, and is one of the n
pub picked_may : (order : Order) (may : ℕ → Bool) (n h : ℕ) → picked order may n ≡ Some h → (may h ≡ true) × (h < n)
picked_may order may n h e =
    chosen-all (λ j. (may j ≡ true) × (j < n)) order (ready_of may n) h e (filter-all (λ j. j < n) may (range_with_len 0 n) (range-below 0 n n (omega arith)))

-- ---- where no hart is next, none may go

find-none : (p : ℕ → Bool) (xs : List ℕ) → option_or (find p xs) (slice_get xs 0) ≡ None → xs ≡ []
find-none p [] e = refl
find-none p (x ∷ xs) e = by_case (find p (x ∷ xs)) e
  where
    by_case : (o : Option ℕ) → option_or o (Some x) ≡ None → x ∷ xs ≡ []
    by_case None e = absurd (cc)
    by_case (Some y) e = absurd (cc)

place-none : (xs : List ℕ) (k : ℕ) → slice_get xs (k % length xs) ≡ None → xs ≡ []
place-none [] k e = refl
place-none (x ∷ xs) k e =
    let l : k % length (x ∷ xs) < length (x ∷ xs) = omega arith in
    let s = slice_get-get_or (x ∷ xs) (k % length (x ∷ xs)) x l in
    absurd (cc)

chosen-none : (order : Order) (ready : List ℕ) → chosen order ready ≡ None → ready ≡ []
chosen-none (RoundRobin next) ready e = find-none (nat_le next) ready e
chosen-none (Random x) ready e = place-none ready (generated x / 2 ^ 33) e

none_one : (may : ℕ → Bool) (b : Bool) (a h : ℕ) (ys : List ℕ) → may a ≡ b → cond b (a ∷ ys) ys ≡ [] → a ≤ h → (ys ≡ [] → a + 1 ≤ h → may h ≡ false) → may h ≡ false
none_one may true a h ys t e low later = absurd (cc)
none_one may false a h ys t e low later = here (nat_eq h a) refl
  where
    here : (b : Bool) → nat_eq h a ≡ b → may h ≡ false
    here true same = ap may (eqb-true h a same) ∙ t
    here false other = let ne : h ≢ a = eqb-false h a other in later e (omega arith)

filter-none : (may : ℕ → Bool) (a k h : ℕ) → filter may (range_with_len a k) ≡ [] → a ≤ h → h < a + k → may h ≡ false
filter-none may a zero h e low high = absurd (omega arith)
filter-none may a (suc k) h e low high =
    none_one may (may a) a h (filter may (range_with_len (a + 1) k)) refl e low (λ f l. filter-none may (a + 1) k h f l (omega arith))

pub none_may : (order : Order) (may : ℕ → Bool) (n h : ℕ) → picked order may n ≡ None → h < n → may h ≡ false
none_may order may n h e l = filter-none may 0 n h (chosen-none order (ready_of may n) e) (omega arith) (omega arith)

-- ---- one hart more, and one less

pub range_more : (a n : ℕ) → range_with_len a (n + 1) ≡ range_with_len a n ++ (a + n) ∷ []
range_more a zero = let e : a + 0 ≡ a = omega arith in ap (λ x. x ∷ []) (sym e)
range_more a (suc n) =
    let e : a + 1 + n ≡ a + suc n = omega arith in
    let k : suc n + 1 ≡ suc (n + 1) = omega arith in
    ap (range_with_len a) k ∙ ap (λ xs. a ∷ xs) (range_more (a + 1) n ∙ ap (λ x. range_with_len (a + 1) n ++ x ∷ []) e)

-- the same test keeps the same
pub filter_same : (p q : ℕ → Bool) (xs : List ℕ) → ((h : ℕ) → q h ≡ p h) → filter q xs ≡ filter p xs
filter_same p q [] same = refl
filter_same p q (x ∷ xs) same = ap (λ b. cond b (x ∷ filter q xs) (filter q xs)) (same x) ∙ ap (λ ys. cond (p x) (x ∷ ys) ys) (filter_same p q xs same)

-- a number more of a list that both tests go through, of which the second fails at h
without_one : (b c : Bool) (h x : ℕ) (ps qs : List ℕ) → qs ≡ filter (λ j. not (j == h)) ps → (x == h) ≡ c → cond (cond c false b) (x ∷ qs) qs ≡ filter (λ j. not (j == h)) (cond b (x ∷ ps) ps)
without_one true true h x ps qs rest e = rest ∙ ap (λ c. cond (not c) (x ∷ filter (λ j. not (j == h)) ps) (filter (λ j. not (j == h)) ps)) (sym e)
without_one true false h x ps qs rest e = ap (λ ys. x ∷ ys) rest ∙ ap (λ c. cond (not c) (x ∷ filter (λ j. not (j == h)) ps) (filter (λ j. not (j == h)) ps)) (sym e)
without_one false true h x ps qs rest e = rest
without_one false false h x ps qs rest e = rest

test_without : (p q : ℕ → Bool) (h x : ℕ) (c : Bool) → (x == h) ≡ c → q h ≡ false → ((j : ℕ) → j ≢ h → q j ≡ p j) → q x ≡ cond c false (p x)
test_without p q h x true e out same = let is : x ≡ h = eqb-true x h e in ap q is ∙ out
test_without p q h x false e out same = same x (eqb-false x h e)

-- a test that fails at h, and elsewhere is the other, keeps what the other keeps but for h
pub filter_without : (p q : ℕ → Bool) (h : ℕ) (xs : List ℕ) → q h ≡ false → ((j : ℕ) → j ≢ h → q j ≡ p j) → filter q xs ≡ filter (λ j. not (j == h)) (filter p xs)
filter_without p q h [] out same = refl
filter_without p q h (x ∷ xs) out same =
    ap (λ b. cond b (x ∷ filter q xs) (filter q xs)) (test_without p q h x (x == h) refl out same)
    ∙ without_one (p x) (x == h) h x (filter p xs) (filter q xs) (filter_without p q h xs out same) refl

-- ---- one number further in a list

pub find_hit : (p : ℕ → Bool) (xs : List ℕ) (i x : ℕ) → i < length xs → x ≡ get_or xs i x → p x ≡ true → find p (drop i xs) ≡ Some x
find_hit p [] i x l e t = absurd (omega arith)
find_hit p (y ∷ xs) zero x l e t = ap (λ b. cond b (Some y) (find p xs)) (ap p (sym e) ∙ t) ∙ ap Some (sym e)
find_hit p (y ∷ xs) (suc i) x l e t = find_hit p xs i x (omega arith) e t

pub find_past : (p : ℕ → Bool) (xs : List ℕ) (i x : ℕ) → i < length xs → x ≡ get_or xs i x → p x ≡ false → find p (drop (i + 1) xs) ≡ find p (drop i xs)
find_past p [] i x l e t = absurd (omega arith)
find_past p (y ∷ xs) zero x l e t = sym (ap (λ b. cond b (Some y) (find p xs)) (ap p (sym e) ∙ t))
find_past p (y ∷ xs) (suc i) x l e t = let k : suc i + 1 ≡ suc (i + 1) = omega arith in ap (λ n. find p (drop n (y ∷ xs))) k ∙ find_past p xs i x (omega arith) e t
