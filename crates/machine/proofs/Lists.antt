-- Lists by membership, and the map of words.
use Rattle.std.proofs.Common.{◌≡◌, ℕ, zero, suc, ◌+◌, ◌*◌, ◌<◌, ◌≤◌, List, [], ◌∷◌, ◌++◌, length, Option, Some, refl, sym, ap, ◌∙◌, arith, ⊎_elim, inl, inr}
use Rattle.std.specs.Prelude.{map, filter, find, Bool, true, false, cond, ◌⊎◌, slice_get, slice_set}
use Rattle.std.proofs.lemmas.Bool.{true≢false, eq-eqb, ne_eqb}
use Rattle.std.proofs.lemmas.Cmp.{nat_cmp_total}
use Rattle.std.specs.Cmp.{unsigned_tied}
use Rattle.std.specs.FinMap.{get, insert, get-insert}
use Rattle.tramp_spec.specs.Codes.{Code, put_words}
use Rattle.tramp_spec.specs.declared.mark.MarkedWord.{MarkedWord}
use Rattle.machine.specs.Cores.{In}
pub use Rattle.machine.specs.Kept.{AreWordsAt}

pub in_map : {A B : Type 0} (f : A → B) (xs : List A) (y : B) → In y (map f xs) → (x : A) × In x xs × (y ≡ f x)
in_map f [] y h = absurd h
in_map f (x ∷ xs) y (inl e) = (x, inl refl, e)
in_map f (x ∷ xs) y (inr h) = let r = in_map f xs y h in (r.0, inr r.1, r.2)

pub map_in : {A B : Type 0} (f : A → B) (xs : List A) (x : A) → In x xs → In (f x) (map f xs)
map_in f [] x h = absurd h
map_in f (y ∷ ys) x (inl e) = inl (ap f e)
map_in f (y ∷ ys) x (inr h) = inr (map_in f ys x h)

pub in_snoc : {A : Type 0} (xs : List A) (x y : A) → In y (xs ++ x ∷ []) → In y xs ⊎ (y ≡ x)
in_snoc [] x y (inl e) = inr e
in_snoc [] x y (inr h) = absurd h
in_snoc (z ∷ zs) x y (inl e) = inl (inl e)
in_snoc (z ∷ zs) x y (inr h) = ⊎_elim (λ a. inl (inr a)) (λ e. inr e) (in_snoc zs x y h)

pub snoc_old : {A : Type 0} (xs : List A) (x y : A) → In y xs → In y (xs ++ x ∷ [])
snoc_old [] x y h = absurd h
snoc_old (z ∷ zs) x y (inl e) = inl e
snoc_old (z ∷ zs) x y (inr h) = inr (snoc_old zs x y h)

pub snoc_new : {A : Type 0} (xs : List A) (x : A) → In x (xs ++ x ∷ [])
snoc_new [] x = inl refl
snoc_new (z ∷ zs) x = inr (snoc_new zs x)

pub map_snoc : {A B : Type 0} (f : A → B) (xs : List A) (x : A) → map f (xs ++ x ∷ []) ≡ map f xs ++ f x ∷ []
map_snoc f [] x = refl
map_snoc f (z ∷ zs) x = ap (λ l. f z ∷ l) (map_snoc f zs x)

filter_in_at : {A : Type 0} (p : A → Bool) (xs : List A) (y x : A) (b : Bool) → p y ≡ b → In x (cond b (y ∷ filter p xs) (filter p xs)) → (In x (filter p xs) → In x xs × (p x ≡ true)) → In x (y ∷ xs) × (p x ≡ true)
filter_in_at p xs y x true e (inl i) ih = (inl i, ap p i ∙ e)
filter_in_at p xs y x true e (inr h) ih = let r = ih h in (inr r.0, r.1)
filter_in_at p xs y x false e h ih = let r = ih h in (inr r.0, r.1)

pub in_filter : {A : Type 0} (p : A → Bool) (xs : List A) (x : A) → In x (filter p xs) → In x xs × (p x ≡ true)
in_filter p [] x h = absurd h
in_filter p (y ∷ ys) x h = filter_in_at p ys y x (p y) refl h (in_filter p ys x)

filter_keeps : {A : Type 0} (p : A → Bool) (xs : List A) (y x : A) (b : Bool) → p y ≡ b → p x ≡ true → In x (y ∷ xs) → (In x xs → In x (filter p xs)) → In x (cond b (y ∷ filter p xs) (filter p xs))
filter_keeps p xs y x true e t (inl i) ih = inl i
filter_keeps p xs y x true e t (inr h) ih = inr (ih h)
filter_keeps p xs y x false e t (inl i) ih = absurd (true≢false (sym t ∙ (ap p i ∙ e)))
filter_keeps p xs y x false e t (inr h) ih = ih h

pub filter_in : {A : Type 0} (p : A → Bool) (xs : List A) (x : A) → In x xs → p x ≡ true → In x (filter p xs)
filter_in p [] x h t = absurd h
filter_in p (y ∷ ys) x h t = filter_keeps p ys y x (p y) refl t h (λ i. filter_in p ys x i t)

find_at : {A : Type 0} (p : A → Bool) (xs : List A) (y x : A) (b : Bool) → p y ≡ b → cond b (Some y) (find p xs) ≡ Some x → (find p xs ≡ Some x → In x xs × (p x ≡ true)) → In x (y ∷ xs) × (p x ≡ true)
find_at p xs y x true e h ih = let i : y ≡ x = cc in (inl (sym i), ap p (sym i) ∙ e)
find_at p xs y x false e h ih = let r = ih h in (inr r.0, r.1)

pub find_gives : {A : Type 0} (p : A → Bool) (xs : List A) (x : A) → find p xs ≡ Some x → In x xs × (p x ≡ true)
find_gives p [] x h = absurd cc
find_gives p (y ∷ ys) x h = find_at p ys y x (p y) refl h (find_gives p ys x)

find_has : {A : Type 0} (p : A → Bool) (xs : List A) (y x : A) (b : Bool) → p y ≡ b → p x ≡ true → In x (y ∷ xs) → (In x xs → (z : A) × (find p xs ≡ Some z)) → (z : A) × (cond b (Some y) (find p xs) ≡ Some z)
find_has p xs y x true e t h ih = (y, refl)
find_has p xs y x false e t (inl i) ih = absurd (true≢false (sym t ∙ (ap p i ∙ e)))
find_has p xs y x false e t (inr h) ih = ih h

pub find_finds : {A : Type 0} (p : A → Bool) (xs : List A) (x : A) → In x xs → p x ≡ true → (z : A) × (find p xs ≡ Some z)
find_finds p [] x h t = absurd h
find_finds p (y ∷ ys) x h t = find_has p ys y x (p y) refl t h (λ i. find_finds p ys x i t)

map_filter_at : {A B : Type 0} (f : A → B) (q : B → Bool) (xs : List A) (y : A) (b : Bool) → filter q (map f xs) ≡ map f (filter (λ x. q (f x)) xs) → cond b (f y ∷ filter q (map f xs)) (filter q (map f xs)) ≡ map f (cond b (y ∷ filter (λ x. q (f x)) xs) (filter (λ x. q (f x)) xs))
map_filter_at f q xs y true ih = ap (λ l. f y ∷ l) ih
map_filter_at f q xs y false ih = ih

pub map_filter : {A B : Type 0} (f : A → B) (q : B → Bool) (xs : List A) → filter q (map f xs) ≡ map f (filter (λ x. q (f x)) xs)
map_filter f q [] = refl
map_filter f q (y ∷ ys) = map_filter_at f q ys y (q (f y)) (map_filter f q ys)

-- a change of the items that the images follow
pub map_follows : {A B : Type 0} (row : A → B) (g : A → A) (h : B → B) (xs : List A) → ((x : A) → row (g x) ≡ h (row x)) → map h (map row xs) ≡ map row (map g xs)
map_follows row g h [] e = refl
map_follows row g h (x ∷ xs) e = cc (e x, map_follows row g h xs e)

-- the map of words
pub get_same : (code : Code) (a : ℕ) (w : MarkedWord) → get (insert code a w) a ≡ Some w
get_same code a w = get-insert nat_cmp_total code a w a ∙ ap (λ b. cond b (Some w) (get code a)) (unsigned_tied a a ∙ eq-eqb a a refl)

pub get_other : (code : Code) (a q : ℕ) (w : MarkedWord) → (q ≡ a → ⊥) → get (insert code a w) q ≡ get code q
get_other code a q w n = get-insert nat_cmp_total code a w q ∙ ap (λ b. cond b (Some w) (get code q)) (unsigned_tied q a ∙ ne_eqb q a n)

pub stands_other : (code : Code) (a : ℕ) (v : MarkedWord) (at : ℕ) (ws : List MarkedWord) → (a < at) ⊎ (at + 4 * length ws ≤ a) → AreWordsAt code at ws → AreWordsAt (insert code a v) at ws
stands_other code a v at [] o h = tt
stands_other code a v at (w ∷ ws) o h =
    let apart : at ≡ a → ⊥ = λ e. ⊎_elim (λ l. omega arith) (λ l. omega arith) o in
    let on : (a < at + 4) ⊎ (at + 4 + 4 * length ws ≤ a) = ⊎_elim (λ l. inl (omega arith)) (λ l. inr (omega arith)) o in
    (get_other code a at v apart ∙ h.0, stands_other code a v (at + 4) ws on h.1)

pub put_words_other : (at : ℕ) (ws : List MarkedWord) (code : Code) (q : ℕ) → (q < at) ⊎ (at + 4 * length ws ≤ q) → get (put_words at ws code) q ≡ get code q
put_words_other at [] code q o = refl
put_words_other at (w ∷ ws) code q o =
    let apart : q ≡ at → ⊥ = λ e. ⊎_elim (λ l. omega arith) (λ l. omega arith) o in
    let on : (q < at + 4) ⊎ (at + 4 + 4 * length ws ≤ q) = ⊎_elim (λ l. inl (omega arith)) (λ l. inr (omega arith)) o in
    put_words_other (at + 4) ws (insert code at w) q on ∙ get_other code at q w apart

pub put_words_stand : (at : ℕ) (ws : List MarkedWord) (code : Code) → AreWordsAt (put_words at ws code) at ws
put_words_stand at [] code = tt
put_words_stand at (w ∷ ws) code = (put_words_other (at + 4) ws (insert code at w) at (inl (omega arith)) ∙ get_same code at w, put_words_stand (at + 4) ws (insert code at w))

pub stands_put : (at : ℕ) (ws : List MarkedWord) (code : Code) (b : ℕ) (vs : List MarkedWord) → (b + 4 * length vs ≤ at) ⊎ (at + 4 * length ws ≤ b) → AreWordsAt code b vs → AreWordsAt (put_words at ws code) b vs
stands_put at ws code b [] o h = tt
stands_put at ws code b (v ∷ vs) o h =
    let away : (b < at) ⊎ (at + 4 * length ws ≤ b) = ⊎_elim (λ l. inl (omega arith)) (λ l. inr (omega arith)) o in
    let on : (b + 4 + 4 * length vs ≤ at) ⊎ (at + 4 * length ws ≤ b + 4) = ⊎_elim (λ l. inl (omega arith)) (λ l. inr (omega arith)) o in
    (put_words_other at ws code b away ∙ h.0, stands_put at ws code (b + 4) vs on h.1)

pub stands_at : (code : Code) (at : ℕ) (ws : List MarkedWord) (i : ℕ) (w : MarkedWord) → AreWordsAt code at ws → slice_get ws i ≡ Some w → get code (at + 4 * i) ≡ Some w
stands_at code at [] i w h e = absurd cc
stands_at code at (v ∷ ws) zero w h e = let z : at + 4 * 0 ≡ at = omega arith in ap (λ a. get code a) z ∙ (h.0 ∙ e)
stands_at code at (v ∷ ws) (suc i) w h e = let z : at + 4 * suc i ≡ at + 4 + 4 * i = omega arith in ap (λ a. get code a) z ∙ stands_at code (at + 4) ws i w h.1 e

-- ---- lists by place

pub same_some : {A : Type 0} (o : Option A) (x y : A) → o ≡ Some x → o ≡ Some y → x ≡ y
same_some o x y p q = cc

pub get_set_same : {A : Type 0} (xs : List A) (i : ℕ) (x y : A) → slice_get xs i ≡ Some x → slice_get (slice_set xs i y) i ≡ Some y
get_set_same [] i x y e = absurd cc
get_set_same (z ∷ zs) zero x y e = refl
get_set_same (z ∷ zs) (suc i) x y e = get_set_same zs i x y e

pub get_set_other : {A : Type 0} (xs : List A) (i j : ℕ) (y : A) → (j ≡ i → ⊥) → slice_get (slice_set xs i y) j ≡ slice_get xs j
get_set_other [] i j y n = refl
get_set_other (z ∷ zs) zero zero y n = absurd (n refl)
get_set_other (z ∷ zs) zero (suc j) y n = refl
get_set_other (z ∷ zs) (suc i) zero y n = refl
get_set_other (z ∷ zs) (suc i) (suc j) y n = get_set_other zs i j y (λ e. n (ap suc e))

pub length_slice_set : {A : Type 0} (xs : List A) (i : ℕ) (y : A) → length (slice_set xs i y) ≡ length xs
length_slice_set [] i y = refl
length_slice_set (z ∷ zs) zero y = refl
length_slice_set (z ∷ zs) (suc i) y = ap suc (length_slice_set zs i y)

pub get_append : {A : Type 0} (xs : List A) (y : A) → slice_get (xs ++ y ∷ []) (length xs) ≡ Some y
get_append [] y = refl
get_append (x ∷ xs) y = get_append xs y

pub get_before : {A : Type 0} (xs ys : List A) (i : ℕ) (x : A) → slice_get xs i ≡ Some x → slice_get (xs ++ ys) i ≡ Some x
get_before [] ys i x e = absurd cc
get_before (z ∷ zs) ys zero x e = e
get_before (z ∷ zs) ys (suc i) x e = get_before zs ys i x e
