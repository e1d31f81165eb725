-- A stable sort by descending ticks has one result.
use Rattle.std.proofs.Common.{◌≡◌, ℕ, suc, ◌+◌, ◌<◌, ◌≤◌, List, [], ◌∷◌, length, get_or, Bool, true, false, not, ◌&&◌, cond, eqb, leb, Option, Some, None, refl, ap, sym, subst, ◌∙◌, ⊎_elim, arith}
use Rattle.std.specs.List.{filter}
use Rattle.std.specs.List.Sorted.{IsSortedBy, IsStableBy, ties}
use Rattle.std.specs.Ordering.{is_lt, nat_cmp}
use Rattle.std.proofs.lemmas.Bool.{cases_lt}
use Rattle.std.proofs.lemmas.Bool.Decides.{nat_tests}
use Rattle.profile_text.specs.ProcedureRows.{row_of, rows_in}
use Rattle.profile_text.specs.Rows.{Row, by_ticks, insert_by_ticks}
use Rattle.profile_text.specs.declared.procedure_row.ProcedureRow.{ProcedureRow}

-- a number is at most a bound, where there is one
abbrev pub AtMost : Option ℕ → ℕ → Type 0
AtMost None n = Unit {0}
AtMost (Some k) n = n ≤ k

-- the numbers n of the elements don't rise, and the first is at most the bound
abbrev pub Falls : {X : Type 0} → (X → ℕ) → Option ℕ → List X → Type 0
Falls n bound [] = Unit {0}
Falls n bound (x ∷ xs) = AtMost bound (n x) × Falls n (Some (n x)) xs

-- the elements whose number is j
abbrev at : {X : Type 0} → (X → ℕ) → ℕ → List X → List X
at n j xs = filter (λ x. eqb j (n x)) xs

-- ---- two lists that fall, with the same elements of each number, are one

none_above : {X : Type 0} (n : X → ℕ) (j k : ℕ) (xs : List X) → Falls n (Some k) xs → k < j → at n j xs ≡ []
none_above n j k [] h l = refl
none_above n j k (x ∷ xs) h l =
    let a = h.0 in
    let e : eqb j (n x) ≡ false = grind (arith, nat_tests) in
    ap (λ b. cond b (x ∷ at n j xs) (at n j xs)) e ∙ none_above n j (n x) xs h.1 (omega arith)

at_head : {X : Type 0} (n : X → ℕ) (j : ℕ) (x : X) (xs : List X) → j ≡ n x → at n j (x ∷ xs) ≡ x ∷ at n j xs
at_head n j x xs e =
    let t : eqb j (n x) ≡ true = grind (arith, nat_tests) in
    ap (λ b. cond b (x ∷ at n j xs) (at n j xs)) t

not_nil : {X : Type 0} (x : X) (xs ys : List X) → ys ≡ x ∷ xs → ys ≡ [] → ⊥
not_nil x xs ys e h = cc

joined : {X : Type 0} (x y : X) (xs ys us vs : List X) → x ∷ us ≡ y ∷ vs → xs ≡ ys → x ∷ xs ≡ y ∷ ys
joined x y xs ys us vs h e = cc

same : {X : Type 0} (b : Bool) (x y : X) (xs ys : List X) → cond b (x ∷ xs) xs ≡ cond b (y ∷ ys) ys → xs ≡ ys
same true x y xs ys h = cc
same false x y xs ys h = h

-- the tails agree where the lists with their heads do, which have the same number
tails : {X : Type 0} (n : X → ℕ) (j : ℕ) (x y : X) (xs ys : List X) → n x ≡ n y → at n j (x ∷ xs) ≡ at n j (y ∷ ys) → at n j xs ≡ at n j ys
tails n j x y xs ys e h = same (eqb j (n x)) x y (at n j xs) (at n j ys) (h ∙ ap (λ k. cond (eqb j k) (y ∷ at n j ys) (at n j ys)) (sym e))

unique : {X : Type 0} (n : X → ℕ) (b c : Option ℕ) (xs ys : List X) → Falls n b xs → Falls n c ys → ((j : ℕ) → at n j xs ≡ at n j ys) → xs ≡ ys
unique n b c [] [] f g h = refl
unique n b c [] (y ∷ ys) f g h = absurd (not_nil y _ _ (at_head n (n y) y ys refl) (sym (h (n y))))
unique n b c (x ∷ xs) [] f g h = absurd (not_nil x _ _ (at_head n (n x) x xs refl) (h (n x)))
unique n b c (x ∷ xs) (y ∷ ys) f g h =
    ⊎_elim
    (λ (l : n x < n y). absurd (not_nil y _ _ (at_head n (n y) y ys refl) (sym (h (n y)) ∙ none_above n (n y) (n x) (x ∷ xs) (omega arith, f.1) l)))
    (λ (l : n y ≤ n x). ⊎_elim
    (λ (m : n y < n x). absurd (not_nil x _ _ (at_head n (n x) x xs refl) (h (n x) ∙ none_above n (n x) (n y) (y ∷ ys) (omega arith, g.1) m)))
    (λ (m : n x ≤ n y).
    let e : n x ≡ n y = omega arith in
    let heads = sym (at_head n (n x) x xs refl) ∙ h (n x) ∙ at_head n (n x) y ys e in
    let same_tail : xs ≡ ys = unique n (Some (n x)) (Some (n y)) xs ys f.1 g.1 (λ j. tails n j x y xs ys e (h j)) in
    joined x y xs ys _ _ heads same_tail)
    (cases_lt (n y) (n x)))
    (cases_lt (n x) (n y))

-- ---- by_ticks

insert-falls : (x : Row) (k : Option ℕ) (ys : List Row) → AtMost k x.ticks → Falls (λ y. y.ticks) k ys → Falls (λ y. y.ticks) k (insert_by_ticks x ys)
insert-falls x k [] l h = (l, tt)
insert-falls x k (y ∷ ys) l h =
    ⊎_elim
    (λ (m : x.ticks < y.ticks).
    let e : leb y.ticks x.ticks ≡ false = grind (arith, nat_tests) in
    subst (λ b. Falls (λ z. z.ticks) k (cond b (x ∷ (y ∷ ys)) (y ∷ insert_by_ticks x ys))) (sym e) (h.0, insert-falls x (Some y.ticks) ys (omega arith) h.1))
    (λ (m : y.ticks ≤ x.ticks).
    let e : leb y.ticks x.ticks ≡ true = grind (arith, nat_tests) in
    subst (λ b. Falls (λ z. z.ticks) k (cond b (x ∷ (y ∷ ys)) (y ∷ insert_by_ticks x ys))) (sym e) (l, (m, h.1)))
    (cases_lt x.ticks y.ticks)

pub by_ticks-falls : (xs : List Row) → Falls (λ x. x.ticks) None (by_ticks xs)
by_ticks-falls [] = tt
by_ticks-falls (x ∷ xs) = insert-falls x None (by_ticks xs) tt (by_ticks-falls xs)

-- of two elements at most one passes
exchange : {X : Type 0} (a b : Bool) (x y : X) (xs : List X) → (a ≡ true → b ≡ true → ⊥) → cond a (x ∷ cond b (y ∷ xs) xs) (cond b (y ∷ xs) xs) ≡ cond b (y ∷ cond a (x ∷ xs) xs) (cond a (x ∷ xs) xs)
exchange true true x y xs h = absurd (h refl refl)
exchange true false x y xs h = refl
exchange false true x y xs h = refl
exchange false false x y xs h = refl

apart : (j a b : ℕ) → b < a → eqb j a ≡ true → eqb j b ≡ true → ⊥
apart j a b l e h = grind (arith, nat_tests)

insert-at : (x : Row) (j : ℕ) (ys : List Row) → at (λ y. y.ticks) j (insert_by_ticks x ys) ≡ at (λ y. y.ticks) j (x ∷ ys)
insert-at x j [] = refl
insert-at x j (y ∷ ys) =
    ⊎_elim
    (λ (m : x.ticks < y.ticks).
    let e : leb y.ticks x.ticks ≡ false = grind (arith, nat_tests) in
    ap (λ b. at (λ (z : Row). z.ticks) j (cond b (x ∷ (y ∷ ys)) (y ∷ insert_by_ticks x ys))) e
    ∙ ap (λ z. cond (eqb j y.ticks) (y ∷ z) z) (insert-at x j ys)
    ∙ exchange (eqb j y.ticks) (eqb j x.ticks) y x (at (λ z. z.ticks) j ys) (apart j y.ticks x.ticks m))
    (λ (m : y.ticks ≤ x.ticks).
    let e : leb y.ticks x.ticks ≡ true = grind (arith, nat_tests) in
    ap (λ b. at (λ (z : Row). z.ticks) j (cond b (x ∷ (y ∷ ys)) (y ∷ insert_by_ticks x ys))) e)
    (cases_lt x.ticks y.ticks)

by_ticks-at : (j : ℕ) (xs : List Row) → at (λ x. x.ticks) j (by_ticks xs) ≡ at (λ x. x.ticks) j xs
by_ticks-at j [] = refl
by_ticks-at j (x ∷ xs) = insert-at x j (by_ticks xs) ∙ ap (λ z. cond (eqb j x.ticks) (x ∷ z) z) (by_ticks-at j xs)

-- ---- a stable sort of rows as they are kept

map-cond : (b : Bool) (x : ProcedureRow) (xs : List ProcedureRow) → cond b (row_of x ∷ rows_in xs) (rows_in xs) ≡ rows_in (cond b (x ∷ xs) xs)
map-cond true x xs = refl
map-cond false x xs = refl

at-map : (j : ℕ) (xs : List ProcedureRow) → at (λ x. x.ticks) j (rows_in xs) ≡ rows_in (at (λ x. x.ticks) j xs)
at-map j [] = refl
at-map j (x ∷ xs) = ap (λ z. cond (eqb j x.ticks) (row_of x ∷ z) z) (at-map j xs) ∙ map-cond (eqb j x.ticks) x (at (λ y. y.ticks) j xs)

-- x goes before y
abbrev pub goes_before : ProcedureRow → ProcedureRow → Bool
goes_before x y = is_lt (nat_cmp y.ticks x.ticks)

not_before : (a b : ℕ) → is_lt (nat_cmp a b) ≡ false → b ≤ a
not_before a b e = grind (arith, nat_tests)

later : (x : ProcedureRow) (xs : List ProcedureRow) (k : ℕ) (d : ProcedureRow) → goes_before (get_or (x ∷ xs) (suc k + 1) d) (get_or xs k d) ≡ false
    → goes_before (get_or xs (k + 1) d) (get_or xs k d) ≡ false
later x xs k d h =
    let e : suc k + 1 ≡ suc (k + 1) = omega arith in
    subst (λ i. goes_before (get_or (x ∷ xs) i d) (get_or xs k d) ≡ false) e h

falls : (b : Option ℕ) (xs : List ProcedureRow) → IsSortedBy goes_before xs → ((d : ProcedureRow) → 0 < length xs → AtMost b (get_or xs 0 d).ticks) → Falls (λ x. x.ticks) b (rows_in xs)
falls b [] h l = tt
falls b (x ∷ xs) h l = (
  l x (omega arith),
  falls (Some x.ticks) xs (λ k d a c. later x xs k d (h (suc k) d (omega arith) (omega arith)))
      (λ d c. not_before x.ticks (get_or xs 0 d).ticks (h 0 d (omega arith) (omega arith))),
)

tie : (a b : ℕ) → (not (is_lt (nat_cmp b a)) && not (is_lt (nat_cmp a b))) ≡ eqb a b
tie a b = grind (arith, nat_tests)

stable_at : (x : ProcedureRow) (xs : List ProcedureRow) → filter (ties goes_before x) xs ≡ at (λ y. y.ticks) x.ticks xs
stable_at x xs = λ i. filter (λ y. tie x.ticks y.ticks i) xs

here : ℕ → ProcedureRow
here j = record { proc = record { ref_ptr = (0, 0); now = record { name = []; «module» = []; start = 0; len = 0 } }; entered = 0; ticks = j }

stable_here : (j : ℕ) (xs : List ProcedureRow) → filter (ties goes_before (here j)) xs ≡ at (λ y. y.ticks) j xs
unfolding here
stable_here j xs = stable_at (here j) xs

-- rows that a stable sort put in order
pub sorted_is : (xs ys : List ProcedureRow) → IsSortedBy goes_before ys → IsStableBy goes_before xs ys → rows_in ys ≡ by_ticks (rows_in xs)
sorted_is xs ys sorted stable =
    unique (λ x. x.ticks) None None (rows_in ys) (by_ticks (rows_in xs)) (falls None ys sorted (λ d b. tt)) (by_ticks-falls (rows_in xs))
    (λ j. at-map j ys ∙ ap rows_in (sym (stable_here j ys) ∙ stable (here j) ∙ stable_here j xs) ∙ sym (at-map j xs) ∙ sym (by_ticks-at j (rows_in xs)))
