-- A stable sort by address has one result.
use Rattle.std.proofs.Common.{◌≡◌, ℕ, suc, ◌<◌, ◌≤◌, List, [], ◌∷◌, length, get_or, map, Bool, true, false, not, ◌&&◌, cond, eqb, leb, refl, ap, sym, subst, ◌∙◌, ⊎_elim, arith}
use Rattle.std.specs.List.{filter}
use Rattle.std.specs.List.Sorted.{IsNonDecreasingBy, IsStableByKey, ties}
use Rattle.std.specs.Ordering.{is_lt, nat_cmp}
use Rattle.std.proofs.lemmas.Bool.{cases_lt}
use Rattle.std.proofs.lemmas.Bool.Decides.{nat_tests}
use Rattle.pn_types.specs.declared.image.Symbol.{Symbol}
use Rattle.pn_types.specs.declared.image.SymKind.TheVariants.{Func}
use Rattle.code_points.specs.Procedures.{insert_by_address, by_address}
use denote.Ref.{Bor}

-- the numbers n of the elements don't fall, and the first is at least k
abbrev pub Rises : {X : Type 0} → (X → ℕ) → ℕ → List X → Type 0
Rises n k [] = Unit {0}
Rises n k (x ∷ xs) = (k ≤ n x) × Rises n (n x) xs

-- the elements whose number is j
abbrev at : {X : Type 0} → (X → ℕ) → ℕ → List X → List X
at n j xs = filter (λ x. eqb j (n x)) xs

-- ---- two lists that rise, with the same elements of each number, are one

none_below : {X : Type 0} (n : X → ℕ) (j k : ℕ) (xs : List X) → Rises n k xs → j < k → at n j xs ≡ []
none_below n j k [] h l = refl
none_below n j k (x ∷ xs) h l =
    let e : eqb j (n x) ≡ false = grind (arith, nat_tests) in
    ap (λ b. cond b (x ∷ at n j xs) (at n j xs)) e ∙ none_below n j (n x) xs h.1 (omega (arith, h.0))

at_head : {X : Type 0} (n : X → ℕ) (j : ℕ) (x : X) (xs : List X) → j ≡ n x → at n j (x ∷ xs) ≡ x ∷ at n j xs
at_head n j x xs e =
    let t : eqb j (n x) ≡ true = grind (arith, nat_tests) in
    ap (λ b. cond b (x ∷ at n j xs) (at n j xs)) t

not_nil : {X : Type 0} (x : X) (xs ys : List X) → ys ≡ x ∷ xs → ys ≡ [] → ⊥
not_nil x xs ys e h = cc

joined : {X : Type 0} (x y : X) (xs ys us vs : List X) → x ∷ us ≡ y ∷ vs → xs ≡ ys → x ∷ xs ≡ y ∷ ys
joined x y xs ys us vs h e = cc

same : {X : Type 0} (b : Bool) (x y : X) (xs ys : List X) → cond b (x ∷ xs) xs ≡ cond b (y ∷ ys) ys → xs ≡ ys
same true x y xs ys h = cc
same false x y xs ys h = h

-- the tails agree where the lists with their heads do, which have the same number
tails : {X : Type 0} (n : X → ℕ) (j : ℕ) (x y : X) (xs ys : List X) → n x ≡ n y → at n j (x ∷ xs) ≡ at n j (y ∷ ys) → at n j xs ≡ at n j ys
tails n j x y xs ys e h = same (eqb j (n x)) x y (at n j xs) (at n j ys) (h ∙ ap (λ k. cond (eqb j k) (y ∷ at n j ys) (at n j ys)) (sym e))

unique : {X : Type 0} (n : X → ℕ) (k : ℕ) (xs ys : List X) → Rises n k xs → Rises n k ys → ((j : ℕ) → at n j xs ≡ at n j ys) → xs ≡ ys
unique n k [] [] a b h = refl
unique n k [] (y ∷ ys) a b h = absurd (not_nil y _ _ (at_head n (n y) y ys refl) (sym (h (n y))))
unique n k (x ∷ xs) [] a b h = absurd (not_nil x _ _ (at_head n (n x) x xs refl) (h (n x)))
unique n k (x ∷ xs) (y ∷ ys) a b h =
    ⊎_elim
    (λ (l : n x < n y). absurd (not_nil x _ _ (at_head n (n x) x xs refl) (h (n x) ∙ none_below n (n x) (n y) (y ∷ ys) (omega arith, b.1) l)))
    (λ (l : n y ≤ n x). ⊎_elim
    (λ (m : n y < n x). absurd (not_nil y _ _ (at_head n (n y) y ys refl) (sym (h (n y)) ∙ none_below n (n y) (n x) (x ∷ xs) (omega arith, a.1) m)))
    (λ (m : n x ≤ n y).
    let e : n x ≡ n y = omega arith in
    let heads = sym (at_head n (n x) x xs refl) ∙ h (n x) ∙ at_head n (n x) y ys e in
    let same_tail : xs ≡ ys = unique n (n x) xs ys a.1 (subst (λ i. Rises n i ys) (sym e) b.1) (λ j. tails n j x y xs ys e (h j)) in
    joined x y xs ys _ _ heads same_tail)
    (cases_lt (n y) (n x)))
    (cases_lt (n x) (n y))

-- ---- by_address

insert-rises : (s : Symbol) (k : ℕ) (ss : List Symbol) → k ≤ s.at → Rises (λ s. s.at) k ss → Rises (λ s. s.at) k (insert_by_address s ss)
insert-rises s k [] l h = (l, tt)
insert-rises s k (t ∷ ts) l h =
    ⊎_elim
    (λ (m : t.at < s.at).
    let e : leb s.at t.at ≡ false = grind (arith, nat_tests) in
    subst (λ b. Rises (λ s. s.at) k (cond b (s ∷ (t ∷ ts)) (t ∷ insert_by_address s ts))) (sym e) (h.0, insert-rises s t.at ts (omega arith) h.1))
    (λ (m : s.at ≤ t.at).
    let e : leb s.at t.at ≡ true = grind (arith, nat_tests) in
    subst (λ b. Rises (λ s. s.at) k (cond b (s ∷ (t ∷ ts)) (t ∷ insert_by_address s ts))) (sym e) (l, (m, h.1)))
    (cases_lt t.at s.at)

pub by_address-rises : (ss : List Symbol) → Rises (λ s. s.at) 0 (by_address ss)
by_address-rises [] = tt
by_address-rises (s ∷ ss) = insert-rises s 0 (by_address ss) (omega arith) (by_address-rises ss)

either : (b : Bool) (s t : Symbol) (ts us : List Symbol) → length us ≡ suc (length ts) → length (cond b (s ∷ (t ∷ ts)) (t ∷ us)) ≡ suc (suc (length ts))
either true s t ts us h = refl
either false s t ts us h = ap suc h

length-insert : (s : Symbol) (ss : List Symbol) → length (insert_by_address s ss) ≡ suc (length ss)
length-insert s [] = refl
length-insert s (t ∷ ts) = either (leb s.at t.at) s t ts (insert_by_address s ts) (length-insert s ts)

pub length-by_address : (ss : List Symbol) → length (by_address ss) ≡ length ss
length-by_address [] = refl
length-by_address (s ∷ ss) = length-insert s (by_address ss) ∙ ap suc (length-by_address ss)

-- of two elements at most one passes
exchange : {X : Type 0} (a b : Bool) (x y : X) (xs : List X) → (a ≡ true → b ≡ true → ⊥) → cond a (x ∷ cond b (y ∷ xs) xs) (cond b (y ∷ xs) xs) ≡ cond b (y ∷ cond a (x ∷ xs) xs) (cond a (x ∷ xs) xs)
exchange true true x y xs h = absurd (h refl refl)
exchange true false x y xs h = refl
exchange false true x y xs h = refl
exchange false false x y xs h = refl

apart : (j a b : ℕ) → a < b → eqb j a ≡ true → eqb j b ≡ true → ⊥
apart j a b l e h = grind (arith, nat_tests)

insert-at : (s : Symbol) (j : ℕ) (ss : List Symbol) → at (λ s. s.at) j (insert_by_address s ss) ≡ at (λ s. s.at) j (s ∷ ss)
insert-at s j [] = refl
insert-at s j (t ∷ ts) =
    ⊎_elim
    (λ (m : t.at < s.at).
    let e : leb s.at t.at ≡ false = grind (arith, nat_tests) in
    ap (λ b. at (λ (s : Symbol). s.at) j (cond b (s ∷ (t ∷ ts)) (t ∷ insert_by_address s ts))) e
    ∙ ap (λ z. cond (eqb j t.at) (t ∷ z) z) (insert-at s j ts)
    ∙ exchange (eqb j t.at) (eqb j s.at) t s (at (λ s. s.at) j ts) (apart j t.at s.at m))
    (λ (m : s.at ≤ t.at).
    let e : leb s.at t.at ≡ true = grind (arith, nat_tests) in
    ap (λ b. at (λ (s : Symbol). s.at) j (cond b (s ∷ (t ∷ ts)) (t ∷ insert_by_address s ts))) e)
    (cases_lt t.at s.at)

by_address-at : (j : ℕ) (ss : List Symbol) → at (λ s. s.at) j (by_address ss) ≡ at (λ s. s.at) j ss
by_address-at j [] = refl
by_address-at j (s ∷ ss) = insert-at s j (by_address ss) ∙ ap (λ z. cond (eqb j s.at) (s ∷ z) z) (by_address-at j ss)

-- ---- a stable sort of references

map-cond : (b : Bool) (r : Bor Symbol) (rs : List (Bor Symbol)) → cond b (r.now ∷ map (λ r. r.now) rs) (map (λ r. r.now) rs) ≡ map (λ r. r.now) (cond b (r ∷ rs) rs)
map-cond true r rs = refl
map-cond false r rs = refl

at-map : (j : ℕ) (rs : List (Bor Symbol)) → at (λ s. s.at) j (map (λ r. r.now) rs) ≡ map (λ r. r.now) (at (λ r. r.now.at) j rs)
at-map j [] = refl
at-map j (r ∷ rs) = ap (λ z. cond (eqb j r.now.at) (r.now ∷ z) z) (at-map j rs) ∙ map-cond (eqb j r.now.at) r (at (λ r. r.now.at) j rs)

rises : (k : ℕ) (rs : List (Bor Symbol)) → IsNonDecreasingBy (λ r. r.now.at) rs → ((d : Bor Symbol) → 0 < length rs → k ≤ (get_or rs 0 d).now.at) → Rises (λ s. s.at) k (map (λ r. r.now) rs)
rises k [] h l = tt
rises k (r ∷ rs) h l = (l r (omega arith), rises r.now.at rs (λ i j d a b. h (suc i) (suc j) d (omega arith) (omega arith)) (λ d b. h 0 1 d (omega arith) (omega arith)))

tie : (a b : ℕ) → (not (is_lt (nat_cmp a b)) && not (is_lt (nat_cmp b a))) ≡ eqb a b
tie a b = grind (arith, nat_tests)

here : ℕ → Bor Symbol
here j = record { ref_ptr = (0, 0); now = record { name = []; kind = Func; at = j; size = 0; «module» = [] } }

stable_at : (j : ℕ) (rs : List (Bor Symbol)) → filter (ties (λ x y. is_lt (nat_cmp x.now.at y.now.at)) (here j)) rs ≡ at (λ r. r.now.at) j rs
unfolding here
stable_at j rs = λ i. filter (λ r. tie j r.now.at i) rs

-- references that a stable sort by address put in order
pub sorted_is : (rs ts : List (Bor Symbol)) → IsNonDecreasingBy (λ r. r.now.at) ts → IsStableByKey (λ (r : Bor Symbol). r.now.at) nat_cmp rs ts → map (λ r. r.now) ts ≡ by_address (map (λ r. r.now) rs)
sorted_is rs ts up stable =
    unique (λ s. s.at) 0 (map (λ r. r.now) ts) (by_address (map (λ r. r.now) rs)) (rises 0 ts up (λ d b. omega arith)) (by_address-rises (map (λ r. r.now) rs))
    (λ j. at-map j ts ∙ ap (λ z. map (λ r. r.now) z) (sym (stable_at j ts) ∙ stable (here j) ∙ stable_at j rs) ∙ sym (at-map j rs) ∙ sym (by_address-at j (map (λ r. r.now) rs)))
