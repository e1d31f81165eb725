-- What the entries of an array say at an address.
use Rattle.std.proofs.Common.{◌≡◌, ℕ, zero, suc, ◌+◌, ◌*◌, ◌<◌, ◌≤◌, List, [], ◌∷◌, ◌++◌, length, Option, Some, None, refl, sym, ap, subst, ◌∙◌, arith, get_or}
use Rattle.std.specs.Prelude.{Bool, true, false, cond, nat_eq, slice_set}
use Rattle.std.specs.FinMap.{from_entries, get, get-from_entries, find}
use Rattle.std.specs.Ordering.{nat_cmp, eq_by_cmp}
use Rattle.std.proofs.lemmas.Bool.{cond-false, eqb-true, ne_eqb}
use Rattle.std.proofs.lemmas.Cmp.{nat_cmp_total}
use Rattle.std.specs.Cmp.{unsigned_tied}
use Rattle.tramp_spec.specs.Codes.{is_word_of}
use Rattle.code_store.specs.Views.{entries_from}

-- what the array has for an address
abbrev pub read : {A : Type 0} → ℕ → List (Option A) → ℕ → Option A
read at [] q = None
read at (x ∷ xs) q = cond (nat_eq q at) x (read (at + 4) xs q)

-- it has nothing but for its own addresses
pub read_apart : {A : Type 0} (xs : List (Option A)) (at q : ℕ) → ((i : ℕ) → i < length xs → q ≡ at + 4 * i → ⊥) → read at xs q ≡ None
read_apart [] at q n = refl
read_apart (x ∷ xs) at q n =
    cond-false (nat_eq q at) _ _ (ne_eqb q at (λ e. n 0 (omega arith) (omega arith)))
    ∙ read_apart xs (at + 4) q (λ i l e. n (i + 1) (omega arith) (omega arith))

pub read_before : {A : Type 0} (xs : List (Option A)) (at q : ℕ) → q < at → read at xs q ≡ None
read_before xs at q l = read_apart xs at q (λ i k e. omega arith)

pub read_past : {A : Type 0} (xs : List (Option A)) (at q : ℕ) → at + 4 * length xs ≤ q → read at xs q ≡ None
read_past xs at q l = read_apart xs at q (λ i k e. omega arith)

pub read_outside : {A : Type 0} (xs : List (Option A)) (at q : ℕ) → is_word_of at (4 * length xs) q ≡ false → read at xs q ≡ None
read_outside xs at q o = read_apart xs at q (λ i l e. grind arith)

-- a read finds what the list of entries has
find_none : {A : Type 0} (xs : List (Option A)) (at q : ℕ) (b : Bool) → nat_eq q at ≡ b → read (at + 4) xs q ≡ cond b None (read (at + 4) xs q)
find_none xs at q true e = read_before xs (at + 4) q (let same = eqb-true q at e in omega arith)
find_none xs at q false e = refl

pub find_entries : {A : Type 0} (xs : List (Option A)) (at q : ℕ) → find nat_cmp q (entries_from at xs) ≡ read at xs q
find_entries [] at q = refl
find_entries (None ∷ xs) at q = find_entries xs (at + 4) q ∙ find_none xs at q (nat_eq q at) refl
find_entries (Some x ∷ xs) at q =
    ap (λ b. cond b (Some x) (find nat_cmp q (entries_from (at + 4) xs))) (unsigned_tied q at) ∙ ap (cond (nat_eq q at) (Some x)) (find_entries xs (at + 4) q)

-- after a write only its address has changed
set_first : {A : Type 0} (x v r : Option A) (b : Bool) → cond b v r ≡ cond b v (cond b x r)
set_first x v r true = refl
set_first x v r false = refl

set_later : {A : Type 0} (x v r : Option A) (b c : Bool) → (b ≡ true → c ≡ false) → cond b x (cond c v r) ≡ cond c v (cond b x r)
set_later x v r false c n = refl
set_later x v r true false n = refl
set_later x v r true true n = cc (n refl)

pub read-set : {A : Type 0} (xs : List (Option A)) (at i a q : ℕ) (v : Option A) → i < length xs → a ≡ at + 4 * i → read at (slice_set xs i v) q ≡ cond (nat_eq q a) v (read at xs q)
read-set [] at i a q v l e = absurd (omega arith)
read-set (x ∷ xs) at zero a q v l e =
    let same : a ≡ at = omega arith in
    set_first x v (read (at + 4) xs q) (nat_eq q at) ∙ ap (λ b. cond (nat_eq q b) v (cond (nat_eq q at) x (read (at + 4) xs q))) (sym same)
read-set (x ∷ xs) at (suc i) a q v l e =
    ap (cond (nat_eq q at) x) (read-set xs (at + 4) i a q v (omega arith) (omega arith))
    ∙ set_later x v (read (at + 4) xs q) (nat_eq q at) (nat_eq q a) (λ h. ne_eqb q a (λ z. let same = eqb-true q at h in omega arith))

-- the first of two
abbrev pub or_else : {A : Type 0} → Option A → Option A → Option A
or_else None o = o
or_else (Some x) o = Some x

find_append : {A : Type 0} (xs ys : List (ℕ × A)) (q : ℕ) → find nat_cmp q (xs ++ ys) ≡ or_else (find nat_cmp q xs) (find nat_cmp q ys)
find_append [] ys q = refl
find_append {A} (x ∷ xs) ys q = by (eq_by_cmp nat_cmp q x.0) (find_append xs ys q)
  where
    by : (b : Bool) → find nat_cmp q (xs ++ ys) ≡ or_else (find nat_cmp q xs) (find nat_cmp q ys) → cond b (Some x.1) (find nat_cmp q (xs ++ ys)) ≡ or_else (cond b (Some x.1) (find nat_cmp q xs)) (find nat_cmp q ys)
    by true h = refl
    by false h = h

-- a map of two arrays
pub get_both : {A : Type 0} (xs ys : List (Option A)) (at other q : ℕ) → get (from_entries {R = nat_cmp} (entries_from at xs ++ entries_from other ys)) q ≡ or_else (read at xs q) (read other ys q)
get_both xs ys at other q =
    get-from_entries nat_cmp_total (entries_from at xs ++ entries_from other ys) q
    ∙ find_append (entries_from at xs) (entries_from other ys) q
    ∙ ap (λ o. or_else o (find nat_cmp q (entries_from other ys))) (find_entries xs at q)
    ∙ ap (or_else (read at xs q)) (find_entries ys other q)

-- a map of one array
pub get_one : {A : Type 0} (xs : List (Option A)) (at q : ℕ) → get (from_entries {R = nat_cmp} (entries_from at xs)) q ≡ read at xs q
get_one xs at q = get-from_entries nat_cmp_total (entries_from at xs) q ∙ find_entries xs at q

-- an element that was read is read again, whatever is given where there is none
pub get_or-same : {A : Type 0} (xs : List A) (i : ℕ) (d : A) → i < length xs → get_or xs i d ≡ get_or xs i (get_or xs i d)
get_or-same [] i d l = absurd (omega arith)
get_or-same (x ∷ xs) zero d l = refl
get_or-same (x ∷ xs) (suc i) d l = get_or-same xs i d (omega arith)

pub read_same : {A : Type 0} (xs ys : List A) (i : ℕ) (d : A) → xs ≡ ys → i < length ys → get_or xs i d ≡ get_or ys i (get_or xs i d)
read_same {A} xs ys i d e l = subst (λ (zs : List A). get_or zs i d ≡ get_or ys i (get_or zs i d)) (sym e) (get_or-same ys i d l)
