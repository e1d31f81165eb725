-- The map that regions stand for.
use Rattle.std.proofs.Common.{◌≡◌, ℕ, zero, suc, ◌+◌, ◌-◌, ◌<◌, ◌≤◌, List, [], ◌∷◌, ◌++◌, length, Option, Some, None, refl, sym, ap, ◌∙◌, arith, ⊎_elim}
use Rattle.std.specs.Prelude.{Bool, true, false, cond, nat_eq, slice_index}
use Rattle.std.proofs.lemmas.Bool.{cases_lt, cond-true, cond-false, eq-eqb, ne_eqb}
use Rattle.std.specs.FinMap.{from_entries, insert, get, get-from_entries, get-insert, same_map, nat_cmp-IsAntisymmetric, find}
use Rattle.std.specs.Ordering.{nat_cmp, eq_by_cmp}
use Rattle.std.proofs.lemmas.Cmp.{nat_cmp_total}
use Rattle.std.specs.Cmp.{unsigned_tied}
use Rattle.rv_word.specs.Memory.{numbered}
use Rattle.rv_mem.specs.declared.mapped.Region.{Region}
use Rattle.rv_mem.specs.Regions.{content, place_in, byte_or, first_byte, entries_of}

-- the first of two
abbrev or_else : Option ℕ → Option ℕ → Option ℕ
or_else None o = o
or_else (Some x) o = Some x

find_append : (xs ys : List (ℕ × ℕ)) (q : ℕ) → find nat_cmp q (xs ++ ys) ≡ or_else (find nat_cmp q xs) (find nat_cmp q ys)
find_append [] ys q = refl
find_append (x ∷ xs) ys q = by (eq_by_cmp nat_cmp q x.0) (find_append xs ys q)
  where
    by : (b : Bool) → find nat_cmp q (xs ++ ys) ≡ or_else (find nat_cmp q xs) (find nat_cmp q ys) → cond b (Some x.1) (find nat_cmp q (xs ++ ys)) ≡ or_else (cond b (Some x.1) (find nat_cmp q xs)) (find nat_cmp q ys)
    by true h = refl
    by false h = h

find_next : (b : ℕ) (bs : List ℕ) (at q : ℕ) → (q ≡ at → ⊥) → find nat_cmp q (numbered at (b ∷ bs)) ≡ find nat_cmp q (numbered (at + 1) bs)
find_next b bs at q n = cond-false (eq_by_cmp nat_cmp q at) _ _ (unsigned_tied q at ∙ ne_eqb q at n)

-- outside of the bytes there is nothing
find_before : (bs : List ℕ) (at q : ℕ) → q < at → find nat_cmp q (numbered at bs) ≡ None
find_before [] at q l = refl
find_before (b ∷ bs) at q l = find_next b bs at q (λ e. omega arith) ∙ find_before bs (at + 1) q (omega arith)

find_past : (bs : List ℕ) (at q : ℕ) → at + length bs ≤ q → find nat_cmp q (numbered at bs) ≡ None
find_past [] at q l = refl
find_past (b ∷ bs) at q l = find_next b bs at q (λ e. omega arith) ∙ find_past bs (at + 1) q (omega arith)

find_within : (bs : List ℕ) (at i q : ℕ) → q ≡ at + i → i < length bs → find nat_cmp q (numbered at bs) ≡ Some (slice_index bs i)
find_within [] at i q e l = absurd (omega arith)
find_within (b ∷ bs) at zero q e l =
    cond-true (eq_by_cmp nat_cmp q at) _ _ (unsigned_tied q at ∙ eq-eqb q at (omega arith))
find_within (b ∷ bs) at (suc i) q e l =
    find_next b bs at q (λ z. omega arith) ∙ find_within bs (at + 1) i q (omega arith) (omega arith)

place_in-before : (at len q : ℕ) → q < at → place_in at len q ≡ None
place_in-before at len q l = grind arith

place_in-past : (at len q : ℕ) → at ≤ q → len ≤ q - at → place_in at len q ≡ None
place_in-past at len q l k = grind arith

pub place_in-within : (at len q : ℕ) → at ≤ q → q - at < len → place_in at len q ≡ Some (q - at)
place_in-within at len q l k = grind arith

-- the bytes of one region, before those of the later ones
one : (bs : List ℕ) (at q : ℕ) (rest : Option ℕ) → or_else (find nat_cmp q (numbered at bs)) rest ≡ byte_or (place_in at (length bs) q) bs rest
one bs at q rest =
    ⊎_elim
    (λ (l : q < at). ap (λ o. or_else o rest) (find_before bs at q l) ∙ sym (ap (λ f. byte_or f bs rest) (place_in-before at (length bs) q l)))
    (λ (l : at ≤ q).
    ⊎_elim
    (λ (k : q - at < length bs).
    ap (λ o. or_else o rest) (find_within bs at (q - at) q (omega arith) k) ∙ sym (ap (λ f. byte_or f bs rest) (place_in-within at (length bs) q l k)))
    (λ (k : length bs ≤ q - at).
    ap (λ o. or_else o rest) (find_past bs at q (omega arith)) ∙ sym (ap (λ f. byte_or f bs rest) (place_in-past at (length bs) q l k)))
    (cases_lt (q - at) (length bs)))
    (cases_lt q at)

find_entries : (ss : List Region) (q : ℕ) → find nat_cmp q (entries_of ss) ≡ first_byte ss q
find_entries [] q = refl
find_entries (s ∷ ss) q =
    find_append (numbered s.at (content s)) (entries_of ss) q
    ∙ one (content s) s.at q (find nat_cmp q (entries_of ss))
    ∙ ap (byte_or (place_in s.at (length (content s)) q) (content s)) (find_entries ss q)

-- what the map has is the byte of the first region that holds the address
pub get_flat : (ss : List Region) (q : ℕ) → get (from_entries {R = nat_cmp} (entries_of ss)) q ≡ first_byte ss q
get_flat ss q = get-from_entries nat_cmp_total (entries_of ss) q ∙ find_entries ss q

-- regions that differ at one address stand for maps that differ there
pub put_flat : (ss ts : List Region) (a b : ℕ) → ((q : ℕ) → first_byte ts q ≡ cond (nat_eq q a) (Some b) (first_byte ss q)) → from_entries {R = nat_cmp} (entries_of ts) ≡ insert (from_entries (entries_of ss)) a b
put_flat ss ts a b h = same_map nat_cmp_total nat_cmp-IsAntisymmetric _ _ (λ q.
    get_flat ts q ∙ h q ∙ sym (get-insert nat_cmp_total (from_entries (entries_of ss)) a b q ∙ ap (λ t. cond t (Some b) (get {R = nat_cmp} (from_entries (entries_of ss)) q)) (unsigned_tied q a) ∙ ap (cond (nat_eq q a) (Some b)) (get_flat ss q)))

-- two functions that agree at each argument are one
pub funext : {A B : Type 0} {f g : A → B} → ((x : A) → f x ≡ g x) → f ≡ g
funext h = λ i x. h x i
