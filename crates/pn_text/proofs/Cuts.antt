-- Where the first line of a text ends.
use Rattle.std.proofs.Common.{◌≡◌, ℕ, suc, ◌+◌, ◌<◌, ◌==◌, ◌&&◌, cond, Bool, true, false, List, [], ◌∷◌, ◌++◌, length, take, drop, refl, ◌∙◌, arith, Some, None, position, subst, nat_lt, ◌≤◌, not}
use Rattle.std.specs.List.{onto_first, position_or_len}
use Rattle.std.proofs.lemmas.Bool.{ltb-true, ltb-false}
use Rattle.std.proofs.lemmas.List.Sums.{prefix_len-le-length}
use Rattle.std.proofs.Math.Seq.{drop-length}
use Rattle.pn_text.specs.Lines.{lines, begins_with_lf, is_lf, no_cr, is_none}

is_none_last : (xs : List ℕ) (x : ℕ) → is_none (xs ++ (x ∷ [])) ≡ false
is_none_last [] x = refl
is_none_last (y ∷ xs) x = refl

and_false : (b : Bool) → (b && false) ≡ false
and_false true = refl
and_false false = refl

pub no_cr_last : (xs : List ℕ) (x : ℕ) → no_cr (xs ++ (x ∷ [])) ≡ cond (x == 13) xs (xs ++ (x ∷ []))
no_cr_last [] x = elim (x == 13) as (λ b. cond (b && true) [] (x ∷ []) ≡ cond b [] (x ∷ [])) [ true ↦ refl | false ↦ refl ]
no_cr_last (y ∷ xs) x =
    rw (is_none_last xs x, and_false (y == 13), no_cr_last xs x)
    (elim (x == 13) as (λ b. y ∷ cond b xs (xs ++ (x ∷ [])) ≡ cond b (y ∷ xs) (y ∷ (xs ++ (x ∷ [])))) [ true ↦ refl | false ↦ refl ])

abbrev at_lf : List ℕ → ℕ
at_lf xs = position_or_len is_lf xs

-- what an LF at the place gives
abbrev Ended : List ℕ → ℕ → Type 0
Ended xs k = lines xs ≡ no_cr (take k xs) ∷ lines (drop (k + 1) xs)

take_one_more : (x : ℕ) (xs : List ℕ) (k : ℕ) → take (1 + k) (x ∷ xs) ≡ x ∷ take k xs
take_one_more x xs k = let e : 1 + k ≡ suc k = omega arith in rw e refl

drop_one_more : (x : ℕ) (xs : List ℕ) (k : ℕ) → drop (1 + k + 1) (x ∷ xs) ≡ drop (k + 1) xs
drop_one_more x xs k = let e : 1 + k + 1 ≡ suc (k + 1) = omega arith in rw e refl

-- a byte that is no LF, and no CR before one
plain_step : (x : ℕ) (xs : List ℕ) (k : ℕ) → (x == 10) ≡ false → ((x == 13) && begins_with_lf xs) ≡ false → ((x == 13) && is_none (take k xs)) ≡ false → Ended xs k → Ended (x ∷ xs) (1 + k)
plain_step x xs k lf cr_lf cr more = rw (take_one_more x xs k, drop_one_more x xs k, lf, cr_lf, cr, more) refl

-- a CR before an LF
cr_step : (x y : ℕ) (ys : List ℕ) → (x == 10) ≡ false → (x == 13) ≡ true → (y == 10) ≡ true → Ended (x ∷ y ∷ ys) 1
cr_step x y ys lf cr next = rw (lf, cr, next) refl

after_cr : (x y : ℕ) (ys : List ℕ) (next : Bool) → (x == 10) ≡ false → (x == 13) ≡ true → (y == 10) ≡ next → at_lf (y ∷ ys) < length (y ∷ ys) → (at_lf (y ∷ ys) < length (y ∷ ys) → Ended (y ∷ ys) (at_lf (y ∷ ys))) → Ended (x ∷ y ∷ ys) (1 + at_lf (y ∷ ys))
after_cr x y ys true lf cr next h more =
    let here : at_lf (y ∷ ys) ≡ 0 = rw next refl in
    rw here (cr_step x y ys lf cr next)
after_cr x y ys false lf cr next h more =
    let here : at_lf (y ∷ ys) ≡ 1 + at_lf ys = rw next refl in
    plain_step x (y ∷ ys) (at_lf (y ∷ ys)) lf (rw (cr, next) refl) (rw (cr, here, take_one_more y ys (at_lf ys)) refl) (more h)

ended_after : (x : ℕ) (xs : List ℕ) (cr : Bool) → (x == 10) ≡ false → (x == 13) ≡ cr → at_lf xs < length xs → (at_lf xs < length xs → Ended xs (at_lf xs)) → Ended (x ∷ xs) (1 + at_lf xs)
ended_after x xs false lf cr h more = plain_step x xs (at_lf xs) lf (rw cr refl) (rw cr refl) (more h)
ended_after x [] true lf cr h more = absurd (omega arith)
ended_after x (y ∷ ys) true lf cr h more = after_cr x y ys (y == 10) lf cr refl h more

-- with an LF the first line ends
ended_step : (x : ℕ) (xs : List ℕ) (lf : Bool) → (x == 10) ≡ lf → (at_lf xs < length xs → Ended xs (at_lf xs)) → at_lf (x ∷ xs) < length (x ∷ xs) → Ended (x ∷ xs) (at_lf (x ∷ xs))
ended_step x xs true lf more h = rw lf refl
ended_step x xs false lf more h =
    let here : at_lf (x ∷ xs) ≡ 1 + at_lf xs = rw lf refl in
    rw here (ended_after x xs (x == 13) lf refl (omega arith) more)

pub lines_ended : (xs : List ℕ) → at_lf xs < length xs → Ended xs (at_lf xs)
lines_ended [] h = absurd (omega arith)
lines_ended (x ∷ xs) h = ended_step x xs (x == 10) refl (lines_ended xs) h

-- one line, where there are bytes
abbrev only : List ℕ → List (List ℕ)
only [] = []
only (x ∷ xs) = (x ∷ xs) ∷ []

onto_only : (x : ℕ) (xs : List ℕ) → onto_first x (only xs) ≡ (x ∷ xs) ∷ []
onto_only x [] = refl
onto_only x (y ∷ ys) = refl

no_lf_step : (y : ℕ) (ys : List ℕ) (lf : Bool) → (y == 10) ≡ lf → at_lf (y ∷ ys) ≡ length (y ∷ ys) → (y == 10) ≡ false
no_lf_step y ys false lf h = lf
no_lf_step y ys true lf h = let here : at_lf (y ∷ ys) ≡ 0 = rw lf refl in absurd (omega arith)

no_lf_first : (xs : List ℕ) → at_lf xs ≡ length xs → begins_with_lf xs ≡ false
no_lf_first [] h = refl
no_lf_first (y ∷ ys) h = no_lf_step y ys (y == 10) refl h

and_no : (b c : Bool) → c ≡ false → (b && c) ≡ false
and_no b c h = rw h (and_false b)

-- with no LF all is one line
pub lines_unended : (xs : List ℕ) → at_lf xs ≡ length xs → lines xs ≡ only xs
lines_unended [] h = refl
lines_unended (x ∷ xs) h =
    let lf = no_lf_step x xs (x == 10) refl h in
    let here : at_lf (x ∷ xs) ≡ 1 + at_lf xs = rw lf refl in
    let rest : at_lf xs ≡ length xs = omega arith in
    rw (lf, and_no (x == 13) (begins_with_lf xs) (no_lf_first xs rest), lines_unended xs rest) (onto_only x xs)

some_only : (b : Bool) (m k : ℕ) → cond b (Some m) None ≡ Some k → (b ≡ true) × (m ≡ k)
some_only true m k e = (refl, cc)
some_only false m k e = cc

none_only : (b : Bool) (m : ℕ) → cond b (Some m) None ≡ None → b ≡ false
none_only true m e = cc
none_only false m e = refl

-- the first line ends at the place of an LF
pub ended_at : (xs : List ℕ) (k : ℕ) → position is_lf xs ≡ Some k → Ended xs k
ended_at xs k e =
    let f = some_only (nat_lt (at_lf xs) (length xs)) (at_lf xs) k e in
    subst (λ (j : ℕ). Ended xs j) f.1 (lines_ended xs (ltb-true _ _ f.0))

-- with no place there is none
unended_at : (xs : List ℕ) → position is_lf xs ≡ None → lines xs ≡ only xs
unended_at xs e =
    let f = none_only (nat_lt (at_lf xs) (length xs)) (at_lf xs) e in
    let least : at_lf xs ≤ length xs = prefix_len-le-length (λ x. not (is_lf x)) xs in
    lines_unended xs (omega (arith, ltb-false (at_lf xs) (length xs) f))

only_one : (xs : List ℕ) → (length xs == 0) ≡ false → only xs ≡ xs ∷ []
only_one [] h = cc
only_one (x ∷ xs) h = refl

-- and after it is nothing
pub last_line : (xs : List ℕ) → (length xs == 0) ≡ false → position is_lf xs ≡ None → lines xs ≡ xs ∷ lines (drop (length xs) xs)
last_line xs some e = rw (drop-length xs) (unended_at xs e ∙ only_one xs some)
