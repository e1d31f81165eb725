-- Where strings end.
use Rattle.std.proofs.Common.{◌≡◌, ◌≢◌, ℕ, zero, suc, ◌+◌, ◌-◌, ◌<◌, ◌≤◌, Bool, true, false, cond, List, [], ◌∷◌, length, drop, get_or, Ok, Err, refl, sym, ap, ◌∙◌, arith}
use Rattle.std.specs.Prelude.{◌||◌, ◌==◌, nat_lt}
use Rattle.std.proofs.Math.Seq.{drop-cons}
use Rattle.std.proofs.lemmas.Bool.{ne_eqb, eq-eqb, lt-ltb, le-ltb}
use Rattle.line_table.specs.Reading.{fault}
use Rattle.line_table.specs.Strings.{ended_len, name_len, string_here, place_in}
use Rattle.line_table.specs.declared.fault.FaultKind.TheVariants.{Truncated}
use Rattle.line_table.specs.declared.strings.StringSection.TheVariants.{Line}

-- ---- the last zero byte, where n bytes are ended behind a byte

none_here : (x n : ℕ) → x ≢ 0 → n ≡ 0 → cond ((x == 0) || nat_lt 0 n) (suc n) 0 ≡ 0
none_here x n ne e = ap (λ t. cond (t || nat_lt 0 n) (suc n) 0) (ne_eqb x 0 ne) ∙ ap (λ m. cond (nat_lt 0 m) (suc m) 0) e

zero_here : (x n : ℕ) → x ≡ 0 → n ≡ 0 → cond ((x == 0) || nat_lt 0 n) (suc n) 0 ≡ 1
zero_here x n is_zero none = ap (λ t. cond (t || nat_lt 0 n) (suc n) 0) (eq-eqb x 0 is_zero) ∙ ap (λ m. suc m) none

first_of_or : (t : Bool) (a b : ℕ) → cond (t || true) a b ≡ a
first_of_or true a b = refl
first_of_or false a b = refl

ended_here : (x n : ℕ) → 0 < n → cond ((x == 0) || nat_lt 0 n) (suc n) 0 ≡ suc n
ended_here x n some = ap (λ t. cond ((x == 0) || t) (suc n) 0) (lt-ltb 0 n some) ∙ first_of_or (x == 0) (suc n) 0

-- behind a byte that isn't 0 no string is ended either
pub ended_back : (b : List ℕ) (i : ℕ) → i < length b → get_or b i 0 ≢ 0 → ended_len (drop (suc i) b) ≡ 0 → ended_len (drop i b) ≡ 0
ended_back b i lt ne none = ap ended_len (drop-cons b i 0 lt) ∙ none_here (get_or b i 0) (ended_len (drop (suc i) b)) ne none

-- up to a zero byte all are
pub ended_all : (b : List ℕ) (i : ℕ) → i ≤ length b → ended_len (drop i b) ≡ 0 → (0 < i → get_or b (i - 1) 0 ≡ 0) → i ≡ ended_len b
ended_all b zero le none last = sym none
ended_all [] (suc i) le none last = absurd (omega arith)
ended_all (x ∷ xs) (suc zero) le none last = sym (zero_here x (ended_len xs) (last (omega arith)) none)
ended_all (x ∷ xs) (suc (suc i)) le none last =
    let here : suc i ≡ suc (suc i) - 1 = omega arith in
    let there : suc i - 1 ≡ i = omega arith in
    let e : suc i ≡ ended_len xs =
    ended_all xs (suc i) (omega arith) none (λ _. ap (λ n. get_or xs n 0) there ∙ ap (λ n. get_or (x ∷ xs) n 0) here ∙ last (omega arith)) in
    ap suc e ∙ sym (ended_here x (ended_len xs) (omega (arith, e)))

-- ---- past the end

pub no_string : (b : List ℕ) (at : ℕ) → length b ≤ at → string_here b at ≡ Err (fault at Truncated)
unfolding string_here
no_string b at le =
    ap (λ t. cond t (Ok (place_in Line at, at + name_len (drop at b) + 1)) (Err (fault at Truncated))) (le-ltb (at + name_len (drop at b)) (length b) (omega arith))
