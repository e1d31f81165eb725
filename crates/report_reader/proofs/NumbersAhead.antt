-- A number is read from the digits that are printed of it, and from no others.
use Rattle.std.proofs.Common.{◌≡◌, ℕ, zero, suc, ◌+◌, ◌-◌, ◌*◌, ◌/◌, ◌%◌, ◌^◌, ◌<◌, ◌≤◌, ◌==◌, nat_lt, cond, Bool, true, false, Some, None, List, [], ◌∷◌, ◌++◌, length, drop, take, bytes_eq, refl, sym, ap, ◌∙◌, arith, append_assoc, subst}
use Rattle.std.specs.Fmt.{decimal}
use Rattle.std.proofs.lemmas.Bool.{eqb-true, lt-ltb, ltb-true}
use Rattle.std.proofs.lemmas.Fmt.{decimal_by_steps, decimal_digit, decimal_step}
use Rattle.std.proofs.lemmas.List.{drop_at, take-append-drop, take_at}
use Rattle.std.proofs.lemmas.Option.{same_Some}
use Rattle.std.proofs.lemmas.Slice.Eq.{bytes_eq-Decides}
use Rattle.pn_text.specs.Numbers.{is_digit}
use Rattle.report_lines.specs.Readable.{Is64Bit}
use Rattle.report_reader.specs.BinLines.{number_ahead, number_behind, with_more_digits}

-- no digit stands first
abbrev pub EndsNumber : List ℕ → Type 0
EndsNumber [] = Unit {0}
EndsNumber (byte ∷ bytes) = is_digit byte ≡ false

-- ---- from digits to the number

digit_is : (d : ℕ) → d < 10 → is_digit (48 + d) ≡ true
digit_is d h = grind arith

-- one more digit
digit_step : (n d m : ℕ) (rest : List ℕ) → d < 10 → n * 10 + d ≡ m → Is64Bit m → with_more_digits n ((48 + d) ∷ rest) ≡ with_more_digits m rest
digit_step n d m rest small same h =
    let value : 48 + d - 48 ≡ d = omega arith in
    rw (digit_is d small, value, same, lt-ltb m (2 ^ 64) h) refl

from_end : (n : ℕ) (rest : List ℕ) → EndsNumber rest → with_more_digits n rest ≡ Some (n, rest)
from_end n [] h = refl
from_end n (byte ∷ bytes) h = rw h refl

-- these digits give the number
abbrev Gives : ℕ → List ℕ → Type 0
Gives n digits = 0 < n → Is64Bit n → (rest : List ℕ) → number_ahead (digits ++ rest) ≡ with_more_digits n rest

gives_one : (n : ℕ) → n < 10 → Gives n ((48 + n) ∷ [])
gives_one n h some fits rest =
    let other : (48 + n == 48) ≡ false = grind arith in
    let value : 48 + n - 48 ≡ n = omega arith in
    rw (other, digit_is n h, value) refl

gives_more : (n : ℕ) (digits : List ℕ) → 10 ≤ n → Gives (n / 10) digits → Gives n (digits ++ ((48 + n % 10) ∷ []))
gives_more n digits h s some fits rest =
    ap number_ahead (append_assoc digits ((48 + n % 10) ∷ []) rest)
    ∙ s (omega arith) (omega arith) ((48 + n % 10) ∷ rest)
    ∙ digit_step (n / 10) (n % 10) n rest (omega arith) (omega arith) fits

ahead_read : (n : ℕ) (rest : List ℕ) → Is64Bit n → EndsNumber rest → number_ahead (decimal n ++ rest) ≡ Some (n, rest)
ahead_read zero rest h e = ap (λ (l : List ℕ). number_ahead (l ++ rest)) (decimal_digit 0 (omega arith))
ahead_read (suc n) rest h e = decimal_by_steps Gives gives_one gives_more (suc n) h (omega arith) h rest ∙ from_end (suc n) rest e

pub behind_read : (text : List ℕ) (n : ℕ) (rest : List ℕ) → Is64Bit n → EndsNumber rest → number_behind text (text ++ (decimal n ++ rest)) ≡ Some (n, rest)
behind_read text n rest h e =
    let same : bytes_eq text text ≡ true = (bytes_eq-Decides text text).1 refl in
    rw (take_at text (decimal n ++ rest) (length text) refl, drop_at text (decimal n ++ rest) (length text) refl, same) (ahead_read n rest h e)

-- ---- from the number to its digits

-- these bytes are what is printed of a number, and then the rest
abbrev IsAhead : List ℕ → ℕ → List ℕ → Type 0
IsAhead bytes n rest = (bytes ≡ decimal n ++ rest) × Is64Bit n

told : (p q : ℕ × List ℕ) → Is64Bit p.0 → Some p ≡ Some q → IsAhead (decimal p.0 ++ p.1) q.0 q.1
told p q h e = subst (λ (r : ℕ × List ℕ). IsAhead (decimal p.0 ++ p.1) r.0 r.1) (same_Some p q e) (refl, h)

-- one more digit
module _ (n m byte : ℕ) (bytes rest : List ℕ) (some : 0 < n) where
  abbrev next : ℕ
  next = n * 10 + (byte - 48)

  abbrev Told : Type 0
  Told = IsAhead (decimal n ++ byte ∷ bytes) m rest

  abbrev More : Type 0
  More = Is64Bit next → with_more_digits next bytes ≡ Some (m, rest) → IsAhead (decimal next ++ bytes) m rest

  digit_back : Is64Bit next → is_digit byte ≡ true → IsAhead (decimal next ++ bytes) m rest → Told
  digit_back fits digit more =
      let low : 48 ≤ byte = grind arith in
      let high : byte ≤ 57 = grind arith in
      let front : next / 10 ≡ n = omega arith in
      let last : 48 + next % 10 ≡ byte = omega arith in
      let step : decimal next ≡ decimal n ++ byte ∷ [] = decimal_step next (omega arith) fits ∙ rw (front, last) refl in
      (sym (append_assoc (decimal n) (byte ∷ []) bytes) ∙ ap (λ (l : List ℕ). l ++ bytes) (sym step) ∙ more.0, more.1)

  in_range : (b : Bool) → nat_lt next (2 ^ 64) ≡ b → is_digit byte ≡ true → More → cond b (with_more_digits next bytes) None ≡ Some (m, rest) → Told
  in_range false f digit more e = cc
  in_range true f digit more e = let fits : Is64Bit next = ltb-true next (2 ^ 64) f in digit_back fits digit (more fits e)

  by_digit : (b : Bool) → is_digit byte ≡ b → Is64Bit n → More → cond b (cond (nat_lt next (2 ^ 64)) (with_more_digits next bytes) None) (Some (n, byte ∷ bytes)) ≡ Some (m, rest) → Told
  by_digit true digit h more e = in_range (nat_lt next (2 ^ 64)) refl digit more e
  by_digit false digit h more e = told (n, byte ∷ bytes) (m, rest) h e

from_back : (n m : ℕ) (bytes rest : List ℕ) → 0 < n → Is64Bit n → with_more_digits n bytes ≡ Some (m, rest) → IsAhead (decimal n ++ bytes) m rest
from_back n m [] rest some h e = told (n, []) (m, rest) h e
from_back n m (byte ∷ bytes) rest some h e =
    by_digit n m byte bytes rest some (is_digit byte) refl h (λ fits more. from_back (n * 10 + (byte - 48)) m bytes rest (omega arith) fits more) e

ahead_back : (m : ℕ) (bytes rest : List ℕ) → number_ahead bytes ≡ Some (m, rest) → IsAhead bytes m rest
ahead_back m [] rest e = cc
ahead_back m (byte ∷ bytes) rest e = zero_first (byte == 48) refl e
  where
    digit_first : (b : Bool) → is_digit byte ≡ b → (byte == 48) ≡ false → cond b (with_more_digits (byte - 48) bytes) None ≡ Some (m, rest) → IsAhead (byte ∷ bytes) m rest
    digit_first false digit other e = cc
    digit_first true digit other e =
        let some : 0 < byte - 48 = grind arith in
        let low : 48 ≤ byte = grind arith in
        let high : byte ≤ 57 = grind arith in
        let same : 48 + (byte - 48) ≡ byte = omega arith in
        let all = from_back (byte - 48) m bytes rest some (omega arith) e in
        let first : decimal (byte - 48) ≡ byte ∷ [] = decimal_digit (byte - 48) (omega arith) ∙ ap (λ (d : ℕ). d ∷ []) same in
        (ap (λ (l : List ℕ). l ++ bytes) (sym first) ∙ all.0, all.1)

    zero_first : (b : Bool) → (byte == 48) ≡ b → cond b (Some (0, bytes)) (cond (is_digit byte) (with_more_digits (byte - 48) bytes) None) ≡ Some (m, rest) → IsAhead (byte ∷ bytes) m rest
    zero_first true is e =
        let zeroth : decimal 0 ≡ byte ∷ [] = decimal_digit 0 (omega arith) ∙ ap (λ (d : ℕ). d ∷ []) (sym (eqb-true byte 48 is)) in
        let all = told (0, bytes) (m, rest) (omega arith) e in
        (ap (λ (l : List ℕ). l ++ bytes) (sym zeroth) ∙ all.0, all.1)
    zero_first false other e = digit_first (is_digit byte) refl other e

pub behind_back : (text bytes : List ℕ) (m : ℕ) (rest : List ℕ) → number_behind text bytes ≡ Some (m, rest) → (bytes ≡ text ++ (decimal m ++ rest)) × Is64Bit m
behind_back text bytes m rest e = by (bytes_eq (take (length text) bytes) text) refl e
  where
    by : (b : Bool) → bytes_eq (take (length text) bytes) text ≡ b → cond b (number_ahead (drop (length text) bytes)) None ≡ Some (m, rest) → (bytes ≡ text ++ (decimal m ++ rest)) × Is64Bit m
    by false is e = cc
    by true is e =
        let front : take (length text) bytes ≡ text = (bytes_eq-Decides (take (length text) bytes) text).0 is in
        let all = ahead_back m (drop (length text) bytes) rest e in
        (sym (take-append-drop (length text) bytes) ∙ ap (λ (l : List ℕ). l ++ drop (length text) bytes) front ∙ ap (λ (l : List ℕ). text ++ l) all.0, all.1)
