-- A number is read back from its digits.
use Rattle.std.proofs.Common.{◌≡◌, ℕ, ◌+◌, ◌-◌, ◌*◌, ◌/◌, ◌%◌, ◌^◌, ◌<◌, ◌≤◌, ◌&&◌, Bool, true, false, cond, Option, Some, None, List, [], ◌∷◌, ◌++◌, length, refl, ◌∙◌, ap, arith}
use Rattle.std.specs.Fmt.{decimal}
use Rattle.std.specs.List.{list_all}
use Rattle.std.specs.Option.{option_and_then}
use Rattle.std.proofs.lemmas.List.{length-append}
use Rattle.std.proofs.lemmas.Fmt.{decimal_by_steps}
use Rattle.pn_text.specs.Numbers.{is_digit, decimal_from}

-- digits that give the number
pub record Spells (n : ℕ) (digits : List ℕ) : Type 0 where
  pub value : decimal_from 0 digits ≡ Some n
  pub each : list_all is_digit digits ≡ true
  pub some : 0 < length digits

-- one more digit
abbrev with_digit : ℕ → ℕ → Option ℕ
with_digit byte n = cond (is_digit byte) (Some (n * 10 + (byte - 48))) None

decimal_from-push : (n : ℕ) (digits : List ℕ) (byte : ℕ) → decimal_from n (digits ++ (byte ∷ [])) ≡ option_and_then (with_digit byte) (decimal_from n digits)
decimal_from-push n [] byte = refl
decimal_from-push n (digit ∷ digits) byte =
    elim (is_digit digit) as (λ b. cond b (decimal_from (n * 10 + (digit - 48)) (digits ++ (byte ∷ []))) None ≡ option_and_then (with_digit byte) (cond b (decimal_from (n * 10 + (digit - 48)) digits) None)) [
      | true ↦ decimal_from-push (n * 10 + (digit - 48)) digits byte
      | false ↦ refl
    ]

list_all-push : (p : ℕ → Bool) (xs : List ℕ) (x : ℕ) → list_all p xs ≡ true → p x ≡ true → list_all p (xs ++ (x ∷ [])) ≡ true
list_all-push p [] x h k = rw k refl
list_all-push p (y ∷ ys) x h k =
    elim (p y) as (λ b. (b && list_all p ys) ≡ true → (b && list_all p (ys ++ (x ∷ []))) ≡ true) [
      | true ↦ λ e. list_all-push p ys x e k
      | false ↦ λ e. e
    ] h

digit_of : (n : ℕ) → n < 10 → is_digit (48 + n) ≡ true
digit_of n h = grind arith

spells_one : (n : ℕ) → n < 10 → Spells n ((48 + n) ∷ [])
spells_one n h = record {
  value = rw (digit_of n h) (ap Some (omega arith));
  each = rw (digit_of n h) refl;
  some = omega arith;
}

spells_more : (n : ℕ) (digits : List ℕ) → 10 ≤ n → Spells (n / 10) digits → Spells n (digits ++ ((48 + n % 10) ∷ []))
spells_more n digits h s =
    let digit : is_digit (48 + n % 10) ≡ true = digit_of (n % 10) (omega arith) in
    record {
      value = decimal_from-push 0 digits (48 + n % 10) ∙ rw (s.value, digit) (ap Some (omega arith));
      each = list_all-push is_digit digits (48 + n % 10) s.each digit;
      some = omega (arith, length-append digits ((48 + n % 10) ∷ []));
    }

pub decimal_spells : (n : ℕ) → n < 2 ^ 64 → Spells n (decimal n)
decimal_spells n h = decimal_by_steps (λ m digits. Spells m digits) spells_one spells_more n h
