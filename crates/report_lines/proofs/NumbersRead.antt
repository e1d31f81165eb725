-- Numbers are read from the words that spell them.
use Rattle.std.proofs.Common.{◌≡◌, ℕ, zero, suc, ◌+◌, ◌-◌, ◌*◌, ◌/◌, ◌%◌, ◌^◌, ◌<◌, ◌≤◌, ◌==◌, ◌&&◌, nat_le, nat_lt, cond, Bool, true, false, Option, Some, None, IfSome, List, [], ◌∷◌, ◌++◌, length, codes, bytes_eq, refl, sym, ap, ◌∙◌, arith, length-append}
use Rattle.std.specs.Fmt.{decimal, digit_glyph, digits, digits_onto}
use Rattle.std.specs.Option.{unwrap_or}
use Rattle.std.proofs.lemmas.Bool.{eqb-true, false_from_ne_true, le-leb, lt-ltb, ltb-false, ltb-true}
use Rattle.std.proofs.lemmas.Fmt.{length-decimal-le}
use Rattle.std.proofs.lemmas.List.{take_at}
use Rattle.std.proofs.lemmas.Slice.Eq.{bytes_eq-Decides}
use Rattle.pn_text.specs.Numbers.{decimal_from, is_digit, small_number}
use Rattle.pn_text.proofs.Decimals.{decimal_spells}
use Rattle.report.specs.SearchTexts.{parent_text}
use Rattle.report.specs.ShownTexts.{from_text}
use Rattle.advice.proofs.Fits.{number_read}
use Rattle.report_lines.specs.Readable.{Is32Bit, Is64Bit}
use Rattle.report_lines.specs.Words.{hexadecimal_digit, hexadecimal_from, moment_of, number_before, number_of_word, parent_number}

-- ---- decimal numbers

pub small_read : (n most : ℕ) → n ≤ most → most < 2 ^ 32 → small_number (decimal n) most ≡ Some n
small_read n most least small =
    let spelled = decimal_spells n (omega arith) in
    let few : length (decimal n) ≤ 10 = length-decimal-le 10 n (omega arith) (omega arith) (omega arith) in
    rw (le-leb 1 (length (decimal n)) spelled.some, le-leb (length (decimal n)) 10 few, spelled.value, le-leb n most least) refl

pub short_read : (n : ℕ) → Is32Bit n → small_number (decimal n) 4294967295 ≡ Some n
short_read n h = small_read n 4294967295 (omega arith) (omega arith)

pub number_in_read : (n : ℕ) → Is64Bit n → number_of_word (decimal n) ≡ n
number_in_read n h = ap (λ (o : Option ℕ). unwrap_or o 0) (number_read n h)

pub before_read : (n byte : ℕ) → Is64Bit n → number_before (decimal n ++ byte ∷ []) ≡ n
before_read n byte h =
    let front : length (decimal n ++ byte ∷ []) - 1 ≡ length (decimal n) = omega (arith, length-append (decimal n) (byte ∷ [])) in
    rw (front, take_at (decimal n) (byte ∷ []) (length (decimal n)) refl) (number_in_read n h)

-- ---- numbers, or `none`

-- digits aren't that word
is_not_none : (n : ℕ) → Is64Bit n → bytes_eq (decimal n) (codes "none") ≡ false
is_not_none n h =
    false_from_ne_true (bytes_eq (decimal n) (codes "none")) (λ e.
    let same : decimal n ≡ codes "none" = (bytes_eq-Decides (decimal n) (codes "none")).0 e in
    let spelled : decimal_from 0 (codes "none") ≡ Some n = ap (decimal_from 0) (sym same) ∙ (decimal_spells n h).value in
    cc)

pub moment_read : (moment : Option ℕ) → IfSome moment Is64Bit → moment_of (from_text moment) ≡ moment
moment_read None h = refl
moment_read (Some n) h = rw (is_not_none n h) (ap Some (number_in_read n h))

pub parent_read : (parent : Option ℕ) → IfSome parent Is32Bit → parent_number (parent_text parent) ≡ parent
parent_read None h = refl
parent_read (Some n) h = let long : Is64Bit n = omega arith in rw (is_not_none n long, short_read n h) refl

-- ---- hexadecimal numbers

glyph_read : (d : ℕ) → d < 16 → hexadecimal_digit (digit_glyph false d) ≡ Some d
glyph_read d h = by (nat_lt d 10) refl
  where
    by : (b : Bool) → nat_lt d 10 ≡ b → hexadecimal_digit (cond b (48 + d) (87 + d)) ≡ Some d
    by true e =
        let below : d < 10 = ltb-true d 10 e in
        let digit : is_digit (48 + d) ≡ true = grind arith in
        let same : 48 + d - 48 ≡ d = omega arith in
        rw (digit, same) refl
    by false e =
        let above : 10 ≤ d = ltb-false d 10 e in
        let digit : is_digit (87 + d) ≡ false = grind arith in
        let letter : (nat_le 97 (87 + d) && nat_le (87 + d) 102) ≡ true = grind arith in
        let same : 87 + d - 87 ≡ d = omega arith in
        rw (digit, letter, same) refl

-- one more digit is read
glyph_step : (n d m : ℕ) (bytes : List ℕ) → d < 16 → n * 16 + d ≡ m → Is64Bit m → hexadecimal_from n (digit_glyph false d ∷ bytes) ≡ hexadecimal_from m bytes
glyph_step n d m bytes small same h = rw (glyph_read d small, same, lt-ltb m (2 ^ 64) h) refl

onto_read : (k n : ℕ) (bytes : List ℕ) → n < 16 ^ k → Is64Bit n → hexadecimal_from 0 (digits_onto k 16 false n bytes) ≡ hexadecimal_from n bytes
onto_read zero n bytes few h = let none : n ≡ 0 = omega arith in rw none refl
onto_read (suc k) n bytes few h =
    by (n / 16 == 0) (digits_onto k 16 false (n / 16) (digit_glyph false (n % 16) ∷ bytes)) refl
    (onto_read k (n / 16) (digit_glyph false (n % 16) ∷ bytes) (omega arith) (omega arith))
  where
    by : (b : Bool) (more : List ℕ) → (n / 16 == 0) ≡ b → hexadecimal_from 0 more ≡ hexadecimal_from (n / 16) (digit_glyph false (n % 16) ∷ bytes) → hexadecimal_from 0 (cond b (digit_glyph false (n % 16) ∷ bytes) more) ≡ hexadecimal_from n bytes
    by true more e rest =
        let last : n / 16 ≡ 0 = eqb-true (n / 16) 0 e in
        glyph_step 0 (n % 16) n bytes (omega arith) (omega arith) h
    by false more e rest = rest ∙ glyph_step (n / 16) (n % 16) n bytes (omega arith) (omega arith) h

pub hexadecimal_read : (n : ℕ) → Is64Bit n → hexadecimal_from 0 (digits 16 false n) ≡ Some n
unfolding digits
hexadecimal_read n h = onto_read 64 n [] (omega arith) h
