-- Words that are as a form says.
use Rattle.std.proofs.Common.{◌≡◌, ℕ, ◌<◌, ◌≤◌, ◌^◌, ◌||◌, true, Option, Some, List, [], ◌∷◌, length, slice_get, codes, bytes_eq, is_some, refl, ap, ◌∙◌, arith}
use Rattle.std.specs.Fmt.{decimal}
use Rattle.std.specs.Option.{unwrap_or}
use Rattle.std.proofs.lemmas.Bool.{le-leb}
use Rattle.std.proofs.lemmas.Fmt.{length-decimal-le}
use Rattle.pn_text.specs.Words.{is_name}
use Rattle.pn_text.proofs.Decimals.{decimal_spells}
use Rattle.advice.specs.Words.{are_as, is_focus, is_number, number_at, decimal_number, word_at, words}

-- ---- numbers

-- a number is read from its digits
pub number_read : (n : ℕ) → n < 2 ^ 64 → decimal_number (decimal n) ≡ Some n
number_read n h =
    let s = decimal_spells n h in
    let few : length (decimal n) ≤ 20 = length-decimal-le 20 n (omega arith) (omega arith) h in
    let most : n ≤ 18446744073709551615 = omega arith in
    rw (le-leb 1 (length (decimal n)) s.some, le-leb (length (decimal n)) 20 few, s.value, le-leb n 18446744073709551615 most) refl

pub number_fits : (n : ℕ) → n < 2 ^ 64 → is_number (decimal n) ≡ true
number_fits n h = ap is_some (number_read n h)

pub number_is : (n : ℕ) (text : List ℕ) → decimal_number text ≡ Some n → is_number text ≡ true
number_is n text e = ap is_some e

-- ---- words by their places

pub word_there : (k : ℕ) (line : List ℕ) (ws : List (List ℕ)) → words line ≡ ws → word_at k line ≡ unwrap_or (slice_get ws k) []
word_there k line ws is = ap (λ (all : List (List ℕ)). unwrap_or (slice_get all k) []) is

pub number_there : (k n : ℕ) (text line : List ℕ) → word_at k line ≡ text → decimal_number text ≡ Some n → number_at k line ≡ n
number_there k n text line is e = ap (λ (w : List ℕ). unwrap_or (decimal_number w) 0) is ∙ ap (λ (o : Option ℕ). unwrap_or o 0) e

-- ---- forms

-- the words of a node before what came of it
abbrev pub head_forms : List (List ℕ) → List (List ℕ)
head_forms fs = codes "node" ∷ codes "NUMBER" ∷ codes "phase" ∷ codes "NAME" ∷ codes "parent" ∷ codes "PARENT" ∷ codes "NAME" ∷ codes "FOCUS" ∷ fs

abbrev pub head_words : List ℕ → List ℕ → List ℕ → List ℕ → List ℕ → List (List ℕ) → List (List ℕ)
head_words number phase parent hypothesis focus ws = codes "node" ∷ number ∷ codes "phase" ∷ phase ∷ codes "parent" ∷ parent ∷ hypothesis ∷ focus ∷ ws

pub head_fits : (number phase parent hypothesis focus : List ℕ) (fs ws : List (List ℕ)) → is_number number ≡ true → is_name phase ≡ true → (bytes_eq parent (codes "none") || is_number parent) ≡ true → is_name hypothesis ≡ true → is_focus focus ≡ true → are_as (head_forms fs) (head_words number phase parent hypothesis focus ws) ≡ are_as fs ws
head_fits number phase parent hypothesis focus fs ws a b c d e = rw (a, b, c, d, e) refl

-- the words of a verdict
abbrev pub verdict_forms : List (List ℕ)
verdict_forms = codes "value" ∷ codes "NUMBER" ∷ codes "ticks" ∷ codes "NUMBER" ∷ codes "from" ∷ codes "NUMBER" ∷ codes "to" ∷ codes "NUMBER" ∷ []

pub verdict_fits : (value ticks from to : List ℕ) → is_number value ≡ true → is_number ticks ≡ true → is_number from ≡ true → is_number to ≡ true → are_as verdict_forms (codes "value" ∷ value ∷ codes "ticks" ∷ ticks ∷ codes "from" ∷ from ∷ codes "to" ∷ to ∷ []) ≡ true
verdict_fits value ticks from to a b c d = rw (a, b, c, d) refl
