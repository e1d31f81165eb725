-- For proofs alone: reading words from left to right: what was read with the words that are left, or the first that doesn't fit.
use Rattle.std.specs.Prelude.{ℕ, zero, suc, List, [], ◌∷◌, length, Option, Some, None, Result, Ok, Err, Bool, false, if◌then◌else◌}
use Rattle.std.specs.Option.{option_and_then}
use Rattle.pn_text.specs.Words.{Word}
use Rattle.mdl_parse.specs.WordsInText.{PlacedWord}
use Rattle.mdl_parse.specs.declared.refusal.Refusal.{Refusal}
use Rattle.mdl_parse.specs.declared.refusal.Refusal.TheVariants.{Unexpected, TooDeep}

-- the words from the one on that doesn't fit, and why
pub record Stop : Type 0 where
  pub left : List PlacedWord
  pub why : Refusal

abbrev pub Read : Type 0 → Type 0
Read A = Result (A × List PlacedWord) Stop

infixl 10 ◌>>=◌
abbrev pub ◌>>=◌ : {A B : Type 0} → Read A → (A × List PlacedWord → Read B) → Read B
(Ok x) >>= f = f x
(Err e) >>= f = Err e

abbrev pub stop : Refusal → List PlacedWord → Stop
stop why left = record { left = left; why = why }

-- the line of the first word
abbrev pub line_at : List PlacedWord → ℕ
line_at [] = 0
line_at (placed ∷ words_ahead) = placed.line

-- ---- one word

-- what stands after the first word
abbrev pub words_after : List PlacedWord → List PlacedWord
words_after [] = []
words_after (placed ∷ words_ahead) = words_ahead

-- the first word, if there is one
abbrev pub first_word : List PlacedWord → Option Word
first_word [] = None
first_word (placed ∷ words_ahead) = Some placed.word

abbrev pub some_read : {A : Type 0} → Option A → List PlacedWord → Read A
some_read None words_ahead = Err (stop Unexpected words_ahead)
some_read (Some a) words_ahead = Ok (a, words_after words_ahead)

-- the first word, which has to mean something
unfoldable pub leaf_at : {A : Type 0} → (Word → Option A) → List PlacedWord → Read A
leaf_at pick words_ahead = some_read (option_and_then pick (first_word words_ahead)) words_ahead

-- ---- parts that may be there

abbrev pub passes : (Word → Bool) → Option Word → Bool
passes first None = false
passes first (Some word) = first word

-- the first word is such a one
abbrev pub is_first : (Word → Bool) → List PlacedWord → Bool
is_first first words_ahead = passes first (first_word words_ahead)

-- a part that begins with such a word, if there is one
unfoldable pub option_at : {A : Type 0} → (Word → Bool) → (List PlacedWord → Read A) → List PlacedWord → Read (Option A)
option_at first read words_ahead = if is_first first words_ahead then (do
  x ← read words_ahead
  Ok (Some x.0, x.1))
    else Ok (None, words_ahead)

-- as many parts that begin with such a word as there are, with a limit that is never reached
abbrev pub many_in : {A : Type 0} → (Word → Bool) → (List PlacedWord → Read A) → ℕ → List PlacedWord → Read (List A)
many_in first read zero words_ahead = Ok ([], words_ahead)
many_in first read (suc n) words_ahead = if is_first first words_ahead then (do
  x ← read words_ahead
  xs ← many_in first read n x.1
  Ok (x.0 ∷ xs.0, xs.1))
    else Ok ([], words_ahead)

-- all; there are no more than words
unfoldable pub many_at : {A : Type 0} → (Word → Bool) → (List PlacedWord → Read A) → List PlacedWord → Read (List A)
many_at first read words_ahead = many_in first read (length words_ahead) words_ahead

-- as many parts that begin with such a word as there are; more than the limit is too deep
unfoldable pub bounded_at : {A : Type 0} → (Word → Bool) → (List PlacedWord → Read A) → ℕ → List PlacedWord → Read (List A)
bounded_at first read zero words_ahead = if is_first first words_ahead then Err (stop TooDeep words_ahead) else Ok ([], words_ahead)
bounded_at first read (suc n) words_ahead = if is_first first words_ahead then (do
  x ← read words_ahead
  xs ← bounded_at first read n x.1
  Ok (x.0 ∷ xs.0, xs.1))
    else Ok ([], words_ahead)
