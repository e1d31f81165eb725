-- Words that have no space inside, and the word at a place of a line that is made of such.
use Rattle.std.proofs.Common.{◌≡◌, ℕ, zero, suc, ◌==◌, not, cond, Bool, true, false, Option, Some, None, List, [], ◌∷◌, ◌++◌, slice_get, refl, ap, ◌∙◌, arith}
use Rattle.std.specs.Fmt.{decimal}
use Rattle.std.specs.List.{list_all, onto_first}
use Rattle.std.specs.Option.{unwrap_or}
use Rattle.std.proofs.lemmas.Bool.{and_parts}
use Rattle.report.specs.SearchTexts.{parent_text}
use Rattle.advice.specs.Words.{word_at, words}
use Rattle.advice.proofs.Parts.{lacks, part_at}
use Rattle.advice.proofs.Spaced.{all_weaker, before, digits_above, is_above}

-- no space stands in a text
abbrev pub is_spaceless : List ℕ → Bool
is_spaceless text = lacks 32 text

-- ---- the words of a line

onto : (x : ℕ) (all : List (List ℕ)) → (x == 32) ≡ false → list_all is_spaceless all ≡ true → list_all is_spaceless (onto_first x all) ≡ true
onto x [] e h = rw e refl
onto x (w ∷ ws) e h = rw e h

words_spaceless : (line : List ℕ) → list_all is_spaceless (words line) ≡ true
words_spaceless [] = refl
words_spaceless (x ∷ xs) = by (x == 32) refl (words xs) (words_spaceless xs)
  where
    by : (b : Bool) → (x == 32) ≡ b → (all : List (List ℕ)) → list_all is_spaceless all ≡ true → list_all is_spaceless (cond b ([] ∷ all) (onto_first x all)) ≡ true
    by true e all h = h
    by false e all h = onto x all e h

pub word_spaceless : (place : ℕ) (line : List ℕ) → is_spaceless (word_at place line) ≡ true
word_spaceless place line = at place (words line) (words_spaceless line)
  where
    at : (k : ℕ) (all : List (List ℕ)) → list_all is_spaceless all ≡ true → is_spaceless (unwrap_or (slice_get all k) []) ≡ true
    at k [] h = refl
    at zero (w ∷ ws) h = (and_parts (is_spaceless w) (list_all is_spaceless ws) h).0
    at (suc k) (w ∷ ws) h = at k ws (and_parts (is_spaceless w) (list_all is_spaceless ws) h).1

-- ---- words before a text

pub words_of : (ws : List (List ℕ)) (text : List ℕ) → list_all is_spaceless ws ≡ true → words (before ws text) ≡ ws ++ words text
words_of [] text h = refl
words_of (w ∷ ws) text h =
    let each = and_parts (is_spaceless w) (list_all is_spaceless ws) h in
    part_at 32 w (before ws text) each.0 ∙ ap (λ (l : List (List ℕ)). w ∷ l) (words_of ws text each.1)

-- ---- words of numbers

no_space : (b : ℕ) → is_above b ≡ true → not (b == 32) ≡ true
no_space b h = grind arith

pub decimal_spaceless : (n : ℕ) → is_spaceless (decimal n) ≡ true
decimal_spaceless n = all_weaker is_above (λ b. not (b == 32)) no_space (decimal n) (digits_above 10 n)

pub parent_spaceless : (parent : Option ℕ) → is_spaceless (parent_text parent) ≡ true
parent_spaceless None = refl
parent_spaceless (Some n) = decimal_spaceless n
