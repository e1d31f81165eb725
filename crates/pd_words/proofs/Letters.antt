-- The letters of options.
use Rattle.std.proofs.Common.{◌≡◌, ◌==◌, ◌&&◌, ◌<◌, ◌≤◌, ◌⊎◌, inl, inr, ℕ, Bool, true, false, cond, List, [], ◌∷◌, ◌++◌, length, take, drop, find, Option, Some, None, Bor, refl, ap, sym, subst, ◌∙◌, nat_lt, arith}
use Rattle.std.specs.Prelude.{IsSome, IfSome, MatchOption}
use Rattle.std.specs.Cmp.Lexicographic.{bytes_decides}
use Rattle.std.specs.List.{list_all}
use Rattle.std.specs.Option.{option_and_then, option_map_or}
use Rattle.std.specs.Str.{bytes_eq, IsCharBoundary, IsUtf8}
use Rattle.std.proofs.lemmas.Bool.{cases_lt, eqb-true, ltb-true}
use Rattle.std.proofs.lemmas.List.{take-append-drop}
use Rattle.std.proofs.lemmas.Str.{IsCharBoundary-after_ascii}
use Rattle.command_words.specs.Grammar.{Text}
use Rattle.pd_words.specs.Options.{TypedCommand, TypedWord, has_letter, has_no_value, has_typed_option, option_lettered, typed_words}
use Rattle.pd_words.specs.Reading.{Reading, met, value_behind, with_letters, with_option}
use Rattle.pd_words.specs.Seen.{IsLetterBefore, IsNoLetter}

-- ---- the first letter

wide : (sign : ℕ) (rest : Text) → IsUtf8 (sign ∷ rest) → (IsCharBoundary (sign ∷ rest) 1 → ⊥) → (sign < 128) ⊎ (128 ≤ sign) → 128 ≤ sign
wide sign rest u h (inl l) = absurd (h (IsCharBoundary-after_ascii (sign ∷ rest) 0 u (omega arith) l))
wide sign rest u h (inr l) = l

pub letter_split : (text : Text) (r : Option (Bor Text × Bor Text)) → IsUtf8 text → (IsCharBoundary text 1 → IsSome r)
    → IfSome r (λ x. x.0.now ≡ take 1 text) → IfSome r (λ x. x.1.now ≡ drop 1 text) → IfSome r (λ x. length x.0.now ≡ 1)
    → MatchOption r (IsNoLetter text) (λ parts. IsLetterBefore text parts.0.now parts.1.now)
letter_split text (Some x) u h front back len =
    (len, sym (take-append-drop 1 text) ∙ ap (λ (t : Text). t ++ drop 1 text) (sym front) ∙ ap (λ (t : Text). x.0.now ++ t) (sym back))
letter_split [] None u h front back len = tt
letter_split (sign ∷ rest) None u h front back len = wide sign rest u (λ b. let e : false ≡ true = h b in absurd (cc)) (cases_lt sign 128)

-- ---- no option has a letter that isn't a sign of ASCII

abbrev small : Text → Bool
small [] = true
small (sign ∷ rest) = nat_lt sign 128

abbrev has_small : TypedWord → Bool
has_small word = option_map_or small word.letter true

all_small : list_all has_small typed_words ≡ true
unfolding typed_words
all_small = refl

find_none : {X : Type 0} (p q : X → Bool) (xs : List X) → list_all q xs ≡ true → ((x : X) → q x ≡ true → p x ≡ false) → find p xs ≡ None
find_none p q [] all fails = refl
find_none p q (x ∷ xs) all fails = by (q x) refl all (λ rest. find_none p q xs rest fails)
  where
    by : (b : Bool) → q x ≡ b → (b && list_all q xs) ≡ true → (list_all q xs ≡ true → find p xs ≡ None) → cond (p x) (Some x) (find p xs) ≡ None
    by true e all rest = rw (fails x e) (rest all)
    by false e all rest = absurd (cc)

and_false : (a : Bool) → (a && false) ≡ false
and_false true = refl
and_false false = refl

not_small : (a : Bool) (sign : ℕ) → 128 ≤ sign → (o : Option Text) → option_map_or small o true ≡ true → (a && option_map_or (λ own. bytes_eq own (sign ∷ [])) o false) ≡ false
not_small a sign large None e = and_false a
not_small a sign large (Some own) e = by (bytes_eq own (sign ∷ [])) refl
  where
    by : (b : Bool) → bytes_eq own (sign ∷ []) ≡ b → (a && b) ≡ false
    by true is =
        let same : own ≡ sign ∷ [] = (bytes_decides own (sign ∷ [])).0 is in
        let below : sign < 128 = ltb-true sign 128 (sym (ap small same) ∙ e) in
        absurd (omega (arith, below, large))
    by false is = and_false a

pub no_wide_letter : (command : TypedCommand) (sign : ℕ) → 128 ≤ sign → option_lettered command (sign ∷ []) ≡ None
unfolding option_lettered
no_wide_letter command sign large =
    find_none (λ word. has_typed_option command word && has_letter (sign ∷ []) word) has_small typed_words all_small
    (λ word e. not_small (has_typed_option command word) sign large word.letter e)

-- ---- letters, the first one first

abbrev pub after_letter : TypedCommand → Reading → Text → TypedWord → Option Reading
after_letter command reading rest word =
    cond (has_no_value word.value) (option_and_then (λ next. with_letters command next rest) (with_option reading word [])) (met reading word (value_behind rest))

-- no letter is left, or what is left begins with none
pub none_left : (command : TypedCommand) (reading : Reading) (text : Text) → IsNoLetter text → with_letters command reading text ≡ cond (length text == 0) (Some reading) None
none_left command reading [] h = refl
none_left command reading (sign ∷ rest) h = rw (no_wide_letter command sign h) (by (length (sign ∷ rest) == 0) refl)
  where
    by : (b : Bool) → (length (sign ∷ rest) == 0) ≡ b → None ≡ cond b (Some reading) None
    by true e = let empty : length (sign ∷ rest) ≡ 0 = eqb-true (length (sign ∷ rest)) 0 e in absurd (cc)
    by false e = refl

pub one_letter : (command : TypedCommand) (reading : Reading) (text letter rest : Text) → IsLetterBefore text letter rest
    → with_letters command reading text ≡ option_and_then (after_letter command reading rest) (option_lettered command letter)
one_letter command reading text [] rest (len, is) = absurd (cc)
one_letter command reading text (x ∷ []) rest (len, is) = subst (λ (t : Text). with_letters command reading t ≡ option_and_then (after_letter command reading rest) (option_lettered command (x ∷ []))) (sym is) refl
one_letter command reading text (x ∷ y ∷ more) rest (len, is) = absurd (omega (arith, len))

-- what is behind a letter is shorter
pub shorter : (text letter rest : Text) → IsLetterBefore text letter rest → length rest < length text
shorter text [] rest (len, is) = absurd (cc)
shorter text (x ∷ []) rest (len, is) = subst (λ (t : Text). length rest < length t) (sym is) (omega arith)
shorter text (x ∷ y ∷ more) rest (len, is) = absurd (omega (arith, len))
