-- The words of each text are words: what was read can be written.
use Rattle.std.proofs.Common.{◌≡◌, ℕ, zero, suc, ◌+◌, ◌-◌, ◌≤◌, ◌==◌, nat_le, Bool, true, false, cond, Option, Some, None, Result, Ok, Err, List, [], ◌∷◌, map, length, take, drop, codes, refl, sym, ◌∙◌, ap, arith, inl, inr}
use Rattle.std.specs.List.{list_all, prefix_len}
use Rattle.std.specs.Option.{option_and_then}
use Rattle.std.proofs.lemmas.Bool.{and_parts}
use Rattle.std.proofs.lemmas.List.{length-take-le, length-drop, drop-drop, take-take}
use Rattle.pn_text.specs.Numbers.{is_digit, decimal_from, at_most}
use Rattle.pn_text.specs.Places.{first_place, after_bytes}
use Rattle.pn_text.specs.Bytes.{is_letter, begins_name, is_name_byte, is_string_byte, is_focus_byte, begins_with}
use Rattle.pn_text.specs.Blanks.{blank_len}
use Rattle.pn_text.specs.Signs.{signs, dollar_words, first_row}
use Rattle.pn_text.specs.Tokens.{lexeme, digits_value, number_at, string_at, focus_at, dollar_word_at, sign_at, other_at, or_fault, lexeme_at}
use Rattle.pn_text.specs.Scans.{Rest, Scan, rest_after, after_blanks, token_at, scan_on, scan_in, scan, tokens_of}
use Rattle.pn_text.specs.Words.{word_as, word_of, words_of, without_quotes, is_word}
use Rattle.pn_text.specs.declared.place.Place.{Place}
use Rattle.pn_text.specs.declared.token.TokenKind.{TokenKind}
use Rattle.pn_text.specs.declared.token.TokenKind.TheVariants as kind
use Rattle.pn_text.specs.declared.token.LexFault.{LexFault}
use Rattle.pn_text.specs.declared.token.LexFault.TheVariants.{BadByte, OpenString, BigNumber}
use Rattle.pn_text.specs.declared.lexeme.Lexeme.{Lexeme}
use Rattle.pn_text.proofs.LexemeLens.{chosen, mapped, begins_within, found_in, lexeme_stands}
use Rattle.pn_text.proofs.WordLexemes.{letter_goes_on}
use Rattle.pn_text.proofs.ScanSteps.{after}
use Rattle.pn_text.proofs.Spans.{at-behind_bytes, blank_len-le-length}

-- a token's text is a word
abbrev IsWord : Lexeme → List ℕ → Type 0
IsWord found text = is_word (word_as found.kind (take found.len text)) ≡ true

-- each byte of the longest front that passes does
front_step : (p : ℕ → Bool) (x : ℕ) (xs : List ℕ) (b : Bool) → p x ≡ b → list_all p (take (prefix_len p xs) xs) ≡ true → list_all p (take (prefix_len p (x ∷ xs)) (x ∷ xs)) ≡ true
front_step p x xs true e more =
    let len : 1 + prefix_len p xs ≡ suc (prefix_len p xs) = omega arith in
    rw (e, len, e, more) refl
front_step p x xs false e more = rw e refl

all_in_front : (p : ℕ → Bool) (xs : List ℕ) → list_all p (take (prefix_len p xs) xs) ≡ true
all_in_front p [] = refl
all_in_front p (x ∷ xs) = front_step p x xs (p x) refl (all_in_front p xs)

name_word : (byte : ℕ) (bytes : List ℕ) → begins_name byte ≡ true → IsWord (lexeme kind.Name (prefix_len is_name_byte (byte ∷ bytes))) (byte ∷ bytes)
name_word byte bytes e =
    let len : 1 + prefix_len is_name_byte bytes ≡ suc (prefix_len is_name_byte bytes) = omega arith in
    rw (e, len, e, all_in_front is_name_byte bytes) refl

-- no number is above the most
most_kept : (most n m : ℕ) → at_most most n ≡ Some m → nat_le m most ≡ true
most_kept most n m e =
    elim (chosen (nat_le n most) (Some n) None (Some m) e) [
      | inl h ↦ let same : n ≡ m = cc in rw (← same) h.0
      | inr h ↦ let no : ⊥ = cc in absurd no
    ]

most_read : (most m : ℕ) (read : Option ℕ) → option_and_then (at_most most) read ≡ Some m → nat_le m most ≡ true
most_read most m None e = cc
most_read most m (Some n) e = most_kept most n m e

number_word : (text more : List ℕ) (found : Lexeme) → number_at text ≡ Some found → is_word (word_as found.kind more) ≡ true
unfolding number_at
number_word text more found e =
    let len = prefix_len is_digit text in
    let way = mapped (λ (n : ℕ). lexeme (kind.Number n) len) (digits_value (take len text)) found e in
    let here : is_word (word_as (lexeme (kind.Number way.0) len).kind more) ≡ true = most_read 2147483647 way.0 (decimal_from 0 (take len text)) way.1 in
    rw (← way.2) here

quotes_off : (byte : ℕ) (bytes : List ℕ) (len : ℕ) → len + 1 ≤ length bytes → without_quotes (take (len + 2) (byte ∷ bytes)) ≡ take len bytes
quotes_off byte bytes len h =
    let two : len + 2 ≡ suc (len + 1) = omega arith in
    let inside : suc (length (take (len + 1) bytes)) - 2 ≡ len = omega (arith, length-take-le (len + 1) bytes h) in
    rw (two, inside) (take-take len (len + 1) bytes (omega arith))

string_word : (byte : ℕ) (bytes : List ℕ) (found : Lexeme) → string_at bytes ≡ Some found → IsWord found (byte ∷ bytes)
unfolding string_at
string_word byte bytes found e =
    let len = prefix_len is_string_byte bytes in
    elim (chosen (begins_with (codes "\"") (drop len bytes)) (Some (lexeme kind.Quoted (len + 2))) None (Some found) e) [
      | inl h ↦
          let quote : 1 ≤ length (drop len bytes) = begins_within (codes "\"") (drop len bytes) h.0 in
          let same : lexeme kind.Quoted (len + 2) ≡ found = cc in
          let inside : len + 1 ≤ length bytes = omega (arith, length-drop len bytes) in
          let here : IsWord (lexeme kind.Quoted (len + 2)) (byte ∷ bytes) = rw (quotes_off byte bytes len inside) (all_in_front is_string_byte bytes) in
          rw (← same) here
      | inr h ↦ let no : ⊥ = cc in absurd no
    ]

focus_word : (slash : ℕ) (text : List ℕ) (found : Lexeme) → (slash == 47) ≡ true → focus_at text ≡ Some found → IsWord found (slash ∷ text)
unfolding focus_at
focus_word slash [] found s e = cc
focus_word slash (byte ∷ bytes) found s e =
    let len = prefix_len is_focus_byte (byte ∷ bytes) in
    elim (chosen (is_letter byte) (Some (lexeme kind.Focus (len + 1))) None (Some found) e) [
      | inl h ↦
          let same : lexeme kind.Focus (len + 1) ≡ found = cc in
          let goes : is_focus_byte byte ≡ true = letter_goes_on byte h.0 in
          let two : 1 + prefix_len is_focus_byte bytes + 1 ≡ suc (suc (prefix_len is_focus_byte bytes)) = omega arith in
          let here : IsWord (lexeme kind.Focus (len + 1)) (slash ∷ byte ∷ bytes) = rw (goes, two, s, h.0, all_in_front is_focus_byte bytes) refl in
          rw (← same) here
      | inr h ↦ let no : ⊥ = cc in absurd no
    ]

-- a row that was found passes what each row does
row_passes : {A : Type 0} (passes : List ℕ × A → Bool) (rows : List (List ℕ × A)) (text : List ℕ) (row : List ℕ × A) → list_all passes rows ≡ true → first_row rows text ≡ Some row → passes row ≡ true
row_passes passes [] text row all e = cc
row_passes passes (first ∷ rows) text row all e =
    let each = and_parts (passes first) (list_all passes rows) all in
    elim (chosen (begins_with first.0 text) (Some first) (first_row rows text) (Some row) e) [
      | inl h ↦ let same : first ≡ row = cc in rw (← same) each.0
      | inr h ↦ row_passes passes rows text row each.1 h.1
    ]

dollar_word : (text more : List ℕ) (found : Lexeme) → dollar_word_at text ≡ Some found → is_word (word_as found.kind more) ≡ true
unfolding dollar_word_at
dollar_word text more found e =
    let way = mapped (λ (row : List ℕ × TokenKind). lexeme row.1 (length row.0)) (first_row dollar_words text) found e in
    let here : is_word (word_as (lexeme way.0.1 (length way.0.0)).kind more) ≡ true = row_passes (λ row. is_word (word_as row.1 more)) dollar_words text way.0 refl way.1 in
    rw (← way.2) here

sign_word : (text more : List ℕ) (found : Lexeme) → sign_at text ≡ Some found → is_word (word_as found.kind more) ≡ true
unfolding sign_at
sign_word text more found e =
    let way = mapped (λ row. lexeme (kind.Sign row.1) (length row.0)) (first_row signs text) found e in
    let here : is_word (word_as (lexeme (kind.Sign way.0.1) (length way.0.0)).kind more) ≡ true = refl in
    rw (← way.2) here

other_word : (byte : ℕ) (bytes : List ℕ) (found : Lexeme) → other_at byte bytes ≡ Some found → IsWord found (byte ∷ bytes)
other_word byte bytes found e =
    let text = byte ∷ bytes in
    elim (chosen (byte == 47) (focus_at bytes) (cond (byte == 36) (dollar_word_at text) (sign_at text)) (Some found) e) [
      | inl h ↦ focus_word byte bytes found h.0 h.1
      | inr h ↦ elim (chosen (byte == 36) (dollar_word_at text) (sign_at text) (Some found) h.1) [
        | inl i ↦ dollar_word text (take found.len text) found i.1
        | inr i ↦ sign_word text (take found.len text) found i.1
      ]
    ]

lexeme_word : (place : Place) (text : List ℕ) (found : Lexeme) → lexeme_at place text ≡ Ok (Some found) → IsWord found text
unfolding lexeme_at
lexeme_word place [] found e = cc
lexeme_word place (byte ∷ bytes) found e =
    let text = byte ∷ bytes in
    let name : Result (Option Lexeme) LexFault = Ok (Some (lexeme kind.Name (prefix_len is_name_byte text))) in
    let number = or_fault (BigNumber place) (number_at text) in
    let string = or_fault (OpenString place) (string_at bytes) in
    let other = or_fault (BadByte place) (other_at byte bytes) in
    elim (chosen (begins_name byte) name (cond (is_digit byte) number (cond (byte == 34) string other)) (Ok (Some found)) e) [
      | inl h ↦
          let same : lexeme kind.Name (prefix_len is_name_byte text) ≡ found = cc in
          rw (← same) (name_word byte bytes h.0)
      | inr h ↦ elim (chosen (is_digit byte) number (cond (byte == 34) string other) (Ok (Some found)) h.1) [
        | inl i ↦ number_word text (take found.len text) found (found_in (BigNumber place) (number_at text) found i.1)
        | inr i ↦ elim (chosen (byte == 34) string other (Ok (Some found)) i.1) [
          | inl j ↦ string_word byte bytes found (found_in (OpenString place) (string_at bytes) found j.1)
          | inr j ↦ other_word byte bytes found (found_in (BadByte place) (other_at byte bytes) found j.1)
        ]
      ]
    ]

-- what is left stands at its place in the source
abbrev IsLeft : List ℕ → Rest → Type 0
IsLeft source rest = drop rest.place.at source ≡ rest.bytes

behind_left : (source : List ℕ) (n : ℕ) (rest : Rest) → n ≤ length rest.bytes → IsLeft source rest → IsLeft source (rest_after n rest)
behind_left source n rest h e =
    let at : (after_bytes rest.place (take n rest.bytes)).at ≡ rest.place.at + n =
    at-behind_bytes rest.place (take n rest.bytes) ∙ ap (λ k. rest.place.at + k) (length-take-le n rest.bytes h) in
    ap (λ k. drop k source) at ∙ (sym (drop-drop n rest.place.at source) ∙ ap (drop n) e)

blanks_left : (source : List ℕ) (rest : Rest) → IsLeft source rest → IsLeft source (after_blanks rest)
blanks_left source rest e = behind_left source (blank_len false rest.bytes) rest (blank_len-le-length false rest.bytes) e

abbrev AreWords : List ℕ → Scan → Type 0
AreWords source scan = list_all is_word (map (word_of source) scan.tokens) ≡ true

words_on : (source : List ℕ) (more : Rest → Scan) (rest : Rest) (first : Result (Option Lexeme) LexFault) → IsLeft source rest → lexeme_at rest.place rest.bytes ≡ first → ((next : Rest) → IsLeft source next → AreWords source (more next)) → AreWords source (scan_on more rest first)
words_on source more rest (Err fault) left e go = refl
words_on source more rest (Ok None) left e go = refl
words_on source more rest (Ok (Some found)) left e go =
    let stands = lexeme_stands rest.place rest.bytes found e in
    let len : rest.place.at + found.len - rest.place.at ≡ found.len = omega arith in
    let here : is_word (word_of source (token_at rest.place found)) ≡ true = rw (len, left) (lexeme_word rest.place rest.bytes found e) in
    let next = blanks_left source (rest_after found.len rest) (behind_left source found.len rest stands.inside left) in
    rw (here, go (after rest found) next) refl

words_up_to : (source : List ℕ) (n : ℕ) (rest : Rest) → IsLeft source rest → AreWords source (scan_in n rest)
words_up_to source zero rest left = refl
words_up_to source (suc n) rest left = words_on source (scan_in n) rest (lexeme_at rest.place rest.bytes) left refl (λ next h. words_up_to source n next h)

words_left : (source : List ℕ) (rest : Rest) → IsLeft source rest → AreWords source (scan rest)
unfolding scan
words_left source rest left = words_up_to source (length rest.bytes) rest left

-- The words of a text are words.
pub words_of-are_words : (text : List ℕ) → list_all is_word (words_of text) ≡ true
unfolding tokens_of
words_of-are_words text =
    let start : Rest = record { place = first_place; bytes = text } in
    words_left text (after_blanks start) (blanks_left text start refl)
