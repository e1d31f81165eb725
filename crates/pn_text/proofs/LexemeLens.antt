-- A token has at least one byte, and all its bytes stand in the text.
use Rattle.std.proofs.Common.{◌≡◌, ℕ, ◌+◌, ◌<◌, ◌≤◌, ◌==◌, nat_lt, Bool, true, false, cond, Option, Some, None, Result, Ok, List, [], ◌∷◌, length, take, drop, codes, refl, ap, sym, ◌∙◌, inl, inr, ◌⊎◌, arith, min}
use Rattle.std.specs.Option.{option_map}
use Rattle.std.specs.List.{prefix_len, list_all}
use Rattle.std.proofs.lemmas.Bool.{ltb-true, and_parts}
use Rattle.std.proofs.lemmas.List.{length-take, length-drop}
use Rattle.std.proofs.lemmas.List.Sums.{prefix_len-le-length}
use Rattle.std.proofs.lemmas.Slice.Eq.{bytes_eq-Decides}
use Rattle.pn_text.specs.Numbers.{is_digit}
use Rattle.pn_text.specs.Bytes.{is_letter, begins_name, is_name_byte, is_string_byte, is_focus_byte, begins_with}
use Rattle.pn_text.specs.Signs.{signs, dollar_words, first_row}
use Rattle.pn_text.specs.Tokens.{lexeme, digits_value, number_at, string_at, focus_at, dollar_word_at, sign_at, other_at, or_fault, lexeme_at}
use Rattle.pn_text.specs.declared.place.Place.{Place}
use Rattle.pn_text.specs.declared.token.TokenKind.{TokenKind}
use Rattle.pn_text.specs.declared.token.TokenKind.TheVariants as kind
use Rattle.pn_text.specs.declared.token.LexFault.{LexFault}
use Rattle.pn_text.specs.declared.token.LexFault.TheVariants.{BadByte, OpenString, BigNumber}
use Rattle.pn_text.specs.declared.lexeme.Lexeme.{Lexeme}

-- its length for a text
pub record Stands (found : Lexeme) (text : List ℕ) : Type 0 where
  pub some : 0 < found.len
  pub inside : found.len ≤ length text

-- what was chosen, and how
pub chosen : {A : Type 0} (b : Bool) (x y z : A) → cond b x y ≡ z → ((b ≡ true) × (x ≡ z)) ⊎ ((b ≡ false) × (y ≡ z))
chosen true x y z e = inl (refl, e)
chosen false x y z e = inr (refl, e)

-- what was mapped
pub mapped : {A B : Type 0} (f : A → B) (o : Option A) (y : B) → option_map f o ≡ Some y → (x : A) × (o ≡ Some x) × (f x ≡ y)
mapped f None y e = cc
mapped f (Some x) y e = (x, refl, cc)

-- a word with which a text begins is no longer than it
pub begins_within : (word text : List ℕ) → begins_with word text ≡ true → length word ≤ length text
begins_within word text e =
    let same : take (length word) text ≡ word = (bytes_eq-Decides (take (length word) text) word).0 e in
    let least : min (length word) (length text) ≡ length word = sym (length-take (length word) text) ∙ ap length same in
    omega arith

abbrev has_bytes : {A : Type 0} → List ℕ × A → Bool
has_bytes row = nat_lt 0 (length row.0)

row_stands : {A : Type 0} (rows : List (List ℕ × A)) (text : List ℕ) (row : List ℕ × A) → list_all has_bytes rows ≡ true → first_row rows text ≡ Some row → (0 < length row.0) × (length row.0 ≤ length text)
row_stands [] text row some e = cc
row_stands (first ∷ rows) text row some e =
    let each = and_parts (has_bytes first) (list_all has_bytes rows) some in
    elim (chosen (begins_with first.0 text) (Some first) (first_row rows text) (Some row) e) [
      | inl h ↦
          let same : first ≡ row = cc in
          let here : (0 < length first.0) × (length first.0 ≤ length text) = (ltb-true 0 (length first.0) each.0, begins_within first.0 text h.0) in
          rw (← same) here
      | inr h ↦ row_stands rows text row each.1 h.1
    ]

name_stands : (byte : ℕ) (bytes : List ℕ) → begins_name byte ≡ true → Stands (lexeme kind.Name (prefix_len is_name_byte (byte ∷ bytes))) (byte ∷ bytes)
name_stands byte bytes e = record {
  some = let at : is_name_byte byte ≡ true = rw e refl in rw at (omega arith);
  inside = prefix_len-le-length is_name_byte (byte ∷ bytes);
}

number_stands : (byte : ℕ) (bytes : List ℕ) (found : Lexeme) → is_digit byte ≡ true → number_at (byte ∷ bytes) ≡ Some found → Stands found (byte ∷ bytes)
unfolding number_at
number_stands byte bytes found digit e =
    let len = prefix_len is_digit (byte ∷ bytes) in
    let way = mapped (λ (n : ℕ). lexeme (kind.Number n) len) (digits_value (take len (byte ∷ bytes))) found e in
    let here : Stands (lexeme (kind.Number way.0) len) (byte ∷ bytes) = record { some = rw digit (omega arith); inside = prefix_len-le-length is_digit (byte ∷ bytes) } in
    rw (← way.2) here

string_stands : (byte : ℕ) (bytes : List ℕ) (found : Lexeme) → string_at bytes ≡ Some found → Stands found (byte ∷ bytes)
unfolding string_at
string_stands byte bytes found e =
    let len = prefix_len is_string_byte bytes in
    elim (chosen (begins_with (codes "\"") (drop len bytes)) (Some (lexeme kind.Quoted (len + 2))) None (Some found) e) [
      | inl h ↦
          let quote : 1 ≤ length (drop len bytes) = begins_within (codes "\"") (drop len bytes) h.0 in
          let same : lexeme kind.Quoted (len + 2) ≡ found = cc in
          let here : Stands (lexeme kind.Quoted (len + 2)) (byte ∷ bytes) = record { some = omega arith; inside = omega (arith, length-drop len bytes) } in
          rw (← same) here
      | inr h ↦ let no : ⊥ = cc in absurd no
    ]

focus_stands : (first : ℕ) (text : List ℕ) (found : Lexeme) → focus_at text ≡ Some found → Stands found (first ∷ text)
unfolding focus_at
focus_stands first [] found e = cc
focus_stands first (byte ∷ bytes) found e =
    let len = prefix_len is_focus_byte (byte ∷ bytes) in
    elim (chosen (is_letter byte) (Some (lexeme kind.Focus (len + 1))) None (Some found) e) [
      | inl h ↦
          let same : lexeme kind.Focus (len + 1) ≡ found = cc in
          let here : Stands (lexeme kind.Focus (len + 1)) (first ∷ byte ∷ bytes) = record { some = omega arith; inside = omega (arith, prefix_len-le-length is_focus_byte (byte ∷ bytes)) } in
          rw (← same) here
      | inr h ↦ let no : ⊥ = cc in absurd no
    ]

dollar_stands : (text : List ℕ) (found : Lexeme) → dollar_word_at text ≡ Some found → Stands found text
unfolding dollar_word_at
dollar_stands text found e =
    let way = mapped (λ (row : List ℕ × TokenKind). lexeme row.1 (length row.0)) (first_row dollar_words text) found e in
    let at = row_stands dollar_words text way.0 refl way.1 in
    let here : Stands (lexeme way.0.1 (length way.0.0)) text = record { some = at.0; inside = at.1 } in
    rw (← way.2) here

sign_stands : (text : List ℕ) (found : Lexeme) → sign_at text ≡ Some found → Stands found text
unfolding sign_at
sign_stands text found e =
    let way = mapped (λ row. lexeme (kind.Sign row.1) (length row.0)) (first_row signs text) found e in
    let at = row_stands signs text way.0 refl way.1 in
    let here : Stands (lexeme (kind.Sign way.0.1) (length way.0.0)) text = record { some = at.0; inside = at.1 } in
    rw (← way.2) here

other_stands : (byte : ℕ) (bytes : List ℕ) (found : Lexeme) → other_at byte bytes ≡ Some found → Stands found (byte ∷ bytes)
other_stands byte bytes found e =
    elim (chosen (byte == 47) (focus_at bytes) (cond (byte == 36) (dollar_word_at (byte ∷ bytes)) (sign_at (byte ∷ bytes))) (Some found) e) [
      | inl h ↦ focus_stands byte bytes found h.1
      | inr h ↦ elim (chosen (byte == 36) (dollar_word_at (byte ∷ bytes)) (sign_at (byte ∷ bytes)) (Some found) h.1) [
        | inl i ↦ dollar_stands (byte ∷ bytes) found i.1
        | inr i ↦ sign_stands (byte ∷ bytes) found i.1
      ]
    ]

-- what isn't a fault
pub found_in : (fault : LexFault) (o : Option Lexeme) (found : Lexeme) → or_fault fault o ≡ Ok (Some found) → o ≡ Some found
found_in fault None found e = cc
found_in fault (Some x) found e = cc

pub lexeme_stands : (place : Place) (text : List ℕ) (found : Lexeme) → lexeme_at place text ≡ Ok (Some found) → Stands found text
unfolding lexeme_at
lexeme_stands place [] found e = cc
lexeme_stands place (byte ∷ bytes) found e =
    let name : Result (Option Lexeme) LexFault = Ok (Some (lexeme kind.Name (prefix_len is_name_byte (byte ∷ bytes)))) in
    let number = or_fault (BigNumber place) (number_at (byte ∷ bytes)) in
    let string = or_fault (OpenString place) (string_at bytes) in
    let other = or_fault (BadByte place) (other_at byte bytes) in
    elim (chosen (begins_name byte) name (cond (is_digit byte) number (cond (byte == 34) string other)) (Ok (Some found)) e) [
      | inl h ↦
          let same : lexeme kind.Name (prefix_len is_name_byte (byte ∷ bytes)) ≡ found = cc in
          rw (← same) (name_stands byte bytes h.0)
      | inr h ↦ elim (chosen (is_digit byte) number (cond (byte == 34) string other) (Ok (Some found)) h.1) [
        | inl i ↦ number_stands byte bytes found i.0 (found_in (BigNumber place) (number_at (byte ∷ bytes)) found i.1)
        | inr i ↦ elim (chosen (byte == 34) string other (Ok (Some found)) i.1) [
          | inl j ↦ string_stands byte bytes found (found_in (OpenString place) (string_at bytes) found j.1)
          | inr j ↦ other_stands byte bytes found (found_in (BadByte place) (other_at byte bytes) found j.1)
        ]
      ]
    ]
