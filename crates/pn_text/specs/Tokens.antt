-- The token with which a text begins that doesn't begin with a blank.
use Rattle.std.specs.Prelude.{ℕ, ◌+◌, ◌==◌, if◌then◌else◌, Option, Some, None, Result, Ok, Err, List, [], ◌∷◌, take, drop, length, codes}
use Rattle.std.specs.Option.{option_and_then, option_map}
use Rattle.std.specs.List.{prefix_len}
use Rattle.pn_text.specs.Numbers.{is_digit, decimal_from, at_most}
use Rattle.pn_text.specs.Bytes.{is_letter, begins_name, is_name_byte, is_string_byte, is_focus_byte, begins_with}
use Rattle.pn_text.specs.Signs.{signs, dollar_words, first_row}
use Rattle.pn_text.specs.declared.place.Place.{Place}
use Rattle.pn_text.specs.declared.token.TokenKind.{TokenKind}
use Rattle.pn_text.specs.declared.token.TokenKind.TheVariants as kind
use Rattle.pn_text.specs.declared.token.LexFault.{LexFault}
use Rattle.pn_text.specs.declared.token.LexFault.TheVariants.{BadByte, OpenString, BigNumber}
use Rattle.pn_text.specs.declared.lexeme.Lexeme.{Lexeme}

-- a token of this kind and length
abbrev pub lexeme : TokenKind → ℕ → Lexeme
lexeme kind len = record { kind = kind; len = len }

-- the number of these digits, if it is small enough
abbrev pub digits_value : List ℕ → Option ℕ
digits_value digits = option_and_then (at_most 2147483647) (decimal_from 0 digits)

-- all digits that stand first, and their number
unfoldable pub number_at : List ℕ → Option Lexeme
number_at text = option_map (λ n. lexeme (kind.Number n) (prefix_len is_digit text)) (digits_value (take (prefix_len is_digit text) text))

-- a string whose first quote stands before these bytes: a second comes before an LF and the end
unfoldable pub string_at : List ℕ → Option Lexeme
string_at bytes =
    if begins_with (codes "\"") (drop (prefix_len is_string_byte bytes) bytes)
    then Some (lexeme kind.Quoted (prefix_len is_string_byte bytes + 2))
    else None

-- a focus whose `/` stands before these bytes: a letter comes next
unfoldable pub focus_at : List ℕ → Option Lexeme
focus_at [] = None
focus_at (byte ∷ bytes) = if is_letter byte then Some (lexeme kind.Focus (prefix_len is_focus_byte (byte ∷ bytes) + 1)) else None

-- a word with `$`
unfoldable pub dollar_word_at : List ℕ → Option Lexeme
dollar_word_at text = option_map (λ row. lexeme row.1 (length row.0)) (first_row dollar_words text)

-- a sign, the longest
unfoldable pub sign_at : List ℕ → Option Lexeme
sign_at text = option_map (λ row. lexeme (kind.Sign row.1) (length row.0)) (first_row signs text)

-- a token that begins with this byte, but a name, a number and a string
abbrev pub other_at : ℕ → List ℕ → Option Lexeme
other_at byte bytes =
    if byte == 47 then focus_at bytes
    else if byte == 36 then dollar_word_at (byte ∷ bytes)
    else sign_at (byte ∷ bytes)

-- the token, or the fault where there is none
abbrev pub or_fault : LexFault → Option Lexeme → Result (Option Lexeme) LexFault
or_fault fault None = Err fault
or_fault fault (Some found) = Ok (Some found)

-- the token, none at the end, or the fault, which stands at the text's place
unfoldable pub lexeme_at : Place → List ℕ → Result (Option Lexeme) LexFault
lexeme_at place [] = Ok None
lexeme_at place (byte ∷ bytes) =
    if begins_name byte then Ok (Some (lexeme kind.Name (prefix_len is_name_byte (byte ∷ bytes))))
    else if is_digit byte then or_fault (BigNumber place) (number_at (byte ∷ bytes))
    else if byte == 34 then or_fault (OpenString place) (string_at bytes)
    else or_fault (BadByte place) (other_at byte bytes)
