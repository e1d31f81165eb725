-- A written word is read as its own token, if it doesn't go on with what stands after it.
use Rattle.std.proofs.Common.{◌≡◌, ℕ, suc, ◌+◌, ◌-◌, ◌==◌, not, nat_le, Bool, true, false, Some, Ok, List, [], ◌∷◌, ◌++◌, length, take, refl, ap, arith}
use Rattle.std.specs.Fmt.{decimal}
use Rattle.std.specs.List.{list_all, prefix_len}
use Rattle.std.proofs.lemmas.Bool.{and_parts, not-true, eqb-true, leb-true}
use Rattle.std.proofs.lemmas.List.{take_at, drop_at, append_assoc, length-append}
use Rattle.pn_text.specs.Numbers.{is_digit, decimal_from}
use Rattle.pn_text.specs.Bytes.{is_letter, begins_name, is_name_byte, is_string_byte, is_focus_byte}
use Rattle.pn_text.specs.Tokens.{lexeme, number_at, string_at, focus_at, dollar_word_at, sign_at, lexeme_at}
use Rattle.pn_text.specs.Words.{Word, NameWord, NumberWord, QuotedWord, FocusPath, DollarFocus, DollarAll, DollarMetric, DollarValue, DollarArg, SignWord, word_as, is_word, is_name, is_focus, is_part}
use Rattle.pn_text.specs.Writing.{word_text, goes_on, lengthens}
use Rattle.pn_text.specs.declared.place.Place.{Place}
use Rattle.pn_text.specs.declared.token.Sign.{Sign}
use Rattle.pn_text.specs.declared.token.Sign.TheVariants.{OpenBrace, CloseBrace, OpenBracket, CloseBracket, OpenParen, CloseParen, OpenCode, CloseCode, Semicolon, Comma, PlusPlus, MinusMinus, Assign, Equal, NotEqual, Less, LessEqual, Greater, GreaterEqual}
use Rattle.pn_text.specs.declared.token.TokenKind.{TokenKind}
use Rattle.pn_text.specs.declared.token.TokenKind.TheVariants as kind
use Rattle.pn_text.proofs.Decimals.{Spells, decimal_spells}

-- the kind of a word's token
abbrev pub kind_of : Word → TokenKind
kind_of (NameWord name) = kind.Name
kind_of (NumberWord n) = kind.Number n
kind_of (QuotedWord text) = kind.Quoted
kind_of (FocusPath path) = kind.Focus
kind_of DollarFocus = kind.FocusWord
kind_of DollarAll = kind.AllWord
kind_of DollarMetric = kind.MetricWord
kind_of DollarValue = kind.ValueWord
kind_of DollarArg = kind.ArgWord
kind_of (SignWord sign) = kind.Sign sign

-- nothing stands after, or a byte that fails the test
abbrev pub stops : (ℕ → Bool) → List ℕ → Bool
stops goes [] = true
stops goes (byte ∷ bytes) = not (goes byte)

-- a front that passes, up to a byte that doesn't
pub prefix_len-append : (p : ℕ → Bool) (front after : List ℕ) → list_all p front ≡ true → stops p after ≡ true → prefix_len p (front ++ after) ≡ length front
prefix_len-append p [] [] h s = refl
prefix_len-append p [] (byte ∷ bytes) h s = rw (not-true (p byte) s) refl
prefix_len-append p (x ∷ xs) after h s =
    let each = and_parts (p x) (list_all p xs) h in
    let more : prefix_len p (xs ++ after) ≡ length xs = prefix_len-append p xs after each.1 s in
    rw (each.0, more) (omega arith)

abbrev Reads : Word → List ℕ → Place → Type 0
Reads word after place = lexeme_at place (word_text word ++ after) ≡ Ok (Some (lexeme (kind_of word) (length (word_text word))))

name_reads : (name after : List ℕ) (place : Place) → is_name name ≡ true → stops is_name_byte after ≡ true → Reads (NameWord name) after place
unfolding lexeme_at
name_reads [] after place h s = cc
name_reads (byte ∷ bytes) after place h s =
    let each = and_parts (begins_name byte) (list_all is_name_byte bytes) h in
    let more : prefix_len is_name_byte (bytes ++ after) ≡ length bytes = prefix_len-append is_name_byte bytes after each.1 s in
    let len : 1 + length bytes ≡ suc (length bytes) = omega arith in
    rw (each.0, more) (ap (λ n. Ok (Some (lexeme kind.Name n))) len)

digit_no_name : (byte : ℕ) → is_digit byte ≡ true → begins_name byte ≡ false
digit_no_name byte h = grind arith

number_at_is : (text digits : List ℕ) (n k : ℕ) → prefix_len is_digit text ≡ k → take k text ≡ digits → decimal_from 0 digits ≡ Some n → nat_le n 2147483647 ≡ true → number_at text ≡ Some (lexeme (kind.Number n) k)
unfolding number_at
number_at_is text digits n k len front value most = rw (len, front, value, most) refl

digits_read : (n : ℕ) (digits after : List ℕ) (place : Place) → Spells n digits → nat_le n 2147483647 ≡ true → stops is_digit after ≡ true → lexeme_at place (digits ++ after) ≡ Ok (Some (lexeme (kind.Number n) (length digits)))
unfolding lexeme_at
digits_read n [] after place s most stop = absurd (omega (arith, s.some))
digits_read n (byte ∷ bytes) after place s most stop =
    let each = and_parts (is_digit byte) (list_all is_digit bytes) s.each in
    let number = number_at_is (byte ∷ (bytes ++ after)) (byte ∷ bytes) n (length (byte ∷ bytes))
    (prefix_len-append is_digit (byte ∷ bytes) after s.each stop)
    (take_at (byte ∷ bytes) after (length (byte ∷ bytes)) refl) s.value most in
    rw (digit_no_name byte each.0, each.0, number) refl

string_at_is : (text after : List ℕ) → list_all is_string_byte text ≡ true → string_at (text ++ (34 ∷ after)) ≡ Some (lexeme kind.Quoted (length text + 2))
unfolding string_at
string_at_is text after h =
    rw (prefix_len-append is_string_byte text (34 ∷ after) h refl, drop_at text (34 ∷ after) (length text) refl) refl

string_reads : (text after : List ℕ) (place : Place) → list_all is_string_byte text ≡ true → Reads (QuotedWord text) after place
unfolding lexeme_at
string_reads text after place h =
    let len : length text + 2 ≡ suc (length (text ++ (34 ∷ []))) = omega (arith, length-append text (34 ∷ [])) in
    rw (append_assoc text (34 ∷ []) after, string_at_is text after h) (ap (λ n. Ok (Some (lexeme kind.Quoted n))) len)

pub letter_goes_on : (byte : ℕ) → is_letter byte ≡ true → is_focus_byte byte ≡ true
letter_goes_on byte h = grind arith

focus_reads : (path after : List ℕ) (place : Place) → is_focus path ≡ true → stops is_focus_byte after ≡ true → Reads (FocusPath path) after place
unfolding lexeme_at focus_at
focus_reads [] after place h s = cc
focus_reads (byte ∷ []) after place h s = let no : false ≡ true = (and_parts (byte == 47) false h).1 in cc
focus_reads (byte ∷ letter ∷ bytes) after place h s =
    let each = and_parts (byte == 47) (is_part (letter ∷ bytes)) h in
    let slash : byte ≡ 47 = eqb-true byte 47 each.0 in
    let part = and_parts (is_letter letter) (list_all is_focus_byte bytes) each.1 in
    let more : prefix_len is_focus_byte (bytes ++ after) ≡ length bytes = prefix_len-append is_focus_byte bytes after part.1 s in
    let len : 1 + length bytes + 1 ≡ suc (suc (length bytes)) = omega arith in
    rw (slash, part.0, letter_goes_on letter part.0, more) (ap (λ n. Ok (Some (lexeme kind.Focus n))) len)

-- a sign that nothing lengthens
sign_reads : (sign : Sign) (after : List ℕ) (place : Place) → stops (lengthens sign) after ≡ true → Reads (SignWord sign) after place
unfolding lexeme_at sign_at
sign_reads OpenBrace after place s = refl
sign_reads CloseBrace after place s = refl
sign_reads OpenBracket after place s = refl
sign_reads CloseBracket after place s = refl
sign_reads OpenParen [] place s = refl
sign_reads OpenParen (byte ∷ bytes) place s = rw (not-true (byte == 42) s) refl
sign_reads CloseParen after place s = refl
sign_reads OpenCode after place s = refl
sign_reads CloseCode after place s = refl
sign_reads Semicolon after place s = refl
sign_reads Comma after place s = refl
sign_reads PlusPlus after place s = refl
sign_reads MinusMinus after place s = refl
sign_reads Assign [] place s = refl
sign_reads Assign (byte ∷ bytes) place s = rw (not-true (byte == 61) s) refl
sign_reads Equal after place s = refl
sign_reads NotEqual after place s = refl
sign_reads Less [] place s = refl
sign_reads Less (byte ∷ bytes) place s = rw (not-true (byte == 61) s) refl
sign_reads LessEqual after place s = refl
sign_reads Greater [] place s = refl
sign_reads Greater (byte ∷ bytes) place s = rw (not-true (byte == 61) s) refl
sign_reads GreaterEqual after place s = refl

pub word_reads : (word : Word) (after : List ℕ) (place : Place) → is_word word ≡ true → stops (goes_on word) after ≡ true → Reads word after place
unfolding lexeme_at dollar_word_at
word_reads (NameWord name) after place h s = name_reads name after place h s
word_reads (NumberWord n) after place h s = digits_read n (decimal n) after place (decimal_spells n (omega (arith, leb-true n 2147483647 h))) h s
word_reads (QuotedWord text) after place h s = string_reads text after place h
word_reads (FocusPath path) after place h s = focus_reads path after place h s
word_reads DollarFocus after place h s = refl
word_reads DollarAll after place h s = refl
word_reads DollarMetric after place h s = refl
word_reads DollarValue after place h s = refl
word_reads DollarArg after place h s = refl
word_reads (SignWord sign) after place h s = sign_reads sign after place s

-- and its token is that word
pub word_as-word_text : (word : Word) → word_as (kind_of word) (word_text word) ≡ word
word_as-word_text (NameWord name) = refl
word_as-word_text (NumberWord n) = refl
word_as-word_text (QuotedWord text) =
    let len : suc (length (text ++ (34 ∷ []))) - 2 ≡ length text = omega (arith, length-append text (34 ∷ [])) in
    rw (len, take_at text (34 ∷ []) (length text) refl) refl
word_as-word_text (FocusPath path) = refl
word_as-word_text DollarFocus = refl
word_as-word_text DollarAll = refl
word_as-word_text DollarMetric = refl
word_as-word_text DollarValue = refl
word_as-word_text DollarArg = refl
word_as-word_text (SignWord sign) = refl
