-- Where a written word ends, and that none begins with a blank.
use Rattle.std.proofs.Common.{◌≡◌, ℕ, ◌+◌, ◌==◌, ◌||◌, not, true, false, List, [], ◌∷◌, ◌++◌, length, codes, refl, ◌∙◌, arith, slice_index}
use Rattle.std.specs.Fmt.{decimal}
use Rattle.std.specs.List.{list_all}
use Rattle.std.proofs.lemmas.Bool.{and_parts, eqb-true, leb-true}
use Rattle.pn_text.specs.Numbers.{is_digit}
use Rattle.pn_text.specs.Bytes.{is_white_space, is_letter, begins_name, is_name_byte, is_focus_byte}
use Rattle.pn_text.specs.Blanks.{blank_len}
use Rattle.pn_text.specs.Signs.{sign_text}
use Rattle.pn_text.specs.Words.{Word, NameWord, NumberWord, QuotedWord, FocusPath, DollarFocus, DollarAll, DollarMetric, DollarValue, DollarArg, SignWord, is_word, is_part}
use Rattle.pn_text.specs.Writing.{word_text, goes_on, lengthens, stand_apart, is_named, is_number, is_path}
use Rattle.pn_text.specs.declared.token.Sign.{Sign}
use Rattle.pn_text.specs.declared.token.Sign.TheVariants.{OpenBrace, CloseBrace, OpenBracket, CloseBracket, OpenParen, CloseParen, OpenCode, CloseCode, Semicolon, Comma, PlusPlus, MinusMinus, Assign, Equal, NotEqual, Less, LessEqual, Greater, GreaterEqual}
use Rattle.pn_text.proofs.Decimals.{Spells, decimal_spells}
use Rattle.pn_text.proofs.WordLexemes.{stops}

-- ---- gaps

white_no_slash : (byte : ℕ) → is_white_space byte ≡ true → (byte == 47) ≡ false
white_no_slash byte h = grind arith

-- the blanks that stand first are a gap of white space, and those after it
pub blank_len-append : (gap next : List ℕ) → list_all is_white_space gap ≡ true → blank_len false (gap ++ next) ≡ length gap + blank_len false next
blank_len-append [] next h = omega arith
blank_len-append (byte ∷ bytes) next h =
    let each = and_parts (is_white_space byte) (list_all is_white_space bytes) h in
    let more = blank_len-append bytes next each.1 in
    rw (white_no_slash byte each.0, each.0) (omega (arith, more))

-- no word begins with a blank
name_no_blank : (byte : ℕ) → begins_name byte ≡ true → ((byte == 47) ≡ false) × (is_white_space byte ≡ false)
name_no_blank byte h = (grind arith, grind arith)

digit_no_blank : (byte : ℕ) → is_digit byte ≡ true → ((byte == 47) ≡ false) × (is_white_space byte ≡ false)
digit_no_blank byte h = (grind arith, grind arith)

letter_no_slash : (byte : ℕ) → is_letter byte ≡ true → (byte == 47) ≡ false
letter_no_slash byte h = grind arith

digits_no_blank : (n : ℕ) (digits more : List ℕ) → Spells n digits → blank_len false (digits ++ more) ≡ 0
digits_no_blank n [] more s = absurd (omega (arith, s.some))
digits_no_blank n (byte ∷ bytes) more s =
    let no = digit_no_blank byte (and_parts (is_digit byte) (list_all is_digit bytes) s.each).0 in
    rw (no.0, no.1) refl

sign_no_blank : (sign : Sign) (more : List ℕ) → blank_len false (sign_text sign ++ more) ≡ 0
sign_no_blank OpenBrace more = refl
sign_no_blank CloseBrace more = refl
sign_no_blank OpenBracket more = refl
sign_no_blank CloseBracket more = refl
sign_no_blank OpenParen more = refl
sign_no_blank CloseParen more = refl
sign_no_blank OpenCode more = refl
sign_no_blank CloseCode more = refl
sign_no_blank Semicolon more = refl
sign_no_blank Comma more = refl
sign_no_blank PlusPlus more = refl
sign_no_blank MinusMinus more = refl
sign_no_blank Assign more = refl
sign_no_blank Equal more = refl
sign_no_blank NotEqual more = refl
sign_no_blank Less more = refl
sign_no_blank LessEqual more = refl
sign_no_blank Greater more = refl
sign_no_blank GreaterEqual more = refl

pub word_no_blank : (word : Word) (more : List ℕ) → is_word word ≡ true → blank_len false (word_text word ++ more) ≡ 0
word_no_blank (NameWord []) more h = cc
word_no_blank (NameWord (byte ∷ bytes)) more h =
    let no = name_no_blank byte (and_parts (begins_name byte) (list_all is_name_byte bytes) h).0 in
    rw (no.0, no.1) refl
word_no_blank (NumberWord n) more h = digits_no_blank n (decimal n) more (decimal_spells n (omega (arith, leb-true n 2147483647 h)))
word_no_blank (QuotedWord text) more h = refl
word_no_blank (FocusPath []) more h = cc
word_no_blank (FocusPath (byte ∷ [])) more h = let no : false ≡ true = (and_parts (byte == 47) false h).1 in cc
word_no_blank (FocusPath (byte ∷ letter ∷ bytes)) more h =
    let each = and_parts (byte == 47) (is_part (letter ∷ bytes)) h in
    let slash : byte ≡ 47 = eqb-true byte 47 each.0 in
    let no = letter_no_slash letter (and_parts (is_letter letter) (list_all is_focus_byte bytes) each.1).0 in
    rw (slash, no) refl
word_no_blank DollarFocus more h = refl
word_no_blank DollarAll more h = refl
word_no_blank DollarMetric more h = refl
word_no_blank DollarValue more h = refl
word_no_blank DollarArg more h = refl
word_no_blank (SignWord sign) more h = sign_no_blank sign more

-- ---- where a word ends

lengthens_no : (sign : Sign) (byte : ℕ) → (byte == 42) ≡ false → (byte == 61) ≡ false → lengthens sign byte ≡ false
lengthens_no OpenParen byte h k = h
lengthens_no Assign byte h k = k
lengthens_no Less byte h k = k
lengthens_no Greater byte h k = k
lengthens_no sign byte h k = refl

white_is_no : (byte : ℕ) → is_white_space byte ≡ true → (begins_name byte ≡ false) × (is_digit byte ≡ false) × ((byte == 46) ≡ false) × ((byte == 42) ≡ false) × ((byte == 61) ≡ false)
white_is_no byte h = (grind arith, grind arith, grind arith, grind arith, grind arith)

-- a word ends before white space
pub white_stops : (word : Word) (byte : ℕ) (bytes : List ℕ) → is_white_space byte ≡ true → stops (goes_on word) (byte ∷ bytes) ≡ true
white_stops (NameWord name) byte bytes h = let no = white_is_no byte h in rw (no.0, no.1, no.2) refl
white_stops (NumberWord n) byte bytes h = rw (white_is_no byte h).1 refl
white_stops (FocusPath path) byte bytes h = rw h refl
white_stops (SignWord sign) byte bytes h = let no = white_is_no byte h in rw (lengthens_no sign byte no.3 no.4) refl
white_stops word byte bytes h = refl

-- before a name
name_is_no : (byte : ℕ) → begins_name byte ≡ true → (is_digit byte ≡ false) × ((byte == 42) ≡ false) × ((byte == 61) ≡ false)
name_is_no byte h = (grind arith, grind arith, grind arith)

name_stops : (left : Word) (byte : ℕ) (bytes : List ℕ) → begins_name byte ≡ true → not (is_named left || is_path left) ≡ true → stops (goes_on left) (byte ∷ bytes) ≡ true
name_stops (NameWord name) byte bytes h s = cc
name_stops (NumberWord n) byte bytes h s = rw (name_is_no byte h).0 refl
name_stops (FocusPath path) byte bytes h s = cc
name_stops (SignWord sign) byte bytes h s = let no = name_is_no byte h in rw (lengthens_no sign byte no.1 no.2) refl
name_stops left byte bytes h s = refl

-- before a number
digit_is_no : (byte : ℕ) → is_digit byte ≡ true → ((byte == 42) ≡ false) × ((byte == 61) ≡ false)
digit_is_no byte h = (grind arith, grind arith)

digit_stops : (left : Word) (byte : ℕ) (bytes : List ℕ) → is_digit byte ≡ true → not (is_named left || is_number left || is_path left) ≡ true → stops (goes_on left) (byte ∷ bytes) ≡ true
digit_stops (NameWord name) byte bytes h s = cc
digit_stops (NumberWord n) byte bytes h s = cc
digit_stops (FocusPath path) byte bytes h s = cc
digit_stops (SignWord sign) byte bytes h s = let no = digit_is_no byte h in rw (lengthens_no sign byte no.0 no.1) refl
digit_stops left byte bytes h s = refl

digits_stop : (left : Word) (n : ℕ) (digits more : List ℕ) → Spells n digits → not (is_named left || is_number left || is_path left) ≡ true → stops (goes_on left) (digits ++ more) ≡ true
digits_stop left n [] more s h = absurd (omega (arith, s.some))
digits_stop left n (byte ∷ bytes) more s h = digit_stops left byte (bytes ++ more) (and_parts (is_digit byte) (list_all is_digit bytes) s.each).0 h

-- before a quote, a `/` and a `$`
quote_stops : (left : Word) (bytes : List ℕ) → not (is_path left) ≡ true → stops (goes_on left) (34 ∷ bytes) ≡ true
quote_stops (FocusPath path) bytes s = cc
quote_stops (SignWord sign) bytes s = rw (lengthens_no sign 34 refl refl) refl
quote_stops left bytes s = refl

slash_stops : (left : Word) (bytes : List ℕ) → not (is_path left) ≡ true → stops (goes_on left) (47 ∷ bytes) ≡ true
slash_stops (FocusPath path) bytes s = cc
slash_stops (SignWord sign) bytes s = rw (lengthens_no sign 47 refl refl) refl
slash_stops left bytes s = refl

dollar_stops : (left : Word) (bytes : List ℕ) → not (is_path left) ≡ true → stops (goes_on left) (36 ∷ bytes) ≡ true
dollar_stops (FocusPath path) bytes s = cc
dollar_stops (SignWord sign) bytes s = rw (lengthens_no sign 36 refl refl) refl
dollar_stops left bytes s = refl

-- before a sign
sign_stops : (left : Word) (sign : Sign) (more : List ℕ) → stops (goes_on left) (sign_text sign ++ more) ≡ not (goes_on left (slice_index (sign_text sign) 0))
sign_stops left OpenBrace more = refl
sign_stops left CloseBrace more = refl
sign_stops left OpenBracket more = refl
sign_stops left CloseBracket more = refl
sign_stops left OpenParen more = refl
sign_stops left CloseParen more = refl
sign_stops left OpenCode more = refl
sign_stops left CloseCode more = refl
sign_stops left Semicolon more = refl
sign_stops left Comma more = refl
sign_stops left PlusPlus more = refl
sign_stops left MinusMinus more = refl
sign_stops left Assign more = refl
sign_stops left Equal more = refl
sign_stops left NotEqual more = refl
sign_stops left Less more = refl
sign_stops left LessEqual more = refl
sign_stops left Greater more = refl
sign_stops left GreaterEqual more = refl

-- words that stand apart
pub apart_stops : (left right : Word) (more : List ℕ) → is_word right ≡ true → stand_apart left right ≡ true → stops (goes_on left) (word_text right ++ more) ≡ true
apart_stops left (NameWord []) more h s = cc
apart_stops left (NameWord (byte ∷ bytes)) more h s = name_stops left byte (bytes ++ more) (and_parts (begins_name byte) (list_all is_name_byte bytes) h).0 s
apart_stops left (NumberWord n) more h s = digits_stop left n (decimal n) more (decimal_spells n (omega (arith, leb-true n 2147483647 h))) s
apart_stops left (QuotedWord text) more h s = quote_stops left ((text ++ (34 ∷ [])) ++ more) s
apart_stops left (FocusPath []) more h s = cc
apart_stops left (FocusPath (byte ∷ bytes)) more h s =
    let slash : byte ≡ 47 = eqb-true byte 47 (and_parts (byte == 47) (is_part bytes) h).0 in
    rw slash (slash_stops left (bytes ++ more) s)
apart_stops left DollarFocus more h s = dollar_stops left (codes "focus" ++ more) s
apart_stops left DollarAll more h s = dollar_stops left (codes "all" ++ more) s
apart_stops left DollarMetric more h s = dollar_stops left (codes "metric" ++ more) s
apart_stops left DollarValue more h s = dollar_stops left (codes "value" ++ more) s
apart_stops left DollarArg more h s = dollar_stops left (codes "arg" ++ more) s
apart_stops left (SignWord sign) more h s = sign_stops left sign more ∙ s
