-- Words as they are written, one after another.
use Rattle.std.specs.Prelude.{ℕ, ◌==◌, ◌&&◌, ◌||◌, nat_lt, not, Bool, true, false, List, [], ◌∷◌, ◌++◌, map, length, codes, slice_index}
use Rattle.std.specs.Fmt.{decimal}
use Rattle.std.specs.List.{list_all}
use Rattle.pn_text.specs.Numbers.{is_digit}
use Rattle.pn_text.specs.Bytes.{is_white_space, is_name_byte, is_focus_byte}
use Rattle.pn_text.specs.Signs.{sign_text}
use Rattle.pn_text.specs.Words.{Word, NameWord, NumberWord, QuotedWord, FocusPath, DollarFocus, DollarAll, DollarMetric, DollarValue, DollarArg, SignWord, is_word}
use Rattle.pn_text.specs.declared.token.Sign.{Sign}
use Rattle.pn_text.specs.declared.token.Sign.TheVariants.{OpenParen, Assign, Less, Greater}

-- how a word is written: a number without leading zeros, and quotes around a string
abbrev pub word_text : Word → List ℕ
word_text (NameWord name) = name
word_text (NumberWord n) = decimal n
word_text (QuotedWord text) = codes "\"" ++ (text ++ codes "\"")
word_text (FocusPath path) = path
word_text DollarFocus = codes "$focus"
word_text DollarAll = codes "$all"
word_text DollarMetric = codes "$metric"
word_text DollarValue = codes "$value"
word_text DollarArg = codes "$arg"
word_text (SignWord sign) = sign_text sign

-- ---- side by side

-- the byte makes a longer sign of this one
abbrev pub lengthens : Sign → ℕ → Bool
lengthens OpenParen byte = byte == 42
lengthens Assign byte = byte == 61
lengthens Less byte = byte == 61
lengthens Greater byte = byte == 61
lengthens sign byte = false

-- the word goes on with a byte that stands directly after it
abbrev pub goes_on : Word → ℕ → Bool
goes_on (NameWord name) byte = is_name_byte byte
goes_on (NumberWord n) byte = is_digit byte
goes_on (FocusPath path) byte = is_focus_byte byte
goes_on (SignWord sign) byte = lengthens sign byte
goes_on word byte = false

-- a name, a number, a focus
abbrev pub is_named : Word → Bool
is_named (NameWord name) = true
is_named word = false

abbrev pub is_number : Word → Bool
is_number (NumberWord n) = true
is_number word = false

abbrev pub is_path : Word → Bool
is_path (FocusPath path) = true
is_path word = false

-- two words may stand side by side with nothing between them: the left one doesn't go on with what the right one
-- begins with
abbrev pub stand_apart : Word → Word → Bool
stand_apart left (NameWord name) = not (is_named left || is_path left)
stand_apart left (NumberWord n) = not (is_named left || is_number left || is_path left)
stand_apart left (SignWord sign) = not (goes_on left (slice_index (sign_text sign) 0))
stand_apart left right = not (is_path left)

-- the words, each after its gap
abbrev pub pieces_text : List (List ℕ × Word) → List ℕ
pieces_text [] = []
pieces_text (piece ∷ pieces) = piece.0 ++ (word_text piece.1 ++ pieces_text pieces)

-- the words, without their gaps
abbrev pub words_in : List (List ℕ × Word) → List Word
words_in pieces = map (λ piece. piece.1) pieces

-- each gap is white space, each word is one, and words without a gap between them stand apart
abbrev pub follow : Word → List (List ℕ × Word) → Bool
follow left [] = true
follow left (piece ∷ pieces) =
    list_all is_white_space piece.0 && is_word piece.1 && (nat_lt 0 (length piece.0) || stand_apart left piece.1) && follow piece.1 pieces

-- so they can be read again; before the first word there may be no gap
abbrev pub are_legible : List (List ℕ × Word) → Bool
are_legible [] = true
are_legible (piece ∷ pieces) = list_all is_white_space piece.0 && is_word piece.1 && follow piece.1 pieces
