-- The signs and the words with `$`.
use Rattle.std.specs.Prelude.{ℕ, if◌then◌else◌, Option, Some, None, List, [], ◌∷◌, ◌++◌, map, codes}
use Rattle.pn_text.specs.Bytes.{begins_with}
use Rattle.pn_text.specs.declared.token.Sign.{Sign}
use Rattle.pn_text.specs.declared.token.Sign.TheVariants.{OpenBrace, CloseBrace, OpenBracket, CloseBracket, OpenParen, CloseParen, OpenCode, CloseCode, Semicolon, Comma, PlusPlus, MinusMinus, Assign, Equal, NotEqual, Less, LessEqual, Greater, GreaterEqual}
use Rattle.pn_text.specs.declared.token.TokenKind.{TokenKind}
use Rattle.pn_text.specs.declared.token.TokenKind.TheVariants as kind

-- how a sign is written
abbrev pub sign_text : Sign → List ℕ
sign_text OpenBrace = codes "{"
sign_text CloseBrace = codes "}"
sign_text OpenBracket = codes "["
sign_text CloseBracket = codes "]"
sign_text OpenParen = codes "("
sign_text CloseParen = codes ")"
sign_text OpenCode = codes "(*"
sign_text CloseCode = codes "*)"
sign_text Semicolon = codes ";"
sign_text Comma = codes ","
sign_text PlusPlus = codes "++"
sign_text MinusMinus = codes "--"
sign_text Assign = codes "="
sign_text Equal = codes "=="
sign_text NotEqual = codes "!="
sign_text Less = codes "<"
sign_text LessEqual = codes "<="
sign_text Greater = codes ">"
sign_text GreaterEqual = codes ">="

-- the signs of two bytes, and those of one
abbrev pub double_signs : List Sign
double_signs = OpenCode ∷ CloseCode ∷ PlusPlus ∷ MinusMinus ∷ Equal ∷ NotEqual ∷ LessEqual ∷ GreaterEqual ∷ []

abbrev pub single_signs : List Sign
single_signs =
    OpenBrace ∷ CloseBrace ∷ OpenBracket ∷ CloseBracket ∷ OpenParen ∷ CloseParen ∷ Semicolon ∷ Comma ∷ Assign ∷ Less
    ∷ Greater ∷ []

-- signs with their texts
abbrev pub with_texts : List Sign → List (List ℕ × Sign)
with_texts signs = map (λ sign. (sign_text sign, sign)) signs

-- the signs, the longest first
abbrev pub signs : List (List ℕ × Sign)
signs = with_texts (double_signs ++ single_signs)

-- the words with `$`
abbrev pub dollar_words : List (List ℕ × TokenKind)
dollar_words =
    (codes "$focus", kind.FocusWord) ∷ (codes "$all", kind.AllWord) ∷ (codes "$metric", kind.MetricWord)
    ∷ (codes "$value", kind.ValueWord) ∷ (codes "$arg", kind.ArgWord) ∷ []

-- the first row whose text stands first
abbrev pub first_row : {A : Type 0} → List (List ℕ × A) → List ℕ → Option (List ℕ × A)
first_row [] text = None
first_row (row ∷ rows) text = if begins_with row.0 text then Some row else first_row rows text
