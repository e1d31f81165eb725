-- The words of a text: what its tokens say, wherever they stand.
use Rattle.std.specs.Prelude.{◌≡◌, ℕ, ◌-◌, ◌==◌, ◌&&◌, nat_le, Bool, true, false, List, [], ◌∷◌, map, take, drop, length}
use Rattle.std.specs.List.{list_all}
use Rattle.pn_text.specs.Bytes.{is_letter, begins_name, is_name_byte, is_string_byte, is_focus_byte}
use Rattle.pn_text.specs.Scans.{Scan, AtEnd, tokens_of}
use Rattle.pn_text.specs.declared.place.Place.{Place}
use Rattle.pn_text.specs.declared.token.Sign.{Sign}
use Rattle.pn_text.specs.declared.token.TokenKind.{TokenKind}
use Rattle.pn_text.specs.declared.token.TokenKind.TheVariants as kind
use Rattle.pn_text.specs.declared.token.Token.{Token}

-- a word: a name, a number, a string without its quotes, a focus, a word with `$`, or a sign
pub data Word : Type 0 where
  NameWord : List ℕ → Word
  NumberWord : ℕ → Word
  QuotedWord : List ℕ → Word
  FocusPath : List ℕ → Word
  DollarFocus : Word
  DollarAll : Word
  DollarMetric : Word
  DollarValue : Word
  DollarArg : Word
  SignWord : Sign → Word

-- the bytes of a token
abbrev pub text_of : List ℕ → Token → List ℕ
text_of source token = take (token.to - token.from) (drop token.from source)

-- what stands between the first byte and the last
abbrev pub without_quotes : List ℕ → List ℕ
without_quotes text = take (length text - 2) (drop 1 text)

-- the word that a token of this kind and text is
abbrev pub word_as : TokenKind → List ℕ → Word
word_as kind.Name text = NameWord text
word_as (kind.Number n) text = NumberWord n
word_as kind.Quoted text = QuotedWord (without_quotes text)
word_as kind.Focus text = FocusPath text
word_as kind.FocusWord text = DollarFocus
word_as kind.AllWord text = DollarAll
word_as kind.MetricWord text = DollarMetric
word_as kind.ValueWord text = DollarValue
word_as kind.ArgWord text = DollarArg
word_as (kind.Sign sign) text = SignWord sign

-- the word that a token of the source is
abbrev pub word_of : List ℕ → Token → Word
word_of source token = word_as token.kind (text_of source token)

-- The words of a text, up to its end or its fault.
abbrev pub words_of : List ℕ → List Word
words_of text = map (word_of text) (tokens_of text).tokens

-- the tokens of the source are these words, and then it ends at this place, without a fault
pub record Reads (source : List ℕ) (scan : Scan) (all : List Word) (last : Place) : Type 0 where
  pub words : map (word_of source) scan.tokens ≡ all
  pub end : scan.ending ≡ AtEnd last

-- ---- the words that there are

-- a letter or `_`, and then letters, digits, `_` and `.`
abbrev pub is_name : List ℕ → Bool
is_name [] = false
is_name (byte ∷ bytes) = begins_name byte && list_all is_name_byte bytes

-- a letter, and no white space, `;` or `{`
abbrev pub is_part : List ℕ → Bool
is_part [] = false
is_part (byte ∷ bytes) = is_letter byte && list_all is_focus_byte bytes

-- a `/`, and such a part
abbrev pub is_focus : List ℕ → Bool
is_focus [] = false
is_focus (byte ∷ bytes) = (byte == 47) && is_part bytes

-- a word that some text has
abbrev pub is_word : Word → Bool
is_word (NameWord name) = is_name name
is_word (NumberWord n) = nat_le n 2147483647
is_word (QuotedWord text) = list_all is_string_byte text
is_word (FocusPath path) = is_focus path
is_word DollarFocus = true
is_word DollarAll = true
is_word DollarMetric = true
is_word DollarValue = true
is_word DollarArg = true
is_word (SignWord sign) = true
