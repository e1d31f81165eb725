-- The parts of a statement. Blanks may stand before each; what stands after one comes with it.
use Rattle.std.specs.Prelude.{ℕ, ◌+◌, ◌==◌, ◌||◌, Bool, true, false, if◌then◌else◌, Option, Some, None, List, [], ◌∷◌, take, drop, length}
use Rattle.std.specs.Option.{option_and_then, option_map}
use Rattle.rv_asm.specs.Bytes.{skip_blanks, word_of, after_name, is_name}
use Rattle.rv_asm.specs.Registers.{register_of}
use Rattle.rv_asm.specs.Numbers.{size_of}
use Rattle.rv_asm.specs.declared.number.Number.{Number}

infixl 10 ◌>>=◌
abbrev pub ◌>>=◌ : {A B : Type 0} → Option A → (A → Option B) → Option B
o >>= f = option_and_then f o

-- nothing but blanks is left
unfoldable pub ends : List ℕ → Bool
ends text = length (skip_blanks text) == 0

abbrev pub after_sign : ℕ → List ℕ → Option (List ℕ)
after_sign sign [] = None
after_sign sign (byte ∷ bytes) = if byte == sign then Some bytes else None

-- a sign
unfoldable pub sign_at : ℕ → List ℕ → Option (List ℕ)
sign_at sign text = after_sign sign (skip_blanks text)

-- a register by either name
unfoldable pub register_at : List ℕ → Option (ℕ × List ℕ)
register_at text = do
  number ← register_of (word_of (skip_blanks text))
  Some (number, after_name (skip_blanks text))

-- a name
unfoldable pub name_at : List ℕ → Option (List ℕ × List ℕ)
name_at text = if is_name (word_of (skip_blanks text)) then Some (word_of (skip_blanks text), after_name (skip_blanks text)) else None

-- the size of a number, directly after its sign
abbrev pub sized_at : Bool → List ℕ → Option (Number × List ℕ)
sized_at negative text = do
  size ← size_of (word_of text)
  Some (record { negative = negative; size = size }, after_name text)

abbrev pub signed_at : List ℕ → Option (Number × List ℕ)
signed_at [] = None
signed_at (byte ∷ bytes) = if byte == 45 then sized_at true bytes else sized_at false (byte ∷ bytes)

-- a number
unfoldable pub number_at : List ℕ → Option (Number × List ℕ)
number_at text = signed_at (skip_blanks text)

-- `(register)`
unfoldable pub pointer_at : List ℕ → Option (ℕ × List ℕ)
pointer_at text = do
  opened ← sign_at 40 text
  base ← register_at opened
  closed ← sign_at 41 base.1
  Some (base.0, closed)

-- an escape's letter: `n`, `\`, `"` or `0`
abbrev pub is_escape : ℕ → Bool
is_escape byte = (byte == 110) || (byte == 92) || (byte == 34) || (byte == 48)

-- how many bytes stand before the quote that closes a string, the next byte being an escape's letter or not
abbrev pub string_len : Bool → List ℕ → Option ℕ
string_len escaped [] = None
string_len true (byte ∷ bytes) = if is_escape byte then option_map (λ n. n + 1) (string_len false bytes) else None
string_len false (byte ∷ bytes) = if byte == 34 then Some 0 else option_map (λ n. n + 1) (string_len (byte == 92) bytes)

-- a string, as it is written between its quotes
unfoldable pub string_at : List ℕ → Option (List ℕ × List ℕ)
string_at text = do
  opened ← sign_at 34 text
  len ← string_len false opened
  Some (take len opened, drop (len + 1) opened)
