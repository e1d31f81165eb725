-- The bytes of a line, and the words that they make.
use Rattle.std.specs.Prelude.{ℕ, ◌==◌, ◌&&◌, ◌||◌, nat_le, not, Bool, false, List, [], ◌∷◌, take, drop}
use Rattle.std.specs.List.{prefix_len}
use Rattle.pn_text.specs.Numbers.{is_digit}

-- a space or a tab
abbrev pub is_blank : ℕ → Bool
is_blank byte = (byte == 32) || (byte == 9)

-- a letter, a digit, `_` or `.`
abbrev pub is_name_byte : ℕ → Bool
is_name_byte byte =
    (nat_le 97 byte && nat_le byte 122) || (nat_le 65 byte && nat_le byte 90) || is_digit byte || (byte == 95) || (byte == 46)

-- what stands after the blanks
unfoldable pub skip_blanks : List ℕ → List ℕ
skip_blanks text = drop (prefix_len is_blank text) text

-- the bytes of names that stand first, and what stands after them
unfoldable pub word_of : List ℕ → List ℕ
word_of text = take (prefix_len is_name_byte text) text

unfoldable pub after_name : List ℕ → List ℕ
after_name text = drop (prefix_len is_name_byte text) text

-- a word that is a name: it doesn't begin with a digit
abbrev pub is_name : List ℕ → Bool
is_name [] = false
is_name (byte ∷ bytes) = not (is_digit byte)
