-- The bytes of a configuration.
use Rattle.std.specs.Prelude.{ℕ, ◌==◌, ◌&&◌, ◌||◌, nat_le, not, Bool, List, take, length, bytes_eq}
use Rattle.pn_text.specs.Numbers.{is_digit}

-- a space, a tab, a CR or an LF
abbrev pub is_white_space : ℕ → Bool
is_white_space byte = (byte == 32) || (byte == 9) || (byte == 13) || (byte == 10)

-- `A` to `Z` and `a` to `z`
abbrev pub is_letter : ℕ → Bool
is_letter byte = (nat_le 65 byte && nat_le byte 90) || (nat_le 97 byte && nat_le byte 122)

-- a name begins with a letter or `_`
abbrev pub begins_name : ℕ → Bool
begins_name byte = is_letter byte || (byte == 95)

-- and goes on with letters, digits, `_` and `.`
abbrev pub is_name_byte : ℕ → Bool
is_name_byte byte = begins_name byte || is_digit byte || (byte == 46)

-- between the quotes of a string stands all but a quote and an LF
abbrev pub is_string_byte : ℕ → Bool
is_string_byte byte = not ((byte == 34) || (byte == 10))

-- a focus goes on up to white space, `;` or `{`
abbrev pub is_focus_byte : ℕ → Bool
is_focus_byte byte = not (is_white_space byte || (byte == 59) || (byte == 123))

-- the text begins with the word
abbrev pub begins_with : List ℕ → List ℕ → Bool
begins_with word text = bytes_eq (take (length word) text) word
