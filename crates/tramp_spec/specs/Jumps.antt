-- Numbers and jumps in words.
use Rattle.std.specs.Prelude.{ℕ, ◌+◌, ◌-◌, ◌*◌, ◌/◌, ◌%◌, ◌^◌, ◌==◌, ◌&&◌, nat_le, Bool, List, [], ◌∷◌}
use Rattle.rv_word.specs.Values.{low_word}
use Rattle.rv_word.specs.Words.{word_of}
use Rattle.rv_word.specs.declared.instr.Instr.{Instr}
use Rattle.rv_word.specs.declared.instr.Instr.TheVariants.{Lui, Addiw, Jal}

-- the number of 64 bits that leads from one address to another
abbrev pub distance : ℕ → ℕ → ℕ
distance from to = (to + 2 ^ 64 - from) % 2 ^ 64

-- a jump at `from` has its target in reach: from 1,048,576 bytes below to 1,048,574 above
abbrev pub reaches : ℕ → ℕ → Bool
reaches from to = nat_le from (to + 1048576) && nat_le to (from + 1048574)

-- the word `jal x0` from one address to another
abbrev pub jump_word : ℕ → ℕ → ℕ
jump_word from to = word_of (Jal 0 (distance from to))

-- the multiple of 4,096 next to a number, and what it lacks to it, from -2,048 to 2,047
abbrev pub rounded : ℕ → ℕ
rounded n = (n + 2048) / 4096 * 4096

abbrev pub upper : ℕ → ℕ
upper n = low_word (rounded n)

abbrev pub lower : ℕ → ℕ
lower n = (n + 2 ^ 64 - rounded n) % 2 ^ 64

-- a number of 32 bits with its sign, as 64 bits
abbrev pub is_signed_word : ℕ → Bool
is_signed_word n = low_word n == n

-- lui and addiw, which put such a number into register r
abbrev pub put_number : ℕ → ℕ → List Instr
put_number r n = Lui r (upper n) ∷ Addiw r r (lower n) ∷ []
