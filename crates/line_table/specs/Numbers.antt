-- The numbers of a line table (DWARF 5, sections 7.4 and 7.6). All are little-endian.
use Rattle.std.specs.Prelude.{ℕ, zero, suc, ◌+◌, ◌-◌, ◌*◌, ◌^◌, ◌%◌, ◌||◌, nat_lt, nat_le, if◌then◌else◌, List, length, Ok, Err}
use Rattle.elf_form.specs.Fields.{field}
use Rattle.line_table.specs.Reading.{Read, fault, ◌>>=◌}
use Rattle.line_table.specs.declared.fault.FaultKind.TheVariants.{Truncated, BadNumber}
use Rattle.line_table.specs.declared.numbers.Bits.{Bits}

-- the number in n bytes from a place on
unfoldable pub number : ℕ → List ℕ → ℕ → Read ℕ
number n b at = if nat_lt (length b) (at + n) then Err (fault at Truncated) else Ok (field n b at, at + n)

-- ---- LEB128

-- The bits of a number in groups of seven, the lowest first, of which there are at most n. A byte below 128 is the
-- last. With k groups the scale is 128 ^ k.
unfoldable pub groups : ℕ → List ℕ → ℕ → Read Bits
groups zero b at = Err (fault at BadNumber)
groups (suc n) b at = do
  byte ← number 1 b at
  if nat_lt byte.0 128
      then Ok (record { value = byte.0; scale = 128 }, byte.1)
      else (groups n b byte.1 >>= λ high.
      Ok (record { value = byte.0 % 128 + 128 * high.0.value; scale = 128 * high.0.scale }, high.1))

-- ULEB128: an unsigned number below 2 ^ 64, in at most ten groups
unfoldable pub uleb : List ℕ → ℕ → Read ℕ
uleb b at = do
  g ← groups 10 b at
  if nat_lt g.0.value (2 ^ 64) then Ok (g.0.value, g.1) else Err (fault at BadNumber)

-- a number whose highest bit below the scale is its sign, as two's complement of 70 bits
abbrev pub signed : Bits → ℕ
signed g = if nat_lt (2 * g.value) g.scale then g.value else g.value + (2 ^ 70 - g.scale)

-- SLEB128: a signed number from - 2 ^ 63 to before 2 ^ 63, in at most ten groups, as two's complement of 64 bits
unfoldable pub sleb : List ℕ → ℕ → Read ℕ
sleb b at = do
  g ← groups 10 b at
  if nat_lt (signed g.0) (2 ^ 63) || nat_le (2 ^ 70 - 2 ^ 63) (signed g.0)
      then Ok (signed g.0 % 2 ^ 64, g.1)
      else Err (fault at BadNumber)
