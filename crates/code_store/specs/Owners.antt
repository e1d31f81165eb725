-- Whose the words of the tool text are.
use Rattle.std.specs.Prelude.{ℕ, zero, suc, ◌+◌}
use Rattle.std.specs.FinMap.{FinMap, insert, remove}
use Rattle.std.specs.Ordering.{nat_cmp}

-- the point of the block to which the word at an address belongs
abbrev pub Owners : Type 0
Owners = FinMap nat_cmp ℕ

-- this many words from an address on belong to a block of a point
abbrev pub owners_with : ℕ → ℕ → ℕ → Owners → Owners
owners_with at zero point owners = owners
owners_with at (suc n) point owners = owners_with (at + 4) n point (insert owners at point)

-- this many words from an address on belong to no block
abbrev pub owners_without : ℕ → ℕ → Owners → Owners
owners_without at zero owners = owners
owners_without at (suc n) owners = owners_without (at + 4) n (remove owners at)
