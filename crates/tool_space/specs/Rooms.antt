-- Which units of a space are free, what a room is, and what a take and a give make of a space.
use Rattle.std.specs.Prelude.{◌≡◌, ℕ, ◌+◌, ◌-◌, ◌<◌, ◌≤◌, ◌==◌, Bool, true, false, ◌&&◌, not, List, ◌++◌, filter, max, nat_le, nat_lt}
use Rattle.std.specs.List.{list_any, range_with_len}

-- A space has the units with the numbers `from`, from + 1 and so on below `end`. `free` are those that are free, in order.
-- `takes` is how many takes need no memory, and `gives` how many gives of what was taken.
pub record Rooms : Type 0 where
  pub from : ℕ
  pub end : ℕ
  pub free : List ℕ
  pub takes : ℕ
  pub gives : ℕ

-- A unit is one of the `len` units from `at` on.
abbrev pub is_within : ℕ → ℕ → ℕ → Bool
is_within at len unit = nat_le at unit && nat_lt unit (at + len)

-- The unit is one of a list.
abbrev pub is_one_of : List ℕ → ℕ → Bool
is_one_of units unit = list_any (λ other. other == unit) units

-- The unit is free.
abbrev pub is_free : Rooms → ℕ → Bool
is_free space unit = is_one_of space.free unit

-- A room of a length: each of the units from `at` on is free.
abbrev pub IsRoom : Rooms → ℕ → ℕ → Type 0
IsRoom space at len = (unit : ℕ) → at ≤ unit → unit < at + len → is_free space unit ≡ true

-- The lowest room of a length.
pub record IsLowestRoom (space : Rooms) (at len : ℕ) : Type 0 where
  pub free : IsRoom space at len
  pub lowest : (lower : ℕ) → lower < at → IsRoom space lower len → ⊥

-- Units of the space none of which is free.
pub record IsTaken (space : Rooms) (at len : ℕ) : Type 0 where
  pub low : space.from ≤ at
  pub high : at + len ≤ space.end
  pub taken : (unit : ℕ) → at ≤ unit → unit < at + len → is_free space unit ≡ false

-- All units are free, and no take is reserved.
abbrev pub new_space : ℕ → ℕ → Rooms
new_space from units =
    record { from = from; end = from + units; free = range_with_len from units; takes = 0; gives = 0 }

-- At least this many takes are reserved.
abbrev pub after_reserve : Rooms → ℕ → Rooms
after_reserve space count = record space { takes = max space.takes count }

-- The units from `at` on are free no more, and a reserved take has become the give that it owes.
abbrev pub after_take : Rooms → ℕ → ℕ → Rooms
after_take space at len = record space {
  free = filter (λ unit. not (is_within at len unit)) space.free;
  takes = space.takes - 1;
  gives = space.gives + 1;
}

-- The units from `at` on are free again: the free units below, those units, and the free units above.
abbrev pub after_give : Rooms → ℕ → ℕ → Rooms
after_give space at len = record space {
  free = filter (λ unit. nat_lt unit at) space.free
      ++ (range_with_len at len ++ filter (λ unit. nat_lt at unit) space.free);
  gives = space.gives - 1;
}
