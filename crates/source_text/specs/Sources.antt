-- Which source line an address comes from.
use Rattle.std.specs.Prelude.{ℕ, ◌+◌, ◌*◌, ◌==◌, ◌||◌, nat_le, if◌then◌else◌, Option, Some, None, List, option_and_then}
use Rattle.std.specs.List.{filter, last_or}
use Rattle.line_table.specs.declared.registers.Row.{Row}
use Rattle.source_text.specs.Ordered.{ordered_by}
use Rattle.source_text.specs.declared.source.Source.{Source}

-- a row's place: by its address, and at one address those that end a sequence come first
abbrev pub place_of : Row → ℕ
place_of row = 2 * row.address + (if row.is_end then 0 else 1)

-- rows by ascending place, ties in their order
abbrev pub by_place : List Row → List Row
by_place rows = ordered_by place_of rows

-- the last of the rows whose address is a or below
abbrev pub row_until : List Row → ℕ → Option Row
row_until rows a = last_or None (filter (λ row. nat_le row.address a) rows)

-- a row that ends a sequence, or whose line is 0, speaks of no source
abbrev pub source_of : Row → Option Source
source_of row =
    if row.is_end || (row.line == 0) then None else Some (record { unit = row.unit; file = row.file; line = row.line })

-- The source of an address by rows by place.
abbrev pub source_at : List Row → ℕ → Option Source
source_at rows a = option_and_then source_of (row_until rows a)
