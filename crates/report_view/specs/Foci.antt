-- A focus as a person reads it: without the hierarchies of which it selects all.
use Rattle.std.specs.Prelude.{ℕ, ◌==◌, if◌then◌else◌, Bool, List, codes, drop, filter}
use Rattle.std.specs.List.{join_with_byte, list_any, slice_split}
use Rattle.pn_text.specs.Lines.{is_none}

-- a part that is more than its root: a slash stands behind the first
abbrev pub is_below_root : List ℕ → Bool
is_below_root part = list_any (λ byte. byte == 47) (drop 1 part)

abbrev pub parts_below_root : List ℕ → List (List ℕ)
parts_below_root focus = filter is_below_root (slice_split (λ byte. byte == 44) focus)

-- the parts that are joined again, or that it is all
abbrev pub short_or_all : List ℕ → List ℕ
short_or_all text = if is_none text then codes "the whole program" else text

unfoldable pub short_focus : List ℕ → List ℕ
short_focus focus = short_or_all (join_with_byte 44 (parts_below_root focus))
