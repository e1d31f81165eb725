-- Which object symbols of an image are objects of the program.
use Rattle.std.specs.Prelude.{ℕ, ◌+◌, ◌==◌, ◌&&◌, ◌||◌, not, nat_le, if◌then◌else◌, Bool, List}
use Rattle.std.specs.List.{filter, list_any}
use Rattle.pn_types.specs.declared.image.Image.{Image}
use Rattle.pn_types.specs.declared.image.Segment.{Segment}
use Rattle.pn_types.specs.declared.image.Symbol.{Symbol}
use Rattle.code_points.specs.Procedures.{is_func}

-- where the range of a symbol ends; one without a size is its one address
abbrev pub end_of : Symbol → ℕ
end_of s = s.at + (if s.size == 0 then 1 else s.size)

-- the range lies in the segment
abbrev pub holds_range : ℕ → ℕ → Segment → Bool
holds_range first last g = nat_le g.at first && nat_le last (g.at + g.size)

-- no byte of the range is one of the text
abbrev pub is_outside : Image → ℕ → ℕ → Bool
is_outside image first last = nat_le last image.text_at || nat_le (image.text_at + image.text_len) first

-- an object, which lies in one segment and outside the text
abbrev pub is_data : Image → Symbol → Bool
is_data image s = not (is_func s.kind) && list_any (holds_range s.at (end_of s)) image.segments && is_outside image s.at (end_of s)

-- the objects of a program
abbrev pub objects_of : Image → List Symbol
objects_of image = filter (is_data image) image.symbols
