-- The text of points: a line for each, with its address, its procedure and its kinds.
use Rattle.std.specs.Prelude.{ℕ, Bool, if◌then◌else◌, Option, Some, None, List, [], ◌∷◌, ◌++◌, length, codes, slice_get}
use Rattle.std.specs.Fmt.{decimal}
use Rattle.pn_types.specs.Texts.{address}
use Rattle.pn_types.specs.declared.code.Point.{Point}
use Rattle.pn_types.specs.declared.code.Proc.{Proc}

-- how many points there are, and how many function symbols are no procedures
abbrev pub points_head : List Point → ℕ → List ℕ
points_head points skipped = codes "points " ++ decimal (length points) ++ codes " skipped " ++ decimal skipped ++ codes "\n"

-- a procedure's module and name; nothing where there is no procedure
abbrev pub proc_path : Option Proc → List ℕ
proc_path None = []
proc_path (Some proc) = proc.module ++ codes "/" ++ proc.name

-- a text, where it is wanted
abbrev pub text_if : Bool → List ℕ → List ℕ
text_if wanted text = if wanted then text else []

-- the words of the kinds that hold, each after a space
abbrev pub kind_words : Point → List ℕ
kind_words point =
    text_if point.entry (codes " entry") ++ text_if point.after (codes " after") ++ text_if point.ret (codes " return")
    ++ text_if point.call (codes " call")

-- the line of a point
abbrev pub point_line : List Proc → Point → List ℕ
point_line procs point = address point.at ++ codes " " ++ proc_path (slice_get procs point.proc_no) ++ kind_words point ++ codes "\n"

-- the lines of points, in their order
abbrev pub point_lines : List Proc → List Point → List ℕ
point_lines procs [] = []
point_lines procs (point ∷ points) = point_line procs point ++ point_lines procs points

-- The text of points.
abbrev pub points_text : List Proc → List Point → ℕ → List ℕ
points_text procs points skipped = points_head points skipped ++ point_lines procs points
