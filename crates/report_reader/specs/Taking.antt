-- For proofs alone: what a call says of a line, and what holds of a draft before it.
use Rattle.std.specs.Prelude.{ℕ, ◌≡◌, ◌+◌, ◌≤◌, Bool, true, false, Option, Some, None, length}
use Rattle.report_reader.specs.declared.draft.Draft.{Draft}
use Rattle.report_reader.specs.declared.due.Due.{Due}
use Rattle.report_reader.specs.declared.due.Due.TheVariants.{Title, Numbers, Harts}

-- the line was right, and this is the next draft; or it wasn't
abbrev pub IsLineTaken : Bool → Draft → Option Draft → Type 0
IsLineTaken true new next = next ≡ Some new
IsLineTaken false new next = next ≡ None

-- how many harts there may still be
abbrev pub harts_left : Due → ℕ
harts_left Title = 32
harts_left Numbers = 32
harts_left (Harts n) = n
harts_left due = 0

-- 32 harts at most, with those that are still due
abbrev pub HasFewHarts : Draft → Type 0
HasFewHarts d = length d.harts + harts_left d.due ≤ 32
