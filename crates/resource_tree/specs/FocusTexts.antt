-- The texts that foci have.
use Rattle.std.specs.Prelude.{ℕ, suc, ◌≡◌, ◌<◌, ◌≤◌, ◌&&◌, ◌==◌, nat_le, Bool, true, false, List, [], ◌∷◌, ◌++◌, length, take, codes}
use Rattle.std.specs.List.{list_all}
use Rattle.pn_types.specs.GoodNames.{is_good_name}
use Rattle.pn_types.specs.declared.focus.Axis.{Axis}
use Rattle.pn_types.specs.declared.focus.Axis.TheVariants.{Code, Machine, SyncObject}
use Rattle.resource_tree.specs.declared.hierarchy.Axes.{Axes}

-- a part of a focus text: a hierarchy, and the names below it
pub record Part : Type 0 where
  pub axis : Axis
  pub names : List (List ℕ)

-- how a hierarchy is written
abbrev pub axis_name : Axis → List ℕ
axis_name Code = codes "/Code"
axis_name Machine = codes "/Machine"
axis_name SyncObject = codes "/SyncObject"

-- how many names can stand below a hierarchy: a module and a procedure, a hart, an object
abbrev pub depth : Axis → ℕ
depth Code = 2
depth Machine = 1
depth SyncObject = 1

-- good names, no more than the hierarchy is deep
abbrev pub is_part : Part → Bool
is_part p = nat_le (length p.names) (depth p.axis) && list_all is_good_name p.names

-- a hierarchy is one of these
abbrev pub has : Axes → Axis → Bool
has axes Code = axes.code
has axes Machine = axes.machine
has axes SyncObject = axes.sync_object

-- these hierarchies but one
abbrev pub without : Axes → Axis → Axes
without axes Code = record { code = false; machine = axes.machine; sync_object = axes.sync_object }
without axes Machine = record { code = axes.code; machine = false; sync_object = axes.sync_object }
without axes SyncObject = record { code = axes.code; machine = axes.machine; sync_object = false }

-- all three hierarchies
abbrev pub every_axis : Axes
every_axis = record { code = true; machine = true; sync_object = true }

-- parts of these hierarchies, each hierarchy at most once
abbrev pub are_parts_of : Axes → List Part → Bool
are_parts_of axes [] = true
are_parts_of axes (p ∷ ps) = has axes p.axis && is_part p && are_parts_of (without axes p.axis) ps

-- one to three parts, each hierarchy at most once, in any order
abbrev pub AreParts : List Part → Type 0
AreParts parts = (0 < length parts) × (are_parts_of every_axis parts ≡ true)

-- names, each after a `/`
abbrev pub below_text : List (List ℕ) → List ℕ
below_text [] = []
below_text (name ∷ names) = codes "/" ++ (name ++ below_text names)

-- a part: the hierarchy, and the names below it, each after a `/`
abbrev pub part_text : Part → List ℕ
part_text p = axis_name p.axis ++ below_text p.names

-- a comma
abbrev pub is_comma : ℕ → Bool
is_comma b = b == 0x2c

-- parts after others, each after a comma
abbrev pub more_text : List Part → List ℕ
more_text [] = []
more_text (p ∷ ps) = codes "," ++ (part_text p ++ more_text ps)

-- parts, joined by commas
abbrev pub parts_text : List Part → List ℕ
parts_text [] = []
parts_text (p ∷ ps) = part_text p ++ more_text ps

-- a text that a focus can have
pub record IsFocusText (text : List ℕ) : Type 0 where
  pub parts : List Part
  pub are_parts : AreParts parts
  pub spelled : text ≡ parts_text parts

-- a focus text has one spelling
abbrev pub OneSpelling : Type 0
OneSpelling = (ps qs : List Part) → AreParts ps → AreParts qs → parts_text ps ≡ parts_text qs → ps ≡ qs

-- some focus text begins so
abbrev pub GoesOn : List ℕ → Type 0
GoesOn text = (rest : List ℕ) × IsFocusText (text ++ rest)

-- the first byte at which no focus text goes on, or the text's length where it ends too early
pub record IsFaultAt (text : List ℕ) (place : ℕ) : Type 0 where
  pub within : place ≤ length text
  pub before : GoesOn (take place text)
  pub here : place < length text → GoesOn (take (suc place) text) → ⊥
  pub early : IsFocusText text → ⊥
