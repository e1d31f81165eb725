-- The hypotheses among the items of a configuration.
use Rattle.std.specs.Prelude.{ℕ, ◌&&◌, not, Bool, false, Option, Some, None, List}
use Rattle.std.specs.List.{list_any}
use Rattle.std.specs.Str.{bytes_eq}
use Rattle.mdl_ast.specs.declared.items.Item.{Item}
use Rattle.mdl_ast.specs.declared.items.Item.TheVariants.{Hypothesis}

-- a hypothesis of this name
abbrev pub is_named : List ℕ → Item → Bool
is_named name (Hypothesis h) = bytes_eq name h.name
is_named name item = false

-- a hypothesis of this name stands among the items
abbrev pub has_hypothesis : List ℕ → List Item → Bool
has_hypothesis name items = list_any (is_named name) items

-- a hypothesis of this name that is refined along this axis
abbrev pub is_along : List ℕ → List ℕ → Item → Bool
is_along name axis (Hypothesis h) = bytes_eq name h.name && list_any (bytes_eq axis) h.axes
is_along name axis item = false

-- the hypothesis of this name is refined along this axis
abbrev pub has_axis : List ℕ → List ℕ → List Item → Bool
has_axis name axis items = list_any (is_along name axis) items

-- there is a parent, and it doesn't stand among the items
abbrev pub lacks : List Item → Option (List ℕ) → Bool
lacks items None = false
lacks items (Some parent) = not (has_hypothesis parent items)

-- a hypothesis whose parent doesn't stand among the items
abbrev pub is_orphan : List Item → Item → Bool
is_orphan items (Hypothesis h) = lacks items h.parent
is_orphan items item = false
