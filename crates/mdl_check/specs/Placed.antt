-- The items in their order, those of an include in its place.
use Rattle.std.specs.Prelude.{ℕ, not, Bool, true, false, if◌then◌else◌, Option, List, [], ◌∷◌, map, filter, flat_map}
use Rattle.mdl_ast.specs.declared.items.Item.{Item}
use Rattle.mdl_ast.specs.declared.items.Item.TheVariants.{Include, Sync, Metric, Constraint, Hypothesis, Search, Phase, Wish}
use Rattle.pn_types.specs.declared.focus.Focus.{Focus}

-- an item and its line
pub record PlacedItem : Type 0 where
  pub line : ℕ
  pub item : Item

abbrev pub placed_item : ℕ → Item → PlacedItem
placed_item line item = record { line = line; item = item }

-- an item and its line, with the focus that it selects if it is a wish
pub record Entry : Type 0 where
  pub line : ℕ
  pub item : Item
  pub focus : Option Focus

abbrev pub entry : ℕ → Item → Option Focus → Entry
entry line item focus = record { line = line; item = item; focus = focus }

-- the line of an item's first token
abbrev pub line_of : Item → ℕ
line_of (Include i) = i.line
line_of (Sync s) = s.line
line_of (Metric m) = m.line
line_of (Constraint c) = c.line
line_of (Hypothesis h) = h.line
line_of (Search s) = s.line
line_of (Phase p) = p.line
line_of (Wish w) = w.line

abbrev pub is_hypothesis : Item → Bool
is_hypothesis (Hypothesis h) = true
is_hypothesis item = false

-- the shipped items that an include takes: the hypotheses, or all others
abbrev pub is_taken : Bool → Item → Bool
is_taken metrics item = if metrics then not (is_hypothesis item) else is_hypothesis item

-- the items that an item includes, at its line
abbrev pub included : List Item → Item → List PlacedItem
included shipped (Include i) = map (placed_item i.line) (filter (is_taken i.metrics) shipped)
included shipped item = []

-- an item, and after it those that it includes
abbrev pub with_included : List Item → Item → List PlacedItem
with_included shipped item = placed_item (line_of item) item ∷ included shipped item

-- all items in their order
abbrev pub placed_items : List Item → List Item → List PlacedItem
placed_items shipped items = flat_map (with_included shipped) items
