-- The first faulty item, and what a faultless configuration is.
use Rattle.std.specs.Prelude.{ℕ, ◌≡◌, ◌++◌, Option, Some, None, Result, Ok, Err, List, [], ◌∷◌, map, flat_map}
use Rattle.pn_types.specs.declared.focus.Focus.{Focus}
use Rattle.mdl_ast.specs.declared.items.Item.{Item}
use Rattle.mdl_ast.specs.declared.items.Item.TheVariants.{Sync, Metric, Constraint, Hypothesis, Search, Phase, Wish}
use Rattle.mdl_ast.specs.declared.metric.Metric.{Metric as TheMetric}
use Rattle.mdl_ast.specs.declared.metric.Constraint.{Constraint as TheConstraint}
use Rattle.mdl_ast.specs.declared.items.Hypothesis.{Hypothesis as TheHypothesis}
use Rattle.mdl_ast.specs.declared.items.SearchDecl.{SearchDecl}
use Rattle.mdl_ast.specs.declared.items.PhaseDecl.{PhaseDecl}
use Rattle.mdl_ast.specs.declared.items.Wish.{Wish as TheWish}
use Rattle.resource_tree.specs.Resources.{Resources}
use Rattle.resource_tree.specs.Foci.{Selects}
use Rattle.mdl_check.specs.Placed.{PlacedItem, Entry, placed_item, placed_items}
use Rattle.mdl_check.specs.Names.{metric_number}
use Rattle.mdl_check.specs.Rules.{fault_of}
use Rattle.mdl_check.specs.declared.fault.CheckFault.{CheckFault}
use Rattle.mdl_check.specs.declared.fault.CheckError.{CheckError}
use Rattle.mdl_check.specs.declared.fault.CheckError.TheVariants as error
use Rattle.mdl_check.specs.declared.checked.Checked.{Checked}
use Rattle.mdl_check.specs.declared.checked.CheckedWish.{CheckedWish}

-- ---- the items with their foci

-- a wish has the focus that its text selects, and nothing else has one
abbrev pub HasFocus : Resources → Item → Option Focus → Type 0
HasFocus t (Wish w) focus = Selects t w.focus focus
HasFocus t item focus = focus ≡ None

abbrev pub placed_of : Entry → PlacedItem
placed_of e = placed_item e.line e.item

abbrev pub HaveFoci : Resources → List Entry → Type 0
HaveFoci t [] = Unit {0}
HaveFoci t (e ∷ es) = HasFocus t e.item e.focus × HaveFoci t es

-- the items at these places, with their foci
pub record AreEntries (t : Resources) (places : List PlacedItem) (es : List Entry) : Type 0 where
  pub places_are : map placed_of es ≡ places
  pub foci : HaveFoci t es

-- ---- the first fault

-- the line of the first faulty item of a list and what is wrong with it, given all items and those before the list
abbrev pub fault_from : List Entry → List Entry → List Entry → Option CheckFault
fault_from all before [] = None
fault_from all before (e ∷ es) = elim (fault_of all before e) [
  | None ↦ fault_from all (before ++ (e ∷ [])) es
  | Some kind ↦ Some (record { line = e.line; kind = kind })
]

abbrev pub first_fault : List Entry → Option CheckFault
first_fault all = fault_from all [] all

-- ---- the items of a faultless configuration, each with the line of its place, which is its include's where it is included

abbrev pub metric_of : ℕ → Item → List TheMetric
metric_of line (Metric m) = record m { line = line } ∷ []
metric_of line item = []

abbrev pub constraint_of : ℕ → Item → List TheConstraint
constraint_of line (Constraint c) = record c { line = line } ∷ []
constraint_of line item = []

abbrev pub hypothesis_of : ℕ → Item → List TheHypothesis
hypothesis_of line (Hypothesis h) = record h { line = line } ∷ []
hypothesis_of line item = []

abbrev pub phase_of : ℕ → Item → List PhaseDecl
phase_of line (Phase p) = record p { line = line } ∷ []
phase_of line item = []

-- the search that an item is, or else the one before
abbrev pub search_behind : Option SearchDecl → ℕ → Item → Option SearchDecl
search_behind before line (Search s) = Some (record s { line = line })
search_behind before line item = before

abbrev pub search_in : Option SearchDecl → List Entry → Option SearchDecl
search_in before [] = before
search_in before (e ∷ es) = search_in (search_behind before e.line e.item) es

abbrev pub wish_with : TheWish → Option ℕ → Option Focus → List CheckedWish
wish_with w None focus = []
wish_with w (Some metric) None = []
wish_with w (Some metric) (Some focus) = record { at = w.at; show = w.show; metric = metric; focus = focus } ∷ []

abbrev pub wish_of : List Entry → Item → Option Focus → List CheckedWish
wish_of all (Wish w) focus = wish_with w (metric_number all w.metric) focus
wish_of all item focus = []

abbrev pub checked_of : List Entry → Checked
checked_of all = record {
  metrics = flat_map (λ e. metric_of e.line e.item) all;
  constraints = flat_map (λ e. constraint_of e.line e.item) all;
  hypotheses = flat_map (λ e. hypothesis_of e.line e.item) all;
  search = search_in None all;
  phases = flat_map (λ e. phase_of e.line e.item) all;
  wishes = flat_map (λ e. wish_of all e.item e.focus) all;
}

-- ---- the results

-- a faultless configuration is checked, and of a faulty one the first fault is told
abbrev pub IsAnswer : Resources → List Item → List Item → Result Checked CheckFault → Type 0
IsAnswer t shipped items (Ok checked) =
    (es : List Entry) × AreEntries t (placed_items shipped items) es × (first_fault es ≡ None) × (checked ≡ checked_of es)
IsAnswer t shipped items (Err fault) =
    (es : List Entry) × AreEntries t (placed_items shipped items) es × (first_fault es ≡ Some fault)

-- there is one result
abbrev pub OneAnswer : Type 0
OneAnswer = (t : Resources) (shipped items : List Item) (a b : Result Checked CheckFault) →
    IsAnswer t shipped items a → IsAnswer t shipped items b → a ≡ b

-- why a call was refused; running out of memory is always allowed
abbrev pub CheckRefuses : CheckError → (CheckFault → Type 0) → Type 0
CheckRefuses (error.Fault fault) why = why fault
CheckRefuses error.NoMemory why = Unit {0}

-- the names of the items that are a `sync`
abbrev pub sync_of : Item → List (List ℕ)
sync_of (Sync s) = s.name ∷ []
sync_of item = []

abbrev pub prefixes_of : List Item → List Item → List (List ℕ)
prefixes_of shipped items = flat_map (λ place. sync_of place.item) (placed_items shipped items)
