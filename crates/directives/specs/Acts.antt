-- What a directive does to the items of a configuration.
use Rattle.std.specs.Prelude.{ℕ, zero, suc, ◌||◌, not, if◌then◌else◌, Bool, false, Option, Some, None, Result, Ok, Err, List, [], ◌∷◌, ◌++◌, length, map, filter, flat_map}
use Rattle.std.specs.Str.{bytes_eq}
use Rattle.mdl_ast.specs.declared.items.Item.{Item}
use Rattle.mdl_ast.specs.declared.items.Item.TheVariants.{Include, Hypothesis}
use Rattle.mdl_ast.specs.declared.items.Hypothesis.{Hypothesis as TheHypothesis}
use Rattle.directives.specs.Hypotheses.{is_named, has_hypothesis, has_axis}
use Rattle.directives.specs.declared.directive.Directive.{Directive}
use Rattle.directives.specs.declared.directive.DirectiveAct.{DirectiveAct}
use Rattle.directives.specs.declared.directive.DirectiveAct.TheVariants.{Prune, PruneAxis, Threshold, First}
use Rattle.directives.specs.declared.fault.DirectiveKind.{DirectiveKind}
use Rattle.directives.specs.declared.fault.DirectiveKind.TheVariants.{UnknownName, WrongKind}
use Rattle.directives.specs.declared.fault.DirectiveFault.{DirectiveFault}

-- ---- the shipped hypotheses

-- a hypothesis, at this line
abbrev pub at_line : ℕ → Item → List Item
at_line line (Hypothesis h) = Hypothesis (record h { line = line }) ∷ []
at_line line item = []

-- what an item stands for: an include of hypotheses for the shipped ones, at its line, and another item for itself
abbrev pub expansion : List Item → Item → List Item
expansion shipped (Include i) = if i.metrics then Include i ∷ [] else flat_map (at_line i.line) shipped
expansion shipped item = item ∷ []

abbrev pub expanded : List Item → List Item → List Item
expanded shipped items = flat_map (expansion shipped) items

-- ---- prune

abbrev pub parent_in : Item → Option (List ℕ)
parent_in (Hypothesis h) = h.parent
parent_in item = None

-- the parent of the hypothesis of this name
abbrev pub parent_of : List Item → List ℕ → Option (List ℕ)
parent_of [] name = None
parent_of (item ∷ items) name = if is_named name item then parent_in item else parent_of items name

-- the name is one of n ancestors' in a row, of which the first is the given one, if any
abbrev pub leads_up : List Item → ℕ → List ℕ → Option (List ℕ) → Bool
leads_up items zero name next = false
leads_up items (suc n) name None = false
leads_up items (suc n) name (Some next) = bytes_eq name next || leads_up items n name (parent_of items next)

-- the hypothesis has this name, or one of its first n ancestors has
abbrev pub is_under : List Item → ℕ → List ℕ → Item → Bool
is_under items n name (Hypothesis h) = bytes_eq name h.name || leads_up items n name h.parent
is_under items n name item = false

-- without the hypothesis and all that have it as an ancestor; there are no more ancestors than items
unfoldable pub pruned : List ℕ → List Item → List Item
pruned name items = filter (λ item. not (is_under items (length items) name item)) items

-- ---- a change of a hypothesis

-- the hypothesis of this name is changed, and no other item
abbrev pub with_hypothesis : List ℕ → (TheHypothesis → TheHypothesis) → Item → Item
with_hypothesis name change (Hypothesis h) = if bytes_eq name h.name then Hypothesis (change h) else Hypothesis h
with_hypothesis name change item = item

abbrev pub without_axis : List ℕ → TheHypothesis → TheHypothesis
without_axis axis h = record h { axes = filter (λ other. not (bytes_eq axis other)) h.axes }

abbrev pub with_threshold : ℕ → TheHypothesis → TheHypothesis
with_threshold threshold h = record h { threshold = threshold }

-- ---- first

-- the hypothesis of this name, and after it the others in their order
unfoldable pub with_first : List ℕ → List Item → List Item
with_first name items = filter (is_named name) items ++ filter (λ item. not (is_named name item)) items

-- ---- an act

abbrev pub name_of : DirectiveAct → List ℕ
name_of (Prune name) = name
name_of (PruneAxis name axis) = name
name_of (Threshold name threshold) = name
name_of (First name) = name

-- the act is on an axis along which the hypothesis isn't refined
abbrev pub is_astray : DirectiveAct → List Item → Bool
is_astray (PruneAxis name axis) items = not (has_axis name axis items)
is_astray act items = false

-- what is wrong with an act on these items
abbrev pub kind_of : DirectiveAct → List Item → Option DirectiveKind
kind_of act items =
    if not (has_hypothesis (name_of act) items) then Some UnknownName
    else if is_astray act items then Some WrongKind
    else None

-- what the act makes of the items
abbrev pub items_after_act : DirectiveAct → List Item → List Item
items_after_act (Prune name) items = pruned name items
items_after_act (PruneAxis name axis) items = map (with_hypothesis name (without_axis axis)) items
items_after_act (Threshold name threshold) items = map (with_hypothesis name (with_threshold threshold)) items
items_after_act (First name) items = with_first name items

-- ---- directives, in their order

-- those after one that has no fault, or its fault
abbrev pub go_on : (List Item → Result (List Item) DirectiveFault) → Directive → List Item → Option DirectiveKind
    → Result (List Item) DirectiveFault
go_on more d items None = more (items_after_act d.act items)
go_on more d items (Some kind) = Err (record { line = d.line; col = 0; kind = kind })

unfoldable pub directed : List Directive → List Item → Result (List Item) DirectiveFault
directed [] items = Ok items
directed (d ∷ ds) items = go_on (directed ds) d items (kind_of d.act items)

-- The items of a configuration after directives, or the first fault.
unfoldable pub applied : List Item → List Item → List Directive → Result (List Item) DirectiveFault
applied shipped items directives = directed directives (expanded shipped items)
