-- What items are named, and which items names lead to.
use Rattle.std.specs.Prelude.{ℕ, ◌+◌, if◌then◌else◌, Bool, false, Option, Some, None, List, [], ◌∷◌, flat_map, option_to_list, position}
use Rattle.std.specs.List.{list_any}
use Rattle.std.specs.Str.{bytes_eq}
use Rattle.mdl_ast.specs.declared.items.Item.{Item}
use Rattle.mdl_ast.specs.declared.items.Item.TheVariants.{Metric, Constraint, Hypothesis, Phase}
use Rattle.mdl_ast.specs.declared.metric.Constraint.{Constraint as TheConstraint}
use Rattle.mdl_check.specs.Placed.{Entry}

-- the name of a metric or a constraint: the two share one namespace
abbrev pub variable_name : Item → Option (List ℕ)
variable_name (Metric m) = Some m.name
variable_name (Constraint c) = Some c.name
variable_name item = None

abbrev pub hypothesis_name : Item → Option (List ℕ)
hypothesis_name (Hypothesis h) = Some h.name
hypothesis_name item = None

abbrev pub phase_name : Item → Option (List ℕ)
phase_name (Phase p) = Some p.name
phase_name item = None

-- there is a name, and it is this one
abbrev pub is_named : List ℕ → Option (List ℕ) → Bool
is_named name None = false
is_named name (Some own) = bytes_eq name own

-- one of the items has the name, as what its kind is named
abbrev pub has_name : (Item → Option (List ℕ)) → List ℕ → List Entry → Bool
has_name own name es = list_any (λ e. is_named name (own e.item)) es

-- the constraint that an item is
abbrev pub as_constraint : Item → Option TheConstraint
as_constraint (Constraint c) = Some c
as_constraint item = None

-- the constraints among items
abbrev pub constraints_in : List Entry → List TheConstraint
constraints_in es = flat_map (λ e. option_to_list (as_constraint e.item)) es

-- of these constraints the first of this name
abbrev pub constraint_named : List TheConstraint → List ℕ → Option TheConstraint
constraint_named [] name = None
constraint_named (c ∷ cs) name = if bytes_eq name c.name then Some c else constraint_named cs name

-- what an item is to a search for a metric: the metric of this name, another metric, or none
abbrev pub metric_name : Item → Option (List ℕ)
metric_name (Metric m) = Some m.name
metric_name item = None

-- the number of the first metric of this name, where k is the first metric's number
abbrev pub number_from : ℕ → List Entry → List ℕ → Option ℕ
number_from k [] name = None
number_from k (e ∷ es) name = elim (metric_name e.item) [
  | None ↦ number_from k es name
  | Some own ↦ if bytes_eq name own then Some k else number_from (k + 1) es name
]

abbrev pub metric_number : List Entry → List ℕ → Option ℕ
metric_number es name = number_from 0 es name

-- the place of the first hypothesis of this name
abbrev pub hypothesis_place : List Entry → List ℕ → Option ℕ
hypothesis_place es name = position (λ e. is_named name (hypothesis_name e.item)) es
