-- The constraints that a focus makes active.
use Rattle.std.specs.Prelude.{ℕ, Bool, true, false, if◌then◌else◌, Option, Some, None, is_some, Result, Ok, Err, List, [], ◌∷◌, codes}
use Rattle.std.specs.Option.{option_or}
use Rattle.std.specs.Str.{bytes_eq}
use Rattle.pn_types.specs.declared.focus.Axis.{Axis}
use Rattle.pn_types.specs.declared.focus.Axis.TheVariants.{Code, SyncObject}
use Rattle.pn_types.specs.declared.focus.CodePart.{CodePart}
use Rattle.pn_types.specs.declared.focus.CodePart.TheVariants.{All, Module, Procedure}
use Rattle.pn_types.specs.declared.focus.Focus.{Focus}
use Rattle.mdl_ast.specs.declared.metric.Metric.{Metric}
use Rattle.mdl_ast.specs.declared.metric.Constraint.{Constraint}
use Rattle.mdl_check.specs.Names.{constraint_named}
use Rattle.mdl_plan.specs.declared.fault.PlanFault.{PlanFault}
use Rattle.mdl_plan.specs.declared.fault.PlanFault.TheVariants.{NoConstraint}

-- the constraint, if it is one of this hierarchy
abbrev pub in_hierarchy : List ℕ → Option Constraint → Option Constraint
in_hierarchy path None = None
in_hierarchy path (Some c) = if bytes_eq path c.path then Some c else None

-- of the constraints of these names the first of this hierarchy
abbrev pub constraint_for : List Constraint → List ℕ → List (List ℕ) → Option Constraint
constraint_for cs path [] = None
constraint_for cs path (name ∷ names) = option_or (in_hierarchy path (constraint_named cs name)) (constraint_for cs path names)

-- the focus is below the root of the code
abbrev pub is_below : CodePart → Bool
is_below All = false
is_below (Module m) = true
is_below (Procedure p) = true

-- the active constraints, that of the code and that of the object
pub record Active : Type 0 where
  pub code : Option Constraint
  pub object : Option Constraint

-- below the root of a hierarchy the metric's constraint for it is active, and there has to be one
abbrev pub wanted : Axis → Bool → Option Constraint → Result (Option Constraint) PlanFault
wanted axis false c = Ok None
wanted axis true None = Err (NoConstraint axis)
wanted axis true (Some c) = Ok (Some c)

-- the code's before the object's
abbrev pub both : Result (Option Constraint) PlanFault → Result (Option Constraint) PlanFault → Result Active PlanFault
both (Err e) object = Err e
both (Ok code) (Err e) = Err e
both (Ok code) (Ok object) = Ok (record { code = code; object = object })

-- the constraints of a metric that a focus makes active, or the hierarchy for which there is none
abbrev pub active_of : List Constraint → Metric → Focus → Result Active PlanFault
active_of cs m f = both
    (wanted Code (is_below f.code) (constraint_for cs (codes "/Code") m.constraints))
    (wanted SyncObject (is_some f.object) (constraint_for cs (codes "/SyncObject") m.constraints))
