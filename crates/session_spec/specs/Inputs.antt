-- What a session is given, and what it plans.
use Rattle.std.specs.Prelude.{ℕ, nat_le, if◌then◌else◌, Option, Some, None, Result, Err, List, [], ◌∷◌, filter, not, ◌==◌, slice_get}
use Rattle.pn_types.specs.declared.code.Point.{Point}
use Rattle.pn_types.specs.declared.code.Proc.{Proc}
use Rattle.pn_types.specs.declared.focus.Focus.{Focus}
use Rattle.pn_types.specs.declared.image.Image.{Image}
use Rattle.pn_types.specs.declared.pick.PickCause.{PickCause}
use Rattle.pn_types.specs.declared.pick.PickCause.TheVariants as cause
use Rattle.pn_types.specs.declared.plan.Plan.{Plan}
use Rattle.pn_types.specs.declared.settings.Settings.{Settings}
use Rattle.mdl_ast.specs.declared.metric.Metric.{Metric}
use Rattle.mdl_check.specs.declared.checked.Checked.{Checked}
use Rattle.mdl_check.specs.declared.checked.CheckedWish.{CheckedWish}
use Rattle.mdl_plan.specs.Plans.{plan_of}
use Rattle.mdl_plan.specs.Starts.{started_if}
use Rattle.mdl_plan.specs.declared.fault.PlanFault.{PlanFault}
use Rattle.mdl_plan.specs.declared.fault.PlanFault.TheVariants.{NoConstraint, TooManySites, TooManyStmts}
use Rattle.instrument.specs.declared.number.Refused.{Refused}
use Rattle.instrument.specs.declared.number.Refused.TheVariants as refused
use Rattle.resource_tree.specs.Resources.{Resources}
use Rattle.resource_tree.specs.Foci.{part}

-- the program, its checked configuration, the tree, procedures and points of both, and the settings
pub record Inputs : Type 0 where
  pub image : Image
  pub checked : Checked
  pub tree : Resources
  pub procs : List Proc
  pub points : List Point
  pub settings : Settings

-- these parts as inputs
abbrev pub inputs_of : Image → Checked → Resources → List Proc → List Point → Settings → Inputs
inputs_of image checked tree procs points settings =
    record { image = image; checked = checked; tree = tree; procs = procs; points = points; settings = settings }

-- ---- plans

-- the harts of a focus
abbrev pub harts_of_focus : Inputs → Focus → List ℕ
harts_of_focus i focus = (part i.tree focus).harts

-- a number that no metric has isn't wished
abbrev pub plan_by : Option Metric → Inputs → Focus → Result Plan PlanFault
plan_by None i focus = Err (TooManySites 0)
plan_by (Some m) i focus = started_if i.settings.start (plan_of i.checked.constraints m focus i.tree i.procs i.points)

-- The plan of a metric at a focus, or why there is none. With a cold start it is without what is open.
unfoldable pub planned : Inputs → ℕ → Focus → Result Plan PlanFault
planned i metric focus = plan_by (slice_get i.checked.metrics metric) i focus

-- ---- causes

abbrev pub cause_of_plan : PlanFault → PickCause
cause_of_plan (NoConstraint axis) = cause.NoConstraint axis
cause_of_plan (TooManySites n) = cause.TooManySites n
cause_of_plan (TooManyStmts at) = cause.TooManyStmts at

-- running out of memory is no cause
abbrev pub cause_of_refusal : Refused → Option PickCause
cause_of_refusal refused.NoMemory = None
cause_of_refusal (refused.OverCost n) = Some (cause.OverCost n)
cause_of_refusal refused.TooMany = Some cause.TooMany
cause_of_refusal (refused.NoSlot n) = Some (cause.NoSlot n)
cause_of_refusal (refused.NoRoom n) = Some (cause.NoRoom n)
cause_of_refusal (refused.Unmovable at) = Some (cause.Unmovable at)

-- ---- wishes

-- a wish is put before those of its tick
abbrev pub put_by_tick : CheckedWish → List CheckedWish → List CheckedWish
put_by_tick w [] = w ∷ []
put_by_tick w (x ∷ xs) = if nat_le w.at x.at then w ∷ x ∷ xs else x ∷ put_by_tick w xs

-- by tick, and those of one tick in their order
abbrev pub by_tick : List CheckedWish → List CheckedWish
by_tick [] = []
by_tick (w ∷ ws) = put_by_tick w (by_tick ws)

-- the wishes for the opening, and the later ones
abbrev pub first_wishes : Inputs → List CheckedWish
first_wishes i = filter (λ w. w.at == 0) i.checked.wishes

abbrev pub later_wishes : Inputs → List CheckedWish
later_wishes i = by_tick (filter (λ w. not (w.at == 0)) i.checked.wishes)
