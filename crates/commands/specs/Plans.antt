-- What is due for a plan.
use Rattle.std.specs.Prelude.{ℕ, ◌≡◌, List, Option, Some, None, Result, Ok, Err, find}
use Rattle.std.specs.Str.{bytes_eq}
use Rattle.command_words.specs.Requests.{PlanRequest}
use Rattle.mdl_ast.specs.declared.metric.Metric.{Metric}
use Rattle.mdl_plan.specs.Plans.{plan_of}
use Rattle.mdl_plan.specs.declared.fault.PlanFault.{PlanFault}
use Rattle.mdl_plan.specs.declared.fault.PlanFault.TheVariants.{NoConstraint, TooManySites, TooManyStmts}
use Rattle.pn_types.specs.declared.focus.Focus.{Focus}
use Rattle.pn_types.specs.declared.pick.PickCause.TheVariants as cause
use Rattle.pn_types.specs.declared.plan.Plan.{Plan}
use Rattle.prim_code.specs.Counts.{predicted}
use Rattle.refusals.specs.Kinds.{fault_at}
use Rattle.refusals.specs.Refusals.{Step, Then}
use Rattle.refusals.specs.declared.configuration.ConfKind.TheVariants.{UnknownName, BadFocus}
use Rattle.refusals.specs.declared.fault.Fault.{Fault}
use Rattle.refusals.specs.declared.fault.Fault.TheVariants.{BadConf, BadPick}
use Rattle.report.specs.PlanTexts.{plan_text}
use Rattle.resource_tree.specs.Foci.{canonical, Selects}
use Rattle.resource_tree.specs.Resources.{Resources}
use Rattle.commands.specs.Found.{IsFound}
use Rattle.commands.specs.Inputs.{AreInputs}
use Rattle.commands.specs.Output.{output}
use Rattle.commands.specs.FileReadings.{FileReading}
use Rattle.commands.specs.declared.finding.Found.{Found}
use Rattle.commands.specs.declared.texts.Texts.{Texts}

-- the metric of a name
abbrev pub metric_named : List Metric → List ℕ → Option Metric
metric_named metrics name = find (λ m. bytes_eq name m.name) metrics

abbrev pub or_unknown : Option Metric → Result Metric Fault
or_unknown (Some m) = Ok m
or_unknown None = Err (BadConf (fault_at 0 0 UnknownName))

-- what a text selects
abbrev pub or_bad_focus : Option Focus → Result Focus Fault
or_bad_focus (Some focus) = Ok focus
or_bad_focus None = Err (BadConf (fault_at 0 0 BadFocus))

abbrev pub IsSelected : Resources → List ℕ → Step Focus
IsSelected t text focus = (o : Option Focus) × Selects t text o × (focus ≡ or_bad_focus o)

-- the text of a plan of a metric at a focus, or why there is none
abbrev pub IsPlanText : List ℕ → List ℕ → Result Plan PlanFault → Step Texts
IsPlanText metric focus (Ok plan) texts = texts ≡ Ok (output (plan_text metric focus (predicted plan) plan))
IsPlanText metric focus (Err (NoConstraint axis)) texts = texts ≡ Err (BadPick metric focus (cause.NoConstraint axis))
IsPlanText metric focus (Err (TooManySites n)) texts = texts ≡ Err (BadPick metric focus (cause.TooManySites n))
IsPlanText metric focus (Err (TooManyStmts at)) texts = texts ≡ Err (BadPick metric focus (cause.TooManyStmts at))

-- the plan of a metric at a focus
abbrev pub IsPlanAt : List ℕ → Found → Metric → Focus → Step Texts
IsPlanAt name found m focus =
    IsPlanText name (canonical found.tree focus) (plan_of found.checked.constraints m focus found.tree found.procs found.points)

-- The plan of the named metric at the focus of the text: first the name is looked for, then the focus.
abbrev pub IsPlan : PlanRequest → Found → Step Texts
IsPlan p found =
    Then (λ m. m ≡ or_unknown (metric_named found.checked.metrics p.metric))
    (λ m. Then (IsSelected found.tree p.focus) (IsPlanAt p.metric found m))

-- what is due for words that ask for a plan
abbrev pub IsPlanDue : PlanRequest → FileReading → Step Texts
IsPlanDue p sees = Then (AreInputs sees p.program p.conf) (λ i. Then (IsFound i.image p.harts i.conf) (IsPlan p))
