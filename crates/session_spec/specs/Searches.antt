-- What the search of a session goes by, and what it tests a node by.
use Rattle.std.specs.Prelude.{ℕ, ◌+◌, if◌then◌else◌, Option, Some, None, List, [], ◌∷◌, length, slice_get}
use Rattle.std.specs.Str.{bytes_eq}
use Rattle.pn_types.specs.declared.pick.BarCause.{BarCause}
use Rattle.pn_types.specs.declared.pick.BarCause.TheVariants as bar
use Rattle.mdl_ast.specs.declared.items.Hypothesis.{Hypothesis}
use Rattle.mdl_ast.specs.declared.items.SearchDecl.{SearchDecl}
use Rattle.mdl_ast.specs.declared.metric.Metric.{Metric}
use Rattle.mdl_plan.specs.declared.fault.PlanFault.{PlanFault}
use Rattle.mdl_plan.specs.declared.fault.PlanFault.TheVariants.{NoConstraint, TooManySites, TooManyStmts}
use Rattle.instrument.specs.declared.number.Refused.{Refused}
use Rattle.instrument.specs.declared.number.Refused.TheVariants as refused
use Rattle.w3_search.specs.declared.node.Node.{Node}
use Rattle.w3_search.specs.Steps.{Rules}
use Rattle.session_spec.specs.Inputs.{Inputs}

-- ---- the rules

-- that of a search without hypotheses
abbrev pub no_search : SearchDecl
no_search = record { line = 0; window = 1; cost = 0; observed = 0 }

-- A configuration that asks for no search has one without hypotheses, which never has a node.
abbrev pub rules_by : Option SearchDecl → Inputs → Rules
rules_by None i = record { hypotheses = []; decl = no_search; phases = []; tree = i.tree }
rules_by (Some decl) i = record { hypotheses = i.checked.hypotheses; decl = decl; phases = i.checked.phases; tree = i.tree }

abbrev pub rules_of : Inputs → Rules
rules_of i = rules_by i.checked.search i

-- ---- metrics

-- the number of the first metric of this name, from a number on; where none has it, the number after the last
abbrev pub number_from : ℕ → List ℕ → List Metric → ℕ
number_from n name [] = n
number_from n name (m ∷ ms) = if bytes_eq name m.name then n else number_from (n + 1) name ms

abbrev pub number_by : Option Hypothesis → Inputs → ℕ
number_by None i = length i.checked.metrics
number_by (Some h) i = number_from 0 h.metric i.checked.metrics

-- the number of the metric of a node's hypothesis
unfoldable pub metric_of : Inputs → Node → ℕ
metric_of i node = number_by (slice_get i.checked.hypotheses node.hypothesis) i

-- ---- why a node can't be tested

abbrev pub bar_of_plan : PlanFault → BarCause
bar_of_plan (NoConstraint axis) = bar.NoConstraint axis
bar_of_plan (TooManySites n) = bar.TooManySites n
bar_of_plan (TooManyStmts at) = bar.TooManyStmts at

-- running out of memory is no cause, nor is the limit of instruments: where it is reached the node isn't taken
abbrev pub bar_of_refusal : Refused → Option BarCause
bar_of_refusal refused.NoMemory = None
bar_of_refusal (refused.OverCost n) = Some (bar.OverCost n)
bar_of_refusal refused.TooMany = None
bar_of_refusal (refused.NoSlot n) = Some (bar.NoSlot n)
bar_of_refusal (refused.NoRoom n) = Some (bar.NoRoom n)
bar_of_refusal (refused.Unmovable at) = Some (bar.Unmovable at)
