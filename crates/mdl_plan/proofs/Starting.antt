-- A plan that starts cold is within what it was within.
use Rattle.std.proofs.Common.{Result, Ok, Err, List, ap, arith}
use Rattle.pn_types.specs.declared.code.Point.{Point}
use Rattle.pn_types.specs.declared.plan.Plan.{Plan}
use Rattle.pn_types.specs.declared.settings.Start.{Start}
use Rattle.pn_types.specs.declared.settings.Start.TheVariants.{Cold, Warm}
use Rattle.prim_code.specs.Fitting.{IsMeasurable}
use Rattle.mdl_plan.specs.Plans.{IsPlanOr, IsPlanOver}
use Rattle.mdl_plan.specs.Starts.{started_plan, started_if}
use Rattle.mdl_plan.specs.declared.fault.PlanFault.{PlanFault}
use Rattle.mdl_plan.specs.declared.fault.PlanError.{PlanError}
use Rattle.mdl_plan.specs.declared.fault.PlanError.TheVariants.{NoMemory, Fault}

pub started_measurable : (start : Start) (plan : Plan) → IsMeasurable plan → IsMeasurable (started_plan start plan)
started_measurable Warm plan h = h
started_measurable Cold plan h = record { narrow = h.narrow; apart = h.apart; few = h.few; fitting = h.fitting; opens_few = tt; opens_fitting = tt }

pub started_over : (start : Start) (points : List Point) (plan : Plan) → IsPlanOver points plan → IsPlanOver points (started_plan start plan)
started_over Warm points plan h = h
started_over Cold points plan h = record {
  vars = h.vars;
  limited = record { sites = h.limited.sites; stmts = h.limited.stmts; opens = λ k d few. absurd (omega arith) };
  sites = h.sites;
  ascend = h.ascend;
}

-- what is returned starts as what is due does
pub started_answers : (start : Start) (r : Result Plan PlanError) (due : Result Plan PlanFault) → IsPlanOr r due → IsPlanOr (started_if start r) (started_if start due)
started_answers start (Ok plan) due e = ap (started_if start) e
started_answers start (Err NoMemory) due e = tt
started_answers start (Err (Fault fault)) due e = ap (started_if start) e
