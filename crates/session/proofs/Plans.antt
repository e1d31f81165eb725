-- What is known of a plan that the planner returns.
use Rattle.std.proofs.Common.{◌≡◌, ℕ, zero, suc, ◌<◌, ◌≤◌, ◌^◌, List, [], ◌∷◌, Option, Some, None, Err, refl, ap, arith, length}
use Rattle.std.specs.Prelude.{Result, slice_get}
use Rattle.std.proofs.lemmas.Option.{slice_get_past}
use Rattle.pn_types.specs.declared.focus.Focus.{Focus}
use Rattle.pn_types.specs.declared.plan.Plan.{Plan}
use Rattle.pn_types.specs.declared.plan.Site.{Site}
use Rattle.pn_types.specs.declared.settings.Start.{Start}
use Rattle.pn_types.specs.declared.settings.Start.TheVariants.{Cold, Warm}
use Rattle.prim_code.specs.Counts.{predicted}
use Rattle.prim_code.specs.Fitting.{AreStmtsOf, IsMeasurable}
use Rattle.mdl_ast.specs.declared.metric.Metric.{Metric}
use Rattle.mdl_plan.specs.Fitting.{most_words}
use Rattle.mdl_plan.specs.Plans.{IsPlanOr, IsPlanOver, IsSiteOf, plan_of}
use Rattle.mdl_plan.specs.Starts.{started_plan, started_if}
use Rattle.mdl_plan.specs.declared.fault.PlanError.{PlanError}
use Rattle.mdl_plan.specs.declared.fault.PlanFault.TheVariants.{TooManySites}
use Rattle.mdl_plan.proofs.Starting.{started_answers, started_measurable, started_over}
use Rattle.instrument.proofs.Armable.{armable_plan}
use Rattle.session_spec.specs.Inputs.{Inputs, plan_by, planned}
use Rattle.session_spec.specs.Plans.{ArePlansGood}
use Rattle.session_spec.proofs.Firsts.{plan_first}
use Rattle.session_spec.proofs.Good.{few_slots, plans_sound, site_word}
use Rattle.session_spec.proofs.Lists.{all_of}
use Rattle.session.specs.Candidates.{IsShort}
use Rattle.session.specs.Given.{AreGiven, AreNarrow}

short_plan : (i : Inputs) (plan : Plan) → AreGiven i → IsPlanOver i.points plan → predicted plan ≤ most_words → IsMeasurable plan → IsShort i plan
short_plan i plan g over cost m =
    let few = few_slots plan.vars in
    let some = over.vars.0 in
    let most = over.vars.1 in
    record {
      good = record {
        for = record { sites = λ s h. site_word i g.inside s (all_of (IsSiteOf i.points) plan.sites s over.sites h); stmts = λ s h. all_of (λ (z : Site). AreStmtsOf plan.vars z.stmts) plan.sites s m.fitting h };
        measurable = m;
        vars = omega arith;
      };
      words = omega arith;
      slots = omega arith;
      armable = armable_plan plan m;
    }

pub short_started : (i : Inputs) (start : Start) (plan : Plan) → AreGiven i → IsPlanOver i.points plan → predicted plan ≤ most_words → IsMeasurable plan → IsShort i (started_plan start plan)
short_started i Warm plan g over cost m = short_plan i plan g over cost m
short_started i Cold plan g over cost m = short_plan i (started_plan Cold plan) g (started_over Cold i.points plan over) cost (started_measurable Cold plan m)

there : (ms : List Metric) (n : ℕ) → n < length ms → (m : Metric) × (slice_get ms n ≡ Some m)
there [] n l = absurd (omega arith)
there (m ∷ ms) zero l = (m, refl)
there (m ∷ ms) (suc n) l = there ms n (omega arith)

-- no metric has such a number
pub none_planned : (i : Inputs) (metric : ℕ) (focus : Focus) → length i.checked.metrics ≤ metric → planned i metric focus ≡ Err (TooManySites 0)
unfolding planned
none_planned i metric focus l = ap (λ o. plan_by o i focus) (slice_get_past i.checked.metrics metric l)

-- the plan that is due: it starts as the settings say
pub answers_planned : (i : Inputs) (metric : ℕ) (focus : Focus) (r : Result Plan PlanError) → metric < length i.checked.metrics
    → ((m : Metric) → slice_get i.checked.metrics metric ≡ Some m → IsPlanOr r (plan_of i.checked.constraints m focus i.tree i.procs i.points)) → IsPlanOr (started_if i.settings.start r) (planned i metric focus)
unfolding planned
answers_planned i metric focus r l f = by (slice_get i.checked.metrics metric) (there i.checked.metrics metric l) f
  where
    by : (o : Option Metric) → (m : Metric) × (o ≡ Some m) → ((m : Metric) → o ≡ Some m → IsPlanOr r (plan_of i.checked.constraints m focus i.tree i.procs i.points)) → IsPlanOr (started_if i.settings.start r) (plan_by o i focus)
    by None k f = absurd (let no = k.1 in cc)
    by (Some m) k f = started_answers i.settings.start r (plan_of i.checked.constraints m focus i.tree i.procs i.points) (f m refl)

-- ---- all plans

pub all_good : (i : Inputs) → AreGiven i → AreNarrow i → ArePlansGood i
all_good i g n metric focus plan e =
    let s = plans_sound i g.checked g.objects g.ascending g.inside metric focus plan e in
    record { for = s.for; measurable = s.measurable (plan_first (λ k. k < 2 ^ 32) i n.metrics n.constraints metric focus plan e); vars = s.vars }
