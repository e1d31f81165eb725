-- The results that are plans of a checked configuration.
use Rattle.std.proofs.Common.{◌≡◌, ℕ, ◌<◌, ◌≤◌, ◌^◌, ◌==◌, zero, suc, false, Result, Ok, Err, IfOk, List, [], ◌∷◌, length, map, get_or, sym, subst, arith}
use Rattle.std.specs.List.{AllByRecursion, IsDistinct}
use Rattle.std.specs.List.Sorted.{IsStrictlyIncreasing}
use Rattle.std.proofs.lemmas.Bool.Decides.{nat_tests}
use Rattle.std.proofs.lemmas.List.Elements.{recursion_from_All}
use Rattle.pn_types.specs.declared.code.Point.{Point}
use Rattle.pn_types.specs.declared.code.Proc.{Proc}
use Rattle.pn_types.specs.declared.focus.Focus.{Focus}
use Rattle.pn_types.specs.declared.plan.Plan.{Plan}
use Rattle.pn_types.specs.declared.plan.Site.{Site}
use Rattle.prim_code.specs.Counts.{predicted}
use Rattle.prim_code.specs.Fitting.{AreStmtsOf, IsMeasurable}
use Rattle.mdl_ast.specs.declared.metric.Metric.{Metric}
use Rattle.mdl_ast.specs.declared.metric.Constraint.{Constraint}
use Rattle.mdl_check.specs.Sound.{IsSoundConstraint, IsSoundMetric, TakesFitting}
use Rattle.resource_tree.specs.Foci.{part}
use Rattle.resource_tree.specs.Resources.{Resources}
use Rattle.mdl_plan.specs.Active.{Active, active_of}
use Rattle.mdl_plan.specs.Fitting.{HasFewConds, HasLowObjects, most_words}
use Rattle.mdl_plan.specs.Plans.{IsPlanOr, IsPlanOver, PlanScope, vars_of, opens_of, sites_of, scene_of, plan_at}
use Rattle.mdl_plan.specs.declared.fault.PlanError.{PlanError}
use Rattle.mdl_plan.proofs.Costs.{of_plan}
use Rattle.mdl_plan.proofs.FittingStmts.{scene_few, scene_opens, scene_stmts}
use Rattle.mdl_plan.proofs.Limits.{Ascend, ascend_from, plan_is}
use Rattle.mdl_plan.proofs.Suiting.{ActiveSuits, active_suits}

differ : (s : Site) (sites : List Site) → AllByRecursion (λ n. s.at < n) (map (λ x. x.at) sites) → AllByRecursion (λ x. (s.at == x.at) ≡ false) sites
differ s [] h = tt
differ s (x ∷ sites) h = (let below : s.at < x.at = h.0 in grind (arith, nat_tests), differ s sites h.1)

-- sites of ascending addresses are apart
apart : (sites : List Site) → Ascend (map (λ x. x.at) sites) → IsDistinct (λ a b. a.at == b.at) sites
unfolding IsDistinct
apart [] h = tt
apart (s ∷ sites) h = (differ s sites h.0, apart sites h.1)

all_at : {X : Type 0} (P : X → Type 0) (xs : List X) (i : ℕ) (d : X) → i < length xs → AllByRecursion P xs → P (get_or xs i d)
all_at P [] i d lt h = absurd (omega arith)
all_at P (x ∷ xs) zero d lt h = h.0
all_at P (x ∷ xs) (suc i) d lt h = all_at P xs i d (omega arith) h.1

-- a metric of a checked configuration, and what is active for it
pub record IsChecked (m : Metric) (a : Active) : Type 0 where
  pub suits : ActiveSuits m a
  pub own : IsSoundMetric m

pub is_checked : (ms : List Metric) (cs : List Constraint) (f : Focus) (i : ℕ) (m : Metric) (a : Active) → AllByRecursion IsSoundMetric ms → AllByRecursion IsSoundConstraint cs → AllByRecursion (TakesFitting cs) ms
    → i < length ms → m ≡ get_or ms i m → Ok a ≡ active_of cs m f → IsChecked m a
is_checked ms cs f i m a metrics constraints taken lt is active = record {
  suits = active_suits cs m f a constraints (subst (TakesFitting cs) (sym is) (all_at (TakesFitting cs) ms i m lt taken)) (sym active);
  own = subst IsSoundMetric (sym is) (all_at IsSoundMetric ms i m lt metrics);
}

module _ (t : Resources) (f : Focus) (procs : List Proc) (points : List Point) (m : Metric) (a : Active) (c : IsChecked m a) where
  abbrev scene : PlanScope
  scene = scene_of (part t f) procs m a

  abbrev is : (plan : Plan) → IsPlanOr (Ok plan) (plan_at t f procs points m (Ok a)) → record { vars = vars_of m a; sites = sites_of scene points; opens = opens_of scene points } ≡ plan
  is plan e = plan_is (vars_of m a) (sites_of scene points) (opens_of scene points) plan e

  pub answer_few : (r : Result Plan PlanError) → IsPlanOr r (plan_at t f procs points m (Ok a)) → IfOk r HasFewConds
  answer_few (Err fault) e = tt
  answer_few (Ok plan) e = subst HasFewConds (is plan e) (scene_few t f procs points m a c.suits c.own)

  pub answer_cost : (r : Result Plan PlanError) → IsPlanOr r (plan_at t f procs points m (Ok a)) → IfOk r (IsPlanOver points) → IfOk r (λ plan. predicted plan ≤ most_words)
  answer_cost (Err fault) e over = tt
  answer_cost (Ok plan) e over = of_plan plan (answer_few (Ok plan) e) over.limited

  pub answer_measurable : (r : Result Plan PlanError) → IsPlanOr r (plan_at t f procs points m (Ok a)) → IfOk r (IsPlanOver points) → HasLowObjects t → IsStrictlyIncreasing (map (λ p. p.at) points)
      → IfOk r (λ plan. AllByRecursion (λ v. v.initially < 2 ^ 32) plan.vars) → IfOk r IsMeasurable
  answer_measurable (Err fault) e over low rise narrow = tt
  answer_measurable (Ok plan) e over low rise narrow = record {
    narrow = narrow;
    apart = apart plan.sites (ascend_from (map (λ x. x.at) plan.sites) (over.ascend rise));
    few = recursion_from_All (λ s. length s.stmts ≤ 32) plan.sites over.limited.stmts;
    fitting = subst (λ (p : Plan). AllByRecursion (λ s. AreStmtsOf p.vars s.stmts) p.sites) (is plan e) (scene_stmts t f procs points m a c.suits c.own low);
    opens_few = recursion_from_All (λ o. length o.stmts ≤ 32) plan.opens over.limited.opens;
    opens_fitting = subst (λ (p : Plan). AllByRecursion (λ o. AreStmtsOf p.vars o.stmts) p.opens) (is plan e) (scene_opens t f procs points m a c.suits c.own low);
  }
