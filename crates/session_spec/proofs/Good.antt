-- What is known of each plan of a configuration that was checked.
use Rattle.std.proofs.Common.{◌≡◌, ℕ, zero, suc, ◌+◌, ◌*◌, ◌<◌, ◌≤◌, ◌^◌, List, [], ◌∷◌, Option, Some, None, Ok, Err, refl, sym, ap, ◌∙◌, subst, arith, length, map, get_or}
use Rattle.std.specs.Prelude.{Bool, true, false, cond, Result, slice_get, ◌==◌}
use Rattle.std.specs.List.{AllByRecursion, fold}
use Rattle.std.specs.List.Sorted.{IsStrictlyIncreasing}
use Rattle.std.proofs.lemmas.Bool.{eqb-true}
use Rattle.pn_types.specs.declared.code.Point.{Point}
use Rattle.pn_types.specs.declared.focus.Focus.{Focus}
use Rattle.pn_types.specs.declared.plan.Plan.{Plan}
use Rattle.pn_types.specs.declared.plan.Site.{Site}
use Rattle.pn_types.specs.declared.plan.Var.{Var}
use Rattle.pn_types.specs.declared.settings.Start.{Start}
use Rattle.pn_types.specs.declared.settings.Start.TheVariants.{Cold, Warm}
use Rattle.rv_mem.specs.Start.{program_of}
use Rattle.rv_word.specs.Plain.{program_word}
use Rattle.prim_code.specs.Counts.{predicted}
use Rattle.prim_code.specs.Fitting.{AreStmtsOf, IsMeasurable}
use Rattle.mdl_ast.specs.declared.metric.Metric.{Metric}
use Rattle.mdl_check.specs.Sound.{IsSoundCheck}
use Rattle.mdl_plan.specs.Active.{Active, active_of}
use Rattle.mdl_plan.specs.Fitting.{HasLowObjects, most_words}
use Rattle.mdl_plan.specs.Plans.{IsPlanOver, IsSiteOf, opens_of, plan_at, scene_of, sites_of, vars_of}
use Rattle.mdl_plan.specs.Starts.{started_plan, started_if}
use Rattle.mdl_plan.specs.declared.fault.PlanFault.{PlanFault}
use Rattle.mdl_plan.proofs.FittingStmts.{scene_stmts}
use Rattle.mdl_plan.proofs.Limits.{answer_over, plan_is}
use Rattle.mdl_plan.proofs.Measurable.{IsChecked, answer_cost, answer_measurable, is_checked}
use Rattle.mdl_plan.proofs.Starting.{started_measurable}
use Rattle.resource_tree.specs.Foci.{part}
use Rattle.machine.specs.Cores.{In}
use Rattle.machine.proofs.Inside.{any_true}
use Rattle.instrument.specs.Admission.{slot_count, slots_of_var}
use Rattle.instrument.specs.Scenes.{IsPlanFor}
use Rattle.instrument.proofs.Going.{get_in}
use Rattle.session_spec.specs.Inputs.{Inputs, plan_by, planned}
use Rattle.session_spec.proofs.Lists.{all_of}

-- ---- slots

slots_fold : (vars : List Var) (n : ℕ) → fold (λ (a : ℕ) (x : Var). a + slots_of_var x) n vars ≤ n + 2 * length vars
slots_fold [] n = omega arith
slots_fold (v ∷ vars) n = by v.timer (λ k. slots_fold vars k)
  where
    by : (b : Bool) → ((k : ℕ) → fold (λ (a : ℕ) (x : Var). a + slots_of_var x) k vars ≤ k + 2 * length vars) → fold (λ (a : ℕ) (x : Var). a + slots_of_var x) (n + cond b 2 1) vars ≤ n + 2 * suc (length vars)
    by true f = let l = f (n + 2) in omega arith
    by false f = let l = f (n + 1) in omega arith

-- a variable has at most two
pub few_slots : (vars : List Var) → slot_count vars ≤ 2 * length vars
few_slots vars = let l = slots_fold vars 0 in omega arith

-- ---- sites

-- the points are words of the text
abbrev pub AreWords : Inputs → Type 0
AreWords i = (p : Point) → In p i.points → (word : ℕ) × (program_word (program_of i.image) p.at ≡ Some word)

-- a site too
pub site_word : (i : Inputs) → AreWords i → (s : Site) → IsSiteOf i.points s → (word : ℕ) × (program_word (program_of i.image) s.at ≡ Some word)
site_word i words s k =
    let a = any_true (λ (p : Point). p.at == s.at) i.points k.at in
    let w = words a.1 (get_in i.points a.0 a.1 a.2) in
    (w.0, ap (program_word (program_of i.image)) (sym (eqb-true (a.1).at s.at a.3)) ∙ w.1)

-- ---- where a plan comes from

-- from a metric, and constraints that its focus makes active, started as the settings say
pub record IsFrom (i : Inputs) (metric : ℕ) (focus : Focus) (plan : Plan) : Type 0 where
  pub m : Metric
  pub a : Active
  pub whole : Plan
  pub there : slice_get i.checked.metrics metric ≡ Some m
  pub active : active_of i.checked.constraints m focus ≡ Ok a
  pub is : plan_at i.tree focus i.procs i.points m (Ok a) ≡ Ok whole
  pub starts : started_plan i.settings.start whole ≡ plan

pub plan_from : (i : Inputs) (metric : ℕ) (focus : Focus) (plan : Plan) → planned i metric focus ≡ Ok plan → IsFrom i metric focus plan
unfolding planned
plan_from i metric focus plan e = by (slice_get i.checked.metrics metric) refl e
  where
    starts : (m : Metric) (a : Active) → slice_get i.checked.metrics metric ≡ Some m → active_of i.checked.constraints m focus ≡ Ok a
        → (r : Result Plan PlanFault) → plan_at i.tree focus i.procs i.points m (Ok a) ≡ r → started_if i.settings.start r ≡ Ok plan → IsFrom i metric focus plan
    starts m a g h (Err fault) w k = absurd cc
    starts m a g h (Ok whole) w k = record { m = m; a = a; whole = whole; there = g; active = h; is = w; starts = cc }

    active : (m : Metric) → slice_get i.checked.metrics metric ≡ Some m → (r : Result Active PlanFault) → active_of i.checked.constraints m focus ≡ r
        → started_if i.settings.start (plan_at i.tree focus i.procs i.points m r) ≡ Ok plan → IsFrom i metric focus plan
    active m g (Err fault) h k = absurd cc
    active m g (Ok a) h k = starts m a g h (plan_at i.tree focus i.procs i.points m (Ok a)) refl k

    by : (o : Option Metric) → slice_get i.checked.metrics metric ≡ o → plan_by o i focus ≡ Ok plan → IsFrom i metric focus plan
    by None g k = absurd cc
    by (Some m) g k = active m g (active_of i.checked.constraints m focus) refl k

listed : (ms : List Metric) (n : ℕ) (m : Metric) → slice_get ms n ≡ Some m → (n < length ms) × (m ≡ get_or ms n m)
listed [] n m e = absurd cc
listed (x ∷ ms) zero m e = let same : x ≡ m = cc in (omega arith, sym same)
listed (x ∷ ms) (suc n) m e = let rest = listed ms n m e in (omega (arith, rest.0), rest.1)

-- ---- what is known of it

-- Its sites are words of the text, its statements fit its variables, and it is short. It can be measured where the values of its
-- variables have 32 bits to begin with.
pub record IsSoundPlan (i : Inputs) (plan : Plan) : Type 0 where
  pub for : IsPlanFor (program_of i.image) plan
  pub vars : 0 < length plan.vars
  pub measurable : AllByRecursion (λ v. v.initially < 2 ^ 32) plan.vars → IsMeasurable plan
  pub words : predicted plan < 2 ^ 32
  pub slots : slot_count plan.vars < 2 ^ 32

-- and what starts cold
started_sound : (i : Inputs) (start : Start) (plan : Plan) → IsSoundPlan i plan → IsSoundPlan i (started_plan start plan)
started_sound i Warm plan k = k
started_sound i Cold plan k = record {
  for = record { sites = (k.for).sites; stmts = (k.for).stmts };
  vars = k.vars;
  measurable = λ narrow. started_measurable Cold plan (k.measurable narrow);
  words = k.words;
  slots = k.slots;
}

module _ (i : Inputs) (sound : IsSoundCheck i.checked) (low : HasLowObjects i.tree) (rise : IsStrictlyIncreasing (map (λ p. p.at) i.points)) (inside : AreWords i) where
  whole_sound : (metric : ℕ) (focus : Focus) (plan : Plan) → (f : IsFrom i metric focus plan) → IsSoundPlan i f.whole
  whole_sound metric focus plan f =
      let m = f.m in
      let a = f.a in
      let whole = f.whole in
      let at = listed i.checked.metrics metric m f.there in
      let c : IsChecked m a = is_checked i.checked.metrics i.checked.constraints focus metric m a sound.metrics sound.constraints sound.replacements at.0 at.1 (sym f.active) in
      let over : IsPlanOver i.points whole = answer_over i.tree focus i.procs i.points m a (Ok whole) f.is in
      let words : predicted whole ≤ most_words = answer_cost i.tree focus i.procs i.points m a c (Ok whole) f.is over in
      let scene = scene_of (part i.tree focus) i.procs m a in
      let same = plan_is (vars_of m a) (sites_of scene i.points) (opens_of scene i.points) whole f.is in
      let stmts = subst (λ (p : Plan). AllByRecursion (λ s. AreStmtsOf p.vars s.stmts) p.sites) same (scene_stmts i.tree focus i.procs i.points m a c.suits c.own low) in
      let few = few_slots whole.vars in
      let some = over.vars.0 in
      let most = over.vars.1 in
      record {
        for = record {
          sites = λ s h. site_word i inside s (all_of (IsSiteOf i.points) whole.sites s over.sites h);
          stmts = λ s h. all_of (λ (z : Site). AreStmtsOf whole.vars z.stmts) whole.sites s stmts h;
        };
        vars = omega arith;
        measurable = answer_measurable i.tree focus i.procs i.points m a c (Ok whole) f.is over low rise;
        words = omega arith;
        slots = omega arith;
      }

  pub plans_sound : (metric : ℕ) (focus : Focus) (plan : Plan) → planned i metric focus ≡ Ok plan → IsSoundPlan i plan
  plans_sound metric focus plan e =
      let f = plan_from i metric focus plan e in subst (IsSoundPlan i) f.starts (started_sound i i.settings.start f.whole (whole_sound metric focus plan f))
