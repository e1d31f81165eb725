-- What the variables of a plan are to begin with.
use Rattle.std.proofs.Common.{◌≡◌, ℕ, List, [], ◌∷◌, Option, Some, None, Ok, Err, refl, subst}
use Rattle.std.specs.Prelude.{Bool, true, false, cond, codes, is_some, Result, slice_get, zero, suc}
use Rattle.std.specs.List.{AllByRecursion}
use Rattle.std.specs.Option.{option_or}
use Rattle.std.specs.Str.{bytes_eq}
use Rattle.pn_types.specs.declared.focus.Axis.{Axis}
use Rattle.pn_types.specs.declared.focus.Axis.TheVariants.{Code, SyncObject}
use Rattle.pn_types.specs.declared.focus.Focus.{Focus}
use Rattle.pn_types.specs.declared.plan.Plan.{Plan}
use Rattle.pn_types.specs.declared.plan.Var.{Var}
use Rattle.pn_types.specs.declared.settings.Start.{Start}
use Rattle.pn_types.specs.declared.settings.Start.TheVariants.{Cold, Warm}
use Rattle.mdl_ast.specs.declared.metric.Constraint.{Constraint}
use Rattle.mdl_ast.specs.declared.metric.Metric.{Metric}
use Rattle.mdl_check.specs.Names.{constraint_named}
use Rattle.mdl_plan.specs.Active.{Active, active_of, both, constraint_for, in_hierarchy, is_below, wanted}
use Rattle.mdl_plan.specs.Pieces.{base_initially, counters, counting, replacement, replacing}
use Rattle.mdl_plan.specs.Plans.{at_first, counter_var, opens_of, scene_of, sites_of, vars_of}
use Rattle.mdl_plan.specs.Starts.{started_plan}
use Rattle.mdl_plan.specs.declared.fault.PlanFault.{PlanFault}
use Rattle.mdl_plan.proofs.Limits.{plan_is}
use Rattle.resource_tree.specs.Foci.{part}
use Rattle.session_spec.specs.Inputs.{Inputs, planned}
use Rattle.session_spec.proofs.Good.{plan_from}
use Rattle.session_spec.proofs.Lists.{all_append, map_all}

-- What holds of the first value of each metric and each constraint.
module _ (N : ℕ → Type 0) where
  abbrev Holds : Constraint → Type 0
  Holds c = N (at_first c.initially)

  abbrev IfSome : Option Constraint → Type 0
  IfSome None = Unit {0}
  IfSome (Some c) = Holds c

  -- ---- the constraints that a focus makes active

  named : (cs : List Constraint) (name : List ℕ) → AllByRecursion Holds cs → IfSome (constraint_named cs name)
  named [] name k = tt
  named (c ∷ cs) name k = by (bytes_eq name c.name) (named cs name k.1)
    where
      by : (b : Bool) → IfSome (constraint_named cs name) → IfSome (cond b (Some c) (constraint_named cs name))
      by true rest = k.0
      by false rest = rest

  in_path : (path : List ℕ) (o : Option Constraint) → IfSome o → IfSome (in_hierarchy path o)
  in_path path None k = tt
  in_path path (Some c) k = by (bytes_eq path c.path)
    where
      by : (b : Bool) → IfSome (cond b (Some c) None)
      by true = k
      by false = tt

  or_else : (o p : Option Constraint) → IfSome o → IfSome p → IfSome (option_or o p)
  or_else None p k l = l
  or_else (Some c) p k l = k

  for_path : (cs : List Constraint) (path : List ℕ) (names : List (List ℕ)) → AllByRecursion Holds cs → IfSome (constraint_for cs path names)
  for_path cs path [] k = tt
  for_path cs path (name ∷ names) k =
      or_else (in_hierarchy path (constraint_named cs name)) (constraint_for cs path names) (in_path path (constraint_named cs name) (named cs name k)) (for_path cs path names k)

  if_wanted : (axis : Axis) (below : Bool) (o r : Option Constraint) → IfSome o → wanted axis below o ≡ Ok r → IfSome r
  if_wanted axis false o r k e = let none : None ≡ r = cc in subst IfSome none tt
  if_wanted axis true None r k e = absurd cc
  if_wanted axis true (Some c) r k e = let some : Some c ≡ r = cc in subst IfSome some k

  pub record AreActive (a : Active) : Type 0 where
    pub code : IfSome a.code
    pub object : IfSome a.object

  in_both : (x y : Result (Option Constraint) PlanFault) (a : Active) → ((r : Option Constraint) → x ≡ Ok r → IfSome r) → ((r : Option Constraint) → y ≡ Ok r → IfSome r)
      → both x y ≡ Ok a → AreActive a
  in_both (Err f) y a h g e = absurd cc
  in_both (Ok code) (Err f) a h g e = absurd cc
  in_both (Ok code) (Ok object) a h g e =
      let one : Active = record { code = code; object = object } in
      let same : one ≡ a = cc in
      subst AreActive same (record { code = h code refl; object = g object refl })

  are_active : (cs : List Constraint) (m : Metric) (f : Focus) (a : Active) → AllByRecursion Holds cs → active_of cs m f ≡ Ok a → AreActive a
  are_active cs m f a k e =
      let code = constraint_for cs (codes "/Code") m.constraints in
      let object = constraint_for cs (codes "/SyncObject") m.constraints in
      in_both (wanted Code (is_below f.code) code) (wanted SyncObject (is_some f.object) object) a
      (λ r g. if_wanted Code (is_below f.code) code r (for_path cs (codes "/Code") m.constraints k) g)
      (λ r g. if_wanted SyncObject (is_some f.object) object r (for_path cs (codes "/SyncObject") m.constraints k) g) e

  -- ---- variables

  counted : (o : Option Constraint) → IfSome o → AllByRecursion Holds (counting o)
  counted None k = tt
  counted (Some c) k = by c.replace
    where
      by : (b : Bool) → AllByRecursion Holds (cond b [] (c ∷ []))
      by true = tt
      by false = (k, tt)

  replaced : (o : Option Constraint) → IfSome o → IfSome (replacing o)
  replaced None k = tt
  replaced (Some c) k = by c.replace
    where
      by : (b : Bool) → IfSome (cond b (Some c) None)
      by true = k
      by false = tt

  based : (m : Metric) (o : Option Constraint) → N (at_first m.initially) → IfSome o → N (at_first (base_initially m o))
  based m None k l = k
  based m (Some c) k l = l

  pub vars_first : (m : Metric) (a : Active) → N (at_first m.initially) → AreActive a → AllByRecursion (λ v. N v.initially) (vars_of m a)
  vars_first m a own k = (
    based m (replacement a) own (or_else (replacing a.object) (replacing a.code) (replaced a.object k.object) (replaced a.code k.code)),
    map_all Holds (λ (v : Var). N v.initially) counter_var (counters a) (λ c h. h) (all_append Holds (counting a.code) (counting a.object) (counted a.code k.code) (counted a.object k.object)),
  )

  metric_at : (ms : List Metric) (n : ℕ) (m : Metric) → AllByRecursion (λ x. N (at_first x.initially)) ms → slice_get ms n ≡ Some m → N (at_first m.initially)
  metric_at [] n m k e = absurd cc
  metric_at (x ∷ ms) zero m k e = let same : x ≡ m = cc in subst (λ (y : Metric). N (at_first y.initially)) same k.0
  metric_at (x ∷ ms) (suc n) m k e = metric_at ms n m k.1 e

  started_first : (start : Start) (plan : Plan) → AllByRecursion (λ v. N v.initially) plan.vars → AllByRecursion (λ v. N v.initially) (started_plan start plan).vars
  started_first Cold plan k = k
  started_first Warm plan k = k

  -- It holds of the first value of each variable of a plan.
  pub plan_first : (i : Inputs) → AllByRecursion (λ m. N (at_first m.initially)) i.checked.metrics → AllByRecursion Holds i.checked.constraints
      → (metric : ℕ) (focus : Focus) (plan : Plan) → planned i metric focus ≡ Ok plan → AllByRecursion (λ v. N v.initially) plan.vars
  plan_first i metrics constraints metric focus plan e =
      let f = plan_from i metric focus plan e in
      let scene = scene_of (part i.tree focus) i.procs f.m f.a in
      let whole = subst (λ (p : Plan). AllByRecursion (λ v. N v.initially) p.vars)
      (plan_is (vars_of f.m f.a) (sites_of scene i.points) (opens_of scene i.points) f.whole f.is)
      (vars_first f.m f.a (metric_at i.checked.metrics metric f.m metrics f.there) (are_active i.checked.constraints f.m focus f.a constraints f.active)) in
      subst (λ (p : Plan). AllByRecursion (λ v. N v.initially) p.vars) f.starts (started_first i.settings.start f.whole whole)
