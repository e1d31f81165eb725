-- A plan has no more sites and statements than it may have.
use Rattle.std.proofs.Common.{◌≡◌, ℕ, zero, suc, ◌+◌, ◌≤◌, ◌<◌, ◌==◌, ◌||◌, cond, ltb, Bool, true, false, Option, Some, None, Result, Ok, Err, IfOk, List, [], ◌∷◌, length, get_or, map, refl, sym, ap, subst, arith, eq-eqb}
use Rattle.std.specs.List.{find, list_any, All, AllByRecursion, AllPairs}
use Rattle.std.specs.List.Sorted.{IsStrictlyIncreasing}
use Rattle.std.proofs.lemmas.Bool.{ltb-false, ltb-true}
use Rattle.std.proofs.lemmas.List.{length-append, length-map}
use Rattle.std.proofs.lemmas.List.Elements.{All-from_recursion, recursion_from_All}
use Rattle.std.proofs.lemmas.List.Kept.{AllPairs-from_increasing}
use Rattle.pn_types.specs.declared.code.Point.{Point}
use Rattle.pn_types.specs.declared.code.Proc.{Proc}
use Rattle.pn_types.specs.declared.focus.Focus.{Focus}
use Rattle.pn_types.specs.declared.plan.Open.{Open}
use Rattle.pn_types.specs.declared.plan.Plan.{Plan}
use Rattle.pn_types.specs.declared.plan.Site.{Site}
use Rattle.pn_types.specs.declared.plan.Var.{Var}
use Rattle.mdl_ast.specs.declared.metric.Metric.{Metric}
use Rattle.mdl_ast.specs.declared.metric.Constraint.{Constraint}
use Rattle.resource_tree.specs.Resources.{Resources}
use Rattle.resource_tree.specs.Foci.{part}
use Rattle.mdl_plan.specs.Active.{Active}
use Rattle.mdl_plan.specs.Pieces.{counters, counting}
use Rattle.mdl_plan.specs.Plans.{IsPlanOr, IsLimited, IsPlanOver, IsSiteOf, PlanScope, has_stmts, is_crowded, opens_of, or_crowded, plan_with, plan_at, site_at, sites_of, scene_of, stmts_at, counter_var, vars_of}
use Rattle.mdl_plan.specs.declared.fault.PlanFault.{PlanFault}
use Rattle.mdl_plan.specs.declared.fault.PlanError.{PlanError}
use Rattle.mdl_plan.specs.declared.fault.PlanFault.TheVariants.{TooManySites}
use Rattle.mdl_plan.proofs.FewOpens.{few_opens}

few_stmts : (site : Site) → is_crowded site ≡ false → length site.stmts ≤ 32
few_stmts site e = omega (arith, ltb-false 32 (length site.stmts) e)

none_crowded : (sites : List Site) → find is_crowded sites ≡ None → All (λ site. length site.stmts ≤ 32) sites
none_crowded [] e k d h = absurd (omega arith)
none_crowded (site ∷ sites) e k d h = go (is_crowded site) refl (none_crowded sites) e k d h
  where
    go : (b : Bool) → is_crowded site ≡ b → (find is_crowded sites ≡ None → All (λ s. length s.stmts ≤ 32) sites) → cond b (Some site) (find is_crowded sites) ≡ None → All (λ s. length s.stmts ≤ 32) (site ∷ sites)
    go true f rest g k d h = absurd cc
    go false f rest g zero d h = few_stmts site f
    go false f rest g (suc k) d h = rest g k d (omega arith)

pub plan_is : (vars : List Var) (sites : List Site) (opens : List Open) (plan : Plan) → plan_with vars sites opens ≡ Ok plan → record { vars = vars; sites = sites; opens = opens } ≡ plan
plan_is vars sites opens plan e = go (ltb 4096 (length sites)) (find is_crowded sites) e
  where
    same : {a b : Plan} → (let r : Result Plan PlanFault = Ok a in r) ≡ Ok b → a ≡ b
    same f = cc

    go : (b : Bool) (o : Option Site) → cond b (Err (TooManySites (length sites))) (or_crowded vars sites opens o) ≡ Ok plan → record { vars = vars; sites = sites; opens = opens } ≡ plan
    go true o h = absurd cc
    go false (Some site) h = absurd cc
    go false None h = same h

plan_limits : (vars : List Var) (sites : List Site) (opens : List Open) (plan : Plan) → (find is_crowded sites ≡ None → All (λ o. length o.stmts ≤ 32) opens) → plan_with vars sites opens ≡ Ok plan → IsLimited plan
plan_limits vars sites opens plan few e = go (ltb 4096 (length sites)) refl (find is_crowded sites) refl e
  where
    same : {a b : Plan} → (let r : Result Plan PlanFault = Ok a in r) ≡ Ok b → a ≡ b
    same f = cc

    go : (b : Bool) → ltb 4096 (length sites) ≡ b → (o : Option Site) → find is_crowded sites ≡ o → cond b (Err (TooManySites (length sites))) (or_crowded vars sites opens o) ≡ Ok plan → IsLimited plan
    go true f o g h = absurd cc
    go false f (Some site) g h = absurd cc
    go false f None g h = subst IsLimited (same h) (record { sites = omega (arith, ltb-false 4096 (length sites) f); stmts = none_crowded sites g; opens = few g })

-- ---- the sites

or_true : (b c : Bool) → c ≡ true → b || c ≡ true
or_true true c h = refl
or_true false c h = h

more_points : (p : Point) (points : List Point) (sites : List Site) → AllByRecursion (IsSiteOf points) sites → AllByRecursion (IsSiteOf (p ∷ points)) sites
more_points p points [] h = tt
more_points p points (site ∷ sites) h =
    (record { at = or_true (p.at == site.at) (list_any (λ q. q.at == site.at) points) h.0.at; some = h.0.some }, more_points p points sites h.1)

sites_of_points : (s : PlanScope) (points : List Point) → AllByRecursion (IsSiteOf points) (sites_of s points)
sites_of_points s [] = tt
sites_of_points s (p ∷ points) = go (has_stmts (site_at s p)) refl (more_points p points (sites_of s points) (sites_of_points s points))
  where
    go : (b : Bool) → has_stmts (site_at s p) ≡ b → AllByRecursion (IsSiteOf (p ∷ points)) (sites_of s points) → AllByRecursion (IsSiteOf (p ∷ points)) (cond b (site_at s p ∷ sites_of s points) (sites_of s points))
    go true e rest = (record { at = ap (λ (b : Bool). b || list_any (λ q. q.at == p.at) points) (eq-eqb p.at p.at refl); some = ltb-true 0 (length (stmts_at s p)) e }, rest)
    go false e rest = rest

-- each number is below all later ones
abbrev pub Ascend : List ℕ → Type 0
Ascend [] = Unit {0}
Ascend (n ∷ ns) = AllByRecursion (λ m. n < m) ns × Ascend ns

ascend_pairs : (ns : List ℕ) → AllPairs (λ a b. a < b) ns → Ascend ns
ascend_pairs [] h = tt
ascend_pairs (n ∷ ns) h =
    (recursion_from_All (λ m. n < m) ns (λ k d l. h zero (suc k) d (omega arith) (omega arith)), ascend_pairs ns (λ i j d l w. h (suc i) (suc j) d (omega arith) (omega arith)))

pub ascend_from : (ns : List ℕ) → IsStrictlyIncreasing ns → Ascend ns
ascend_from ns h = ascend_pairs ns (AllPairs-from_increasing ns h)

to_increasing : (ns : List ℕ) → Ascend ns → IsStrictlyIncreasing ns
to_increasing [] h k l = absurd (omega arith)
to_increasing (n ∷ ns) h zero l = All-from_recursion (λ m. n < m) ns h.0 zero 0 (omega arith)
to_increasing (n ∷ ns) h (suc k) l =
    let e : suc (k + 1) ≡ suc k + 1 = omega arith in subst (λ (j : ℕ). get_or (n ∷ ns) (suc k) 0 < get_or (n ∷ ns) j 0) e (to_increasing ns h.1 k (omega arith))

above_sites : (s : PlanScope) (n : ℕ) (points : List Point) → AllByRecursion (λ m. n < m) (map (λ p. p.at) points) → AllByRecursion (λ m. n < m) (map (λ x. x.at) (sites_of s points))
above_sites s n [] h = tt
above_sites s n (p ∷ points) h = go (has_stmts (site_at s p)) (above_sites s n points h.1)
  where
    go : (b : Bool) → AllByRecursion (λ m. n < m) (map (λ x. x.at) (sites_of s points)) → AllByRecursion (λ m. n < m) (map (λ x. x.at) (cond b (site_at s p ∷ sites_of s points) (sites_of s points)))
    go true rest = (h.0, rest)
    go false rest = rest

ascending_sites : (s : PlanScope) (points : List Point) → Ascend (map (λ p. p.at) points) → Ascend (map (λ x. x.at) (sites_of s points))
ascending_sites s [] h = tt
ascending_sites s (p ∷ points) h = go (has_stmts (site_at s p)) (ascending_sites s points h.1)
  where
    go : (b : Bool) → Ascend (map (λ x. x.at) (sites_of s points)) → Ascend (map (λ x. x.at) (cond b (site_at s p ∷ sites_of s points) (sites_of s points)))
    go true rest = (above_sites s p.at points h.0, rest)
    go false rest = rest

pub few_counting : (c : Option Constraint) → length (counting c) ≤ 1
few_counting None = omega arith
few_counting (Some c) = go c.replace
  where
    go : (b : Bool) → length (cond b [] (c ∷ [])) ≤ 1
    go true = omega arith
    go false = omega arith

few_vars : (m : Metric) (a : Active) → length (vars_of m a) ≤ 3
few_vars m a =
    let both = length-append (counting a.code) (counting a.object) in
    let mapped = length-map (counters a) counter_var in
    omega (arith, few_counting a.code, few_counting a.object, both, mapped)

over : (points : List Point) (s : PlanScope) (m : Metric) (a : Active) (plan : Plan) → plan_with (vars_of m a) (sites_of s points) (opens_of s points) ≡ Ok plan → IsPlanOver points plan
over points s m a plan e =
    let is = plan_is (vars_of m a) (sites_of s points) (opens_of s points) plan e in
    let limited = plan_limits (vars_of m a) (sites_of s points) (opens_of s points) plan (few_opens s points) e in
    subst (IsPlanOver points) is (record {
      vars = (omega arith, few_vars m a);
      limited = subst IsLimited (sym is) limited;
      sites = sites_of_points s points;
      ascend = λ rise. to_increasing (map (λ x. x.at) (sites_of s points)) (ascending_sites s points (ascend_from (map (λ p. p.at) points) rise));
    })

-- a result that is a plan is within its limits
pub answer_over : (t : Resources) (f : Focus) (procs : List Proc) (points : List Point) (m : Metric) (a : Active) (r : Result Plan PlanError) → IsPlanOr r (plan_at t f procs points m (Ok a)) → IfOk r (IsPlanOver points)
answer_over t f procs points m a (Ok plan) e = over points (scene_of (part t f) procs m a) m a plan e
answer_over t f procs points m a (Err fault) e = tt
