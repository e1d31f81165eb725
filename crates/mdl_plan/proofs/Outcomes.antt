-- How sites make a plan.
use Rattle.std.proofs.Common.{◌≡◌, ℕ, ◌<◌, ◌≤◌, cond, ltb, Bool, true, Option, Some, None, Result, Ok, Err, List, length, map, sym, ap, ◌∙◌, subst, arith}
use Rattle.std.specs.List.{filter, find}
use Rattle.std.specs.Option.{option_map}
use Rattle.std.proofs.lemmas.Bool.{lt-ltb, ltb-true, false_from_ne_true}
use Rattle.std.proofs.lemmas.List.{length-map}
use Rattle.pn_types.specs.declared.code.Point.{Point}
use Rattle.pn_types.specs.declared.plan.Open.{Open}
use Rattle.pn_types.specs.declared.plan.Plan.{Plan}
use Rattle.pn_types.specs.declared.plan.Site.{Site}
use Rattle.pn_types.specs.declared.plan.Var.{Var}
use Rattle.mdl_plan.specs.Busy.{busy}
use Rattle.mdl_plan.specs.Scopes.{scope}
use Rattle.mdl_plan.specs.Pieces.{Piece}
use Rattle.mdl_plan.specs.Plans.{IsPlanOr, PlanScope, is_crowded, or_crowded, plan_with, opens_of, sites_of}
use Rattle.mdl_plan.specs.Statements.{Terms}
use Rattle.mdl_plan.specs.ChosenPieces.{AreChosen, PlanRefuses, has_numbers, opens_with, site_with, sites_with}
use Rattle.mdl_plan.specs.declared.fault.PlanFault.{PlanFault}
use Rattle.mdl_plan.specs.declared.fault.PlanFault.TheVariants.{NoConstraint, TooManySites, TooManyStmts}
use Rattle.mdl_plan.specs.declared.fault.PlanError.{PlanError}
use Rattle.mdl_plan.specs.declared.fault.PlanError.TheVariants as error
use Rattle.mdl_plan.specs.declared.chosen_pieces.ChosenPieces.{ChosenPieces}
use Rattle.mdl_plan.proofs.OpenList.{opens_reached}
use Rattle.mdl_plan.proofs.PointStmts.{opens_are, sites_are}

-- the sites of a scene, where the points at which a piece is chosen are reached
pub scene_sites : (s : PlanScope) (terms : Terms) (pieces : List Piece) (t : ChosenPieces) (reached points : List Point)
    → filter (has_numbers t) reached ≡ filter (has_numbers t) points → pieces ≡ busy s.pieces → AreChosen (scope s.selected s.procs) pieces t → terms ≡ s.terms
    → sites_with terms pieces t reached ≡ sites_of s points
scene_sites s terms pieces t reached points all e h f =
    ap (map (site_with terms pieces t)) all
    ∙ ap (λ (x : Terms). sites_with x pieces t points) f
    ∙ ap (λ (ps : List Piece). sites_with s.terms ps t points) e
    ∙ sites_are s t (subst (λ (ps : List Piece). AreChosen (scope s.selected s.procs) ps t) e h) points

pub many_sites : (terms : Terms) (pieces : List Piece) (t : ChosenPieces) (points : List Point) → length (sites_with terms pieces t points) ≡ length (filter (has_numbers t) points)
many_sites terms pieces t points = length-map (filter (has_numbers t) points) (site_with terms pieces t)

-- what is open in a scene, where the same points are reached
pub scene_opens : (s : PlanScope) (terms : Terms) (pieces : List Piece) (t : ChosenPieces) (reached points : List Point)
    → filter (has_numbers t) reached ≡ filter (has_numbers t) points → pieces ≡ busy s.pieces → AreChosen (scope s.selected s.procs) pieces t → terms ≡ s.terms
    → opens_with terms pieces t s.procs reached ≡ opens_of s points
scene_opens s terms pieces t reached points all e h f =
    opens_reached terms pieces t s.procs reached points all
    ∙ ap (λ (x : Terms). opens_with x pieces t s.procs points) f
    ∙ ap (λ (ps : List Piece). opens_with s.terms ps t s.procs points) e
    ∙ opens_are s t (subst (λ (ps : List Piece). AreChosen (scope s.selected s.procs) ps t) e h) points

-- there are too many
pub too_many : (vars : List Var) (sites due : List Site) (opens : List Open) (n : ℕ) → sites ≡ due → length sites ≡ n → 4096 < n → plan_with vars due opens ≡ Err (TooManySites n)
too_many vars sites due opens n same len many =
    let k : length due ≡ n = ap length (sym same) ∙ len in
    ap (λ (b : Bool). cond b (Err (TooManySites (length due))) (or_crowded vars due opens (find is_crowded due))) (lt-ltb 4096 (length due) (omega (arith, k)))
    ∙ ap (λ (m : ℕ). let r : Result Plan PlanFault = Err (TooManySites m) in r) k

-- there are few enough
few_enough : (vars : List Var) (due : List Site) (opens : List Open) → length due ≤ 4096 → plan_with vars due opens ≡ or_crowded vars due opens (find is_crowded due)
few_enough vars due opens few =
    ap (λ (b : Bool). cond b (Err (TooManySites (length due))) (or_crowded vars due opens (find is_crowded due)))
    (false_from_ne_true (ltb 4096 (length due)) (λ (h : ltb 4096 (length due) ≡ true). omega (arith, ltb-true 4096 (length due) h)))

-- the sites were refused
pub refused : (vars : List Var) (sites due : List Site) (opens : List Open) (n : ℕ) (e : PlanError) (r : Result Plan PlanError) → r ≡ Err e
    → sites ≡ due → length sites ≡ n → n ≤ 4096 → PlanRefuses e sites → IsPlanOr r (plan_with vars due opens)
refused vars sites due opens n e r is same len few h =
    subst (λ (x : Result Plan PlanError). IsPlanOr x (plan_with vars due opens)) (sym is) (by e (subst (PlanRefuses e) same h))
  where
    crowded : (at : ℕ) (o : Option Site) → option_map (λ s. s.at) o ≡ Some at → or_crowded vars due opens o ≡ Err (TooManyStmts at)
    crowded at None g = cc
    crowded at (Some s) g = let k : s.at ≡ at = cc in ap (λ (m : ℕ). let r : Result Plan PlanFault = Err (TooManyStmts m) in r) k

    by : (e : PlanError) → PlanRefuses e due → IsPlanOr (Err e) (plan_with vars due opens)
    by error.NoMemory g = tt
    by (error.Fault (NoConstraint axis)) g = absurd g
    by (error.Fault (TooManySites m)) g = absurd g
    by (error.Fault (TooManyStmts at)) g = few_enough vars due opens (let k : length due ≡ n = ap length (sym same) ∙ len in omega (arith, k)) ∙ crowded at (find is_crowded due) g

-- the sites are the plan's
pub done : (vars : List Var) (sites due : List Site) (opens : List Open) (n : ℕ) → sites ≡ due → length sites ≡ n → n ≤ 4096 → find is_crowded sites ≡ None
    → plan_with vars due opens ≡ Ok (record { vars = vars; sites = due; opens = opens })
done vars sites due opens n same len few none =
    few_enough vars due opens (let k : length due ≡ n = ap length (sym same) ∙ len in omega (arith, k))
    ∙ ap (or_crowded vars due opens) (ap (find is_crowded) (sym same) ∙ none)
