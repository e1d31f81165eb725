use Rattle.std.proofs.Common.{rules, ◌≡◌, Bor, Result, Ok, Err, List, length, map, sym, ap, ◌∙◌, subst, arith}
use Rattle.std.specs.List.{filter, find}
use Rattle.pn_types.specs.declared.code.Point.{Point}
use Rattle.pn_types.specs.declared.code.Proc.{Proc}
use Rattle.pn_types.specs.declared.plan.Open.{Open}
use Rattle.pn_types.specs.declared.plan.Plan.{Plan}
use Rattle.pn_types.specs.declared.plan.Site.{Site}
use Rattle.pn_types.specs.declared.plan.Var.{Var}
use Rattle.resource_tree.specs.Foci.{part}
use Rattle.mdl_plan.specs.Plans.{is_crowded, opens_of, scene_of, sites_of, vars_of}
use Rattle.mdl_plan.specs.ChosenPieces.{PlanRefuses, has_numbers, opens_with, sites_with}
use Rattle.mdl_plan.specs.declared.fault.PlanFault.{PlanFault}
use Rattle.mdl_plan.proofs.Counts.{few_pass}
use Rattle.mdl_plan.proofs.Outcomes.{scene_opens, scene_sites, many_sites, too_many, refused, done}
use Rattle.mdl_plan.proofs.planning.planned.Goals as goal

-- the points after references
abbrev behind : List (Bor Point) → List Point
behind refs = map (λ r. r.now) refs

pub count-sites-requires : goal.count-sites-requires
count-sites-requires c =
    let f = has_numbers c.in_ok-planner.planner.chosen in
    omega (arith, ap (λ refs. length (filter f (behind refs))) c.deref-2.ensures.value, ap length c.in_ok-reached.ensures.points, few_pass f c.args.index.now.points, c.in_ok-reached.ensures.few)

pub returns-then-sites-gt-MOST_SITES-clause-answer : goal.returns-then-sites-gt-MOST_SITES-clause-answer
returns-then-sites-gt-MOST_SITES-clause-answer c =
    let s = c.in_ok-planner.planner in
    let e = c.in_ok-planner.ensures in
    let scene = scene_of (part c.args.tree.now c.args.focus.now) c.args.index.now.procs c.args.metric.now c.args.active.now in
    let points = c.args.index.now.points in
    let reached = behind c.in_ok-reached.reached.items in
    too_many (vars_of c.args.metric.now c.args.active.now) (sites_with s.terms s.pieces.items s.chosen reached) (sites_of scene points) (opens_of scene points) c.count-sites.result
    (scene_sites scene s.terms s.pieces.items s.chosen reached points c.in_ok-reached.ensures.points e.pieces e.chosen e.terms)
    (many_sites s.terms s.pieces.items s.chosen reached ∙ sym (c.count-sites.ensures ∙ ap (λ refs. length (filter (has_numbers s.chosen) (behind refs))) c.deref-2.ensures.value)) (omega arith)

pub returns-in_err-sites-clause-answer : goal.returns-in_err-sites-clause-answer
returns-in_err-sites-clause-answer c =
    let s = c.in_ok-planner.planner in
    let e = c.in_ok-planner.ensures in
    let scene = scene_of (part c.args.tree.now c.args.focus.now) c.args.index.now.procs c.args.metric.now c.args.active.now in
    let points = c.args.index.now.points in
    let reached = behind c.in_ok-reached.reached.items in
    let fault = c.in_err-sites.field-0.0 in
    let is : c.from_residual-in_err-sites.result ≡ Err fault = search rules in
    refused (vars_of c.args.metric.now c.args.active.now) (sites_with s.terms s.pieces.items s.chosen reached) (sites_of scene points) (opens_of scene points) c.count-sites.result
    fault c.from_residual-in_err-sites.result is
    (scene_sites scene s.terms s.pieces.items s.chosen reached points c.in_ok-reached.ensures.points e.pieces e.chosen e.terms)
    (many_sites s.terms s.pieces.items s.chosen reached ∙ sym (c.count-sites.ensures ∙ ap (λ refs. length (filter (has_numbers s.chosen) (behind refs))) c.deref-2.ensures.value)) (omega arith)
    (subst (λ (refs : List (Bor Point)). PlanRefuses fault (sites_with s.terms s.pieces.items s.chosen (behind refs))) c.deref-3.ensures.value c.in_err-sites.ensures.refused)

pub returns-clause-answer : goal.returns-clause-answer
returns-clause-answer c =
    let s = c.in_ok-planner.planner in
    let e = c.in_ok-planner.ensures in
    let scene = scene_of (part c.args.tree.now c.args.focus.now) c.args.index.now.procs c.args.metric.now c.args.active.now in
    let points = c.args.index.now.points in
    let reached = behind c.in_ok-reached.reached.items in
    let same : sites_with s.terms s.pieces.items s.chosen reached ≡ sites_of scene points =
    scene_sites scene s.terms s.pieces.items s.chosen reached points c.in_ok-reached.ensures.points e.pieces e.chosen e.terms in
    done (vars_of c.args.metric.now c.args.active.now) (sites_with s.terms s.pieces.items s.chosen reached) (sites_of scene points) (opens_of scene points) c.count-sites.result same
    (many_sites s.terms s.pieces.items s.chosen reached ∙ sym (c.count-sites.ensures ∙ ap (λ refs. length (filter (has_numbers s.chosen) (behind refs))) c.deref-2.ensures.value)) (omega arith)
    (ap (λ (refs : List (Bor Point)). find is_crowded (sites_with s.terms s.pieces.items s.chosen (behind refs))) (sym c.deref-3.ensures.value) ∙ c.in_ok-sites.ensures.few)
    ∙ ap (λ (vars : List Var). let r : Result Plan PlanFault = Ok (record { vars = vars; sites = sites_of scene points; opens = opens_of scene points }) in r) (sym (c.from_vec.ensures ∙ c.in_ok-vars.ensures.vars))
    ∙ ap (λ (sites : List Site). let r : Result Plan PlanFault = Ok (record { vars = c.from_vec.result; sites = sites; opens = opens_of scene points }) in r)
    (sym (c.from_vec-2.ensures ∙ c.in_ok-sites.ensures.all ∙ ap (λ (refs : List (Bor Point)). sites_with s.terms s.pieces.items s.chosen (behind refs)) c.deref-3.ensures.value ∙ same))
    ∙ ap (λ (opens : List Open). let r : Result Plan PlanFault = Ok (record { vars = c.from_vec.result; sites = c.from_vec-2.result; opens = opens }) in r)
    (sym (c.from_vec-3.ensures ∙ c.in_ok-opens.ensures
    ∙ ap (λ (refs : List (Bor Point)). opens_with s.terms s.pieces.items s.chosen c.procs.result.now (behind refs)) c.deref-4.ensures.value
    ∙ ap (λ (ps : List Proc). opens_with s.terms s.pieces.items s.chosen ps reached) c.procs.ensures.procs
    ∙ scene_opens scene s.terms s.pieces.items s.chosen reached points c.in_ok-reached.ensures.points e.pieces e.chosen e.terms))
