use Rattle.std.proofs.Common.{rules, Bor, ◌<◌, arith, length, map, ◌≡◌, ◌+◌, ◌++◌, ◌∷◌, [], false, List, Err, IfErr, take, drop, sym, ap, ◌∙◌, subst, get_or}
use Rattle.std.specs.List.{find}
use Rattle.std.proofs.lemmas.List.{get_or-map, length-map}
use Rattle.pn_types.specs.declared.code.Point.{Point}
use Rattle.pn_types.specs.declared.plan.Site.{Site}
use Rattle.mdl_plan.specs.Plans.{is_crowded}
use Rattle.mdl_plan.specs.ChosenPieces.{PlanRefuses, sites_with}
use Rattle.mdl_plan.proofs.SiteList.{sites_more, sites_around, few_both, refuses_all}
use Rattle.mdl_plan.proofs.planner.Planner.sites.Goals as goal

abbrev none : Bor Point
none = record { ref_ptr = (0, 0); now = record { at = 0; proc_no = 0; entry = false; after = false; ret = false; call = false } }

pub returns-in_err-add_site-clause-refused : goal.returns-in_err-add_site-clause-refused
returns-in_err-add_site-clause-refused c =
    let s = c.args.self.now in
    let refs = c.args.points.now in
    let points = map (λ (r : Bor Point). r.now) refs in
    let i = c.loop-point.point-index in
    let p = (get_or refs i none).now in
    let lt : i < length points = omega (arith, c.loop-point-test.true, length-map refs (λ (r : Bor Point). r.now)) in
    let is : get_or points i p ≡ p = get_or-map (λ (r : Bor Point). r.now) refs i none p c.loop-point-test.true in
    let before = sites_with s.terms s.pieces.items s.chosen (take i points) in
    let here = sites_with s.terms s.pieces.items s.chosen (p ∷ []) in
    let behind = sites_with s.terms s.pieces.items s.chosen (drop (i + 1) points) in
    let fault = c.in_err-add_site.field-0.0 in
    let e : c.from_residual.result ≡ Err fault = search rules in
    subst (λ r. IfErr r (λ f. PlanRefuses f (sites_with s.terms s.pieces.items s.chosen points))) (sym e)
    (subst (PlanRefuses fault) (sites_around s.terms s.pieces.items s.chosen points i p lt is)
    (refuses_all fault before here behind c.loop-point.invariant.few c.in_err-add_site.ensures.refused))

pub loop-point-preserved : goal.loop-point-preserved
loop-point-preserved c =
    let s = c.args.self.now in
    let refs = c.args.points.now in
    let points = map (λ (r : Bor Point). r.now) refs in
    let i = c.loop-point.point-index in
    let p = (get_or refs i none).now in
    let lt : i < length points = omega (arith, c.loop-point-test.true, length-map refs (λ (r : Bor Point). r.now)) in
    let is : get_or points i p ≡ p = get_or-map (λ (r : Bor Point). r.now) refs i none p c.loop-point-test.true in
    let before = sites_with s.terms s.pieces.items s.chosen (take i points) in
    let here = sites_with s.terms s.pieces.items s.chosen (p ∷ []) in
    let more = sites_more s.terms s.pieces.items s.chosen points i p lt is in
    record {
      so_far = c.in_ok-add_site.ensures.added ∙ ap (λ (l : List Site). l ++ here) c.loop-point.invariant.so_far ∙ more;
      few = ap (find is_crowded) (sym more) ∙ few_both before here c.loop-point.invariant.few c.in_ok-add_site.ensures.few;
    }
