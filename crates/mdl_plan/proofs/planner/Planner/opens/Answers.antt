use Rattle.std.proofs.Common.{Bor, ◌<◌, ◌≡◌, ◌++◌, false, List, length, map, ap, ◌∙◌, get_or, arith}
use Rattle.std.proofs.lemmas.List.{get_or-map, length-map}
use Rattle.pn_types.specs.declared.code.Point.{Point}
use Rattle.pn_types.specs.declared.plan.Open.{Open}
use Rattle.mdl_plan.specs.ChosenPieces.{open_with}
use Rattle.mdl_plan.proofs.OpenList.{opens_more}
use Rattle.mdl_plan.proofs.planner.Planner.opens.Goals as goal

abbrev none : Bor Point
none = record { ref_ptr = (0, 0); now = record { at = 0; proc_no = 0; entry = false; after = false; ret = false; call = false } }

pub loop-point-preserved : goal.loop-point-preserved
loop-point-preserved c =
    let s = c.args.self.now in
    let procs = c.args.procs.now in
    let refs = c.args.points.now in
    let points = map (λ (r : Bor Point). r.now) refs in
    let i = c.loop-point.point-index in
    let p = (get_or refs i none).now in
    let lt : i < length points = omega (arith, c.loop-point-test.true, length-map refs (λ (r : Bor Point). r.now)) in
    let is : get_or points i p ≡ p = get_or-map (λ (r : Bor Point). r.now) refs i none p c.loop-point-test.true in
    c.in_ok-add_open.ensures
    ∙ ap (λ (l : List Open). l ++ open_with s.terms s.pieces.items s.chosen procs p) c.loop-point.invariant
    ∙ opens_more s.terms s.pieces.items s.chosen procs points i p lt is
