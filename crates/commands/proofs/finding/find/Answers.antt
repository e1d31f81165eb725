use Rattle.std.proofs.Common.{◌≡◌, List, length, map, Ok, Err, sym, ap, subst, ◌∙◌, arith}
use Rattle.std.specs.List.Sorted.{IsStrictlyIncreasing}
use Rattle.code_points.specs.Points.{points_of}
use Rattle.code_points.specs.Procedures.{procedures_of, AreProcsOf}
use Rattle.mdl_ast.specs.declared.items.Conf.{Conf}
use Rattle.pn_types.specs.declared.code.Point.{Point}
use Rattle.pn_types.specs.declared.code.Proc.{Proc}
use Rattle.refusals.proofs.Steps.{handed_as}
use Rattle.refusals.specs.Refusals.{RefusalIs}
use Rattle.resource_tree.specs.Resources.{Resources}
use Rattle.commands.specs.Found.{IsCheck, IsFound, AreFound}
use Rattle.commands.specs.declared.finding.Found.{Found}
use Rattle.mdl_check.proofs.Few.{placed_counted}
use Rattle.commands.proofs.FewItems.{shipped_few}
use Rattle.commands.proofs.Given.{given}
use Rattle.commands.proofs.finding.find.Goals as goal

pub checked-requires-clause-few : goal.checked-requires-clause-few
checked-requires-clause-few c =
    placed_counted c.in_ok-shipped.shipped.items c.args.conf.now.items (omega (arith, ap (λ (k : Conf). length k.items) c.in_ok-shipped.ensures.conf, shipped_few)) c.requires.few

pub returns-in_err-checked-clause-found : goal.returns-in_err-checked-clause-found
returns-in_err-checked-clause-found c =
    let e = c.in_err-checked.field-0.0 in
    let conf = c.args.conf.now in
    handed_as (IsFound c.args.image.now c.args.harts conf) e c.from_residual-in_err-checked.result c.from_residual-in_err-checked.ensures
    (subst (λ (t : Resources). RefusalIs e (λ fault. IsCheck t conf (Err fault))) c.in_ok-tree.ensures.tree c.in_err-checked.ensures.checked)

pub returns-clause-runs : goal.returns-clause-runs
returns-clause-runs c =
    let image = c.args.image.now in
    let conf = c.args.conf.now in
    let found : Found = record { procs = c.from_vec.result; skipped = c.in_ok-procs.skipped; points = c.from_vec-2.result; tree = c.in_ok-tree.tree; checked = c.in_ok-checked.checked } in
    let procs : found.procs ≡ procedures_of image = c.from_vec.ensures ∙ c.in_ok-procs.ensures.procs in
    let points : found.points ≡ points_of image (procedures_of image) =
    c.from_vec-2.ensures ∙ c.in_ok-points.ensures.points ∙ ap (λ (ps : List Proc). points_of image ps) (c.deref.ensures.value ∙ c.in_ok-procs.ensures.procs) in
    let are : AreFound image c.args.harts conf found = record {
      procs = procs;
      skipped = c.in_ok-procs.ensures.skipped;
      points = points;
      tree = c.in_ok-tree.ensures.tree;
      checked = subst (λ (t : Resources). IsCheck t conf (Ok c.in_ok-checked.checked)) c.in_ok-tree.ensures.tree c.in_ok-checked.ensures.checked;
    } in
    given image c.args.harts conf found are c.requires.image c.requires.unscratched
    (record {
      procs = subst (λ (ps : List Proc). AreProcsOf image ps) (sym c.from_vec.ensures) c.in_ok-procs.ensures.are_procs;
      sound = c.in_ok-checked.ensures.sound;
      low = c.in_ok-tree.ensures.low;
      points = omega (arith, ap (λ (ps : List Point). length ps) c.from_vec-2.ensures, c.in_ok-points.ensures.few, c.requires.image.short);
      ascending = subst (λ (ps : List Point). IsStrictlyIncreasing (map (λ p. p.at) ps)) (sym c.from_vec-2.ensures) c.in_ok-points.ensures.ascending;
      items = c.requires.few;
    })
