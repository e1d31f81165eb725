use Rattle.std.proofs.Common.{◌≡◌, Some, None, sym, ◌∙◌}
use Rattle.report_view.specs.Trees.{row_place}
use Rattle.report_view.proofs.Found.{absent, present, within}
use Rattle.report_view.proofs.trees.put_below.Goals as goal

pub put_behind-requires-clause-place : goal.put_behind-requires-clause-place
put_behind-requires-clause-place c =
    let e : row_place c.args.parent c.args.rows.now.items ≡ Some c.in-Some.place = cc in
    within c.args.number c.args.parent c.args.rows.now.items c.in-Some.place e

pub returns-in_ok-put_root-in-None : goal.returns-in_ok-put_root-in-None
returns-in_ok-put_root-in-None c =
    let e : row_place c.args.parent c.args.rows.now.items ≡ None = cc in
    c.in_ok-put_root-in-None.ensures ∙ sym (absent c.args.number c.args.parent c.args.rows.now.items e)

pub returns-in_ok-put_behind-in-Some : goal.returns-in_ok-put_behind-in-Some
returns-in_ok-put_behind-in-Some c =
    let e : row_place c.args.parent c.args.rows.now.items ≡ Some c.in-Some.place = cc in
    present c.args.number c.args.parent c.args.rows.now.items c.put_behind.new.rows.items c.in-Some.place e c.in_ok-put_behind-in-Some.ensures
