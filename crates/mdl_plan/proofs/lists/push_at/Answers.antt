use Rattle.std.proofs.Common.{[], map, set, ap, sym, ◌∙◌, refl}
use Rattle.std.proofs.Math.Seq.{map-set_same}
use Rattle.std.proofs.lemmas.List.{get_or-map, map-set}
use Rattle.std.proofs.lemmas.Result.{on_ok_weaker}
use Rattle.mdl_plan.specs.Numbers.{once}
use Rattle.mdl_plan.specs.declared.lists.Row.{Row}
use Rattle.mdl_plan.proofs.lists.push_at.Goals as goal

pub returns-clause-owners : goal.returns-clause-owners
returns-clause-owners c = map-set_same (λ (r : Row). r.proc_no) c.args.rows.now c.args.place _ c.index-rows-place.result refl

pub returns-clause-pushed : goal.returns-clause-pushed
returns-clause-pushed c =
    let rows = c.args.rows.now in
    let numbers = λ (r : Row). r.numbers.items in
    on_ok_weaker c.push_once.result
    (λ pushed.
    map-set numbers rows c.args.place _
    ∙ ap (set (map numbers rows) c.args.place) (pushed ∙ ap (once c.args.number) (sym (get_or-map numbers rows c.args.place c.index-rows-place.result [] c.requires))))
    c.push_once.ensures
