use Rattle.std.proofs.Common.{rules, ◌≡◌, map, ap, replicate}
use Rattle.mdl_plan.proofs.SparseLists.{none_yet}
use Rattle.mdl_plan.proofs.lists.Lists.empty.Goals as goal

pub returns : goal.returns
returns c =
    let zeros : c.in_ok-vec.field-0.items ≡ replicate c.args.procs 0 = search rules in
    none_yet c.args.procs c.in_ok-vec.field-0.items _ zeros (ap (map (λ r. r.numbers.items)) c.new.ensures.items)
