use Rattle.std.proofs.Common.{◌++◌}
use Rattle.profile_text.specs.Table.{untold_bound, untold_count, untold_meaning}
use Rattle.profile_text.proofs.Joins.{join}
use Rattle.profile_text.proofs.table.add_untold.Goals as goal

pub returns : goal.returns
returns c =
    let old = c.args.out.now.items in
    let a = untold_count c.args.untold in
    let b = untold_meaning in
    join old c.add_untold_meaning.new.out.items c.add_untold_bound.new.out.items (a ++ b) (untold_bound c.args.untold)
    (join old c.add_untold_count.new.out.items c.add_untold_meaning.new.out.items a b c.in_ok-add_untold_count.ensures c.in_ok-add_untold_meaning.ensures)
    c.in_ok-add_untold_bound.ensures
