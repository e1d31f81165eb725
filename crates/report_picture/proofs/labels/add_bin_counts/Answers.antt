use Rattle.std.proofs.Common.{refl, ◌++◌}
use Rattle.std.specs.Fmt.{decimal}
use Rattle.std.specs.Prelude.{codes}
use Rattle.report_picture.specs.Labels.{bin_counts}
use Rattle.report_picture.proofs.Joins.{join, join_ok}
use Rattle.report_picture.proofs.labels.add_bin_counts.Goals as goal

pub returns : goal.returns
unfolding bin_counts
returns c =
    let o0 = c.args.out.now.items in
    let o1 = c.add_number.new.out.items in
    let o2 = c.add_number-2.new.out.items in
    let p1 = codes ", bins " in
    let p2 = decimal c.args.count in
    let from_2 = join o0 (o0 ++ p1) o1 (p1) p2 refl c.in_ok-add_number.ensures in
    let p3 = codes ", bins in a step " in
    let from_3 = join o0 o1 (o1 ++ p3) (p1 ++ p2) p3 from_2 refl in
    let p4 = decimal c.args.width in
    join_ok o0 (o1 ++ p3) o2 (p1 ++ p2 ++ p3) p4 c.add_number-2.result from_3 c.add_number-2.ensures
