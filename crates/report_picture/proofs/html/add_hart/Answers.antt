use Rattle.std.proofs.Common.{refl, ◌++◌}
use Rattle.std.specs.Fmt.{decimal}
use Rattle.std.specs.Prelude.{codes}
use Rattle.report_picture.specs.Html.{end_cells, hart_cells}
use Rattle.report_picture.proofs.Joins.{join, join_last}
use Rattle.report_picture.proofs.html.add_hart.Goals as goal

pub returns : goal.returns
unfolding hart_cells
returns c =
    let o0 = c.args.out.now.items in
    let o1 = c.add_number.new.out.items in
    let o2 = c.add_number-2.new.out.items in
    let o3 = c.extend_from_slice.new.self.items in
    let o4 = c.add_end.new.out.items in
    let o5 = c.extend_from_slice-2.new.self.items in
    let p1 = codes "<tr><td>" in
    let p2 = decimal c.args.number in
    let from_2 = join o0 (o0 ++ p1) o1 (p1) p2 refl c.in_ok-add_number.ensures in
    let p3 = codes "</td><td>" in
    let from_3 = join o0 o1 (o1 ++ p3) (p1 ++ p2) p3 from_2 refl in
    let p4 = decimal c.args.part.now.ticks in
    let from_4 = join o0 (o1 ++ p3) o2 (p1 ++ p2 ++ p3) p4 from_3 c.in_ok-add_number-2.ensures in
    let p5 = codes "</td><td>" in
    let from_5 = join o0 o2 o3 (p1 ++ p2 ++ p3 ++ p4) p5 from_4 c.in_ok-extend_from_slice.ensures.items in
    let p6 = end_cells c.args.part.now in
    let from_6 = join o0 o3 o4 (p1 ++ p2 ++ p3 ++ p4 ++ p5) p6 from_5 c.in_ok-add_end.ensures in
    let p7 = codes "</td></tr>\n" in
    join_last o0 o4 o5 (p1 ++ p2 ++ p3 ++ p4 ++ p5 ++ p6) p7 c.extend_from_slice-2.result from_6 c.extend_from_slice-2.ensures.items
