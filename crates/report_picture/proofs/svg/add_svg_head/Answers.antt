use Rattle.std.proofs.Common.{refl, ◌++◌}
use Rattle.std.specs.Fmt.{decimal}
use Rattle.std.specs.Prelude.{codes}
use Rattle.report_picture.specs.Svg.{svg_head}
use Rattle.report_picture.proofs.Joins.{join, join_last}
use Rattle.report_picture.proofs.svg.add_svg_head.Goals as goal

pub returns : goal.returns
unfolding svg_head
returns c =
    let o0 = c.args.out.now.items in
    let o1 = c.add_number.new.out.items in
    let o2 = c.add_number-2.new.out.items in
    let o3 = c.extend_from_slice.new.self.items in
    let p1 = codes "<svg xmlns=\"http://www.w3.org/2000/svg\" viewBox=\"0 0 1000 " in
    let p2 = decimal c.args.height in
    let from_2 = join o0 (o0 ++ p1) o1 (p1) p2 refl c.in_ok-add_number.ensures in
    let p3 = codes "\" font-family=\"monospace\" font-size=\"12\" fill=\"#222\">\n<title>Report of a run</title>\n<rect width=\"1000\" height=\"" in
    let from_3 = join o0 o1 (o1 ++ p3) (p1 ++ p2) p3 from_2 refl in
    let p4 = decimal c.args.height in
    let from_4 = join o0 (o1 ++ p3) o2 (p1 ++ p2 ++ p3) p4 from_3 c.in_ok-add_number-2.ensures in
    let p5 = codes "\" fill=\"#fff\"/>\n" in
    join_last o0 o2 o3 (p1 ++ p2 ++ p3 ++ p4) p5 c.extend_from_slice.result from_4 c.extend_from_slice.ensures.items
