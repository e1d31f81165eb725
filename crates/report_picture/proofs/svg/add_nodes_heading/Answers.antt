use Rattle.std.proofs.Common.{refl, ◌++◌}
use Rattle.std.specs.Fmt.{decimal}
use Rattle.std.specs.Prelude.{codes}
use Rattle.report_picture.specs.Svg.{nodes_heading}
use Rattle.report_picture.proofs.Joins.{join, join_last}
use Rattle.report_picture.proofs.svg.add_nodes_heading.Goals as goal

pub returns : goal.returns
unfolding nodes_heading
returns c =
    let o0 = c.args.out.now.items in
    let o1 = c.add_number.new.out.items in
    let o2 = c.extend_from_slice.new.self.items in
    let p1 = codes "<text x=\"20\" y=\"18\" fill=\"#555\">what was true, of " in
    let p2 = decimal c.args.count in
    let from_2 = join o0 (o0 ++ p1) o1 (p1) p2 refl c.in_ok-add_number.ensures in
    let p3 = codes " nodes of the search</text>\n" in
    join_last o0 o1 o2 (p1 ++ p2) p3 c.extend_from_slice.result from_2 c.extend_from_slice.ensures.items
