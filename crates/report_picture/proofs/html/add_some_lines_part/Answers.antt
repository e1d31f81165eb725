use Rattle.std.proofs.Common.{ap, ◌++◌}
use Rattle.std.specs.Prelude.{codes}
use Rattle.report_picture.specs.Html.{some_lines_part}
use Rattle.report_picture.specs.Svg.{svg_head}
use Rattle.report_picture.specs.TimeLines.{time_lines, time_lines_height}
use Rattle.report_picture.proofs.Joins.{join, join_last, named}
use Rattle.report_picture.proofs.html.add_some_lines_part.Goals as goal

pub returns : goal.returns
unfolding some_lines_part
returns c =
    let o0 = c.args.out.now.items in
    let o1 = c.extend_from_slice.new.self.items in
    let o2 = c.add_svg_head.new.out.items in
    let o3 = c.add_time_lines.new.out.items in
    let o4 = c.extend_from_slice-2.new.self.items in
    let p1 = codes "<h2>Time lines</h2>\n<div>\n" in
    let p2 = svg_head (time_lines_height c.args.parts.now) in
    let from_2 = join o0 o1 o2 (p1) p2 c.in_ok-extend_from_slice.ensures.items (named o1 o2 (svg_head c.time_lines_height.result) p2 c.in_ok-add_svg_head.ensures (ap (λ h. svg_head h) c.time_lines_height.ensures)) in
    let p3 = time_lines c.args.parts.now in
    let from_3 = join o0 o2 o3 (p1 ++ p2) p3 from_2 c.in_ok-add_time_lines.ensures in
    let p4 = codes "</svg>\n</div>\n" in
    join_last o0 o3 o4 (p1 ++ p2 ++ p3) p4 c.extend_from_slice-2.result from_3 c.extend_from_slice-2.ensures.items
