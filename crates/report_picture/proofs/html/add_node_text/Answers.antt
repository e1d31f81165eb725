use Rattle.std.proofs.Common.{◌++◌}
use Rattle.std.specs.Prelude.{codes}
use Rattle.report_picture.specs.Escapes.{escaped, escaped_pair}
use Rattle.report_picture.specs.Html.{node_text}
use Rattle.report_picture.specs.Labels.{node_name, node_window}
use Rattle.report_view.specs.Searches.{percent}
use Rattle.report_picture.proofs.Joins.{join, join_last}
use Rattle.report_picture.proofs.html.add_node_text.Goals as goal

pub returns : goal.returns
unfolding node_text
returns c =
    let o0 = c.args.out.now.items in
    let o1 = c.extend_from_slice.new.self.items in
    let o2 = c.add_title.new.out.items in
    let o3 = c.extend_from_slice-2.new.self.items in
    let o4 = c.add_share.new.out.items in
    let o5 = c.extend_from_slice-3.new.self.items in
    let o6 = c.add_name.new.out.items in
    let o7 = c.add_node_window.new.out.items in
    let o8 = c.extend_from_slice-4.new.self.items in
    let p1 = codes "<span title=\"" in
    let p2 = escaped_pair c.args.part.now.hypothesis c.args.part.now.focus in
    let from_2 = join o0 o1 o2 (p1) p2 c.in_ok-extend_from_slice.ensures.items c.in_ok-add_title.ensures in
    let p3 = codes "\">" in
    let from_3 = join o0 o2 o3 (p1 ++ p2) p3 from_2 c.in_ok-extend_from_slice-2.ensures.items in
    let p4 = percent c.args.part.now.node.value c.args.part.now.node.ticks in
    let from_4 = join o0 o3 o4 (p1 ++ p2 ++ p3) p4 from_3 c.in_ok-add_share.ensures in
    let p5 = codes " " in
    let from_5 = join o0 o4 o5 (p1 ++ p2 ++ p3 ++ p4) p5 from_4 c.in_ok-extend_from_slice-3.ensures.items in
    let p6 = escaped (node_name c.args.depth c.args.part.now) in
    let from_6 = join o0 o5 o6 (p1 ++ p2 ++ p3 ++ p4 ++ p5) p6 from_5 c.in_ok-add_name.ensures in
    let p7 = node_window c.args.part.now in
    let from_7 = join o0 o6 o7 (p1 ++ p2 ++ p3 ++ p4 ++ p5 ++ p6) p7 from_6 c.in_ok-add_node_window.ensures in
    let p8 = codes "</span>" in
    join_last o0 o7 o8 (p1 ++ p2 ++ p3 ++ p4 ++ p5 ++ p6 ++ p7) p8 c.extend_from_slice-4.result from_7 c.extend_from_slice-4.ensures.items
