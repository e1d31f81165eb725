use Rattle.std.proofs.Common.{refl, ◌*◌, ◌++◌, ◌+◌}
use Rattle.std.specs.Fmt.{decimal}
use Rattle.std.specs.Prelude.{codes}
use Rattle.report_picture.specs.Escapes.{clipped, escaped, escaped_pair}
use Rattle.report_picture.specs.Labels.{node_name, node_window}
use Rattle.report_picture.specs.Svg.{node_row}
use Rattle.report_view.specs.Searches.{percent}
use Rattle.report_picture.proofs.Joins.{join, join_last}
use Rattle.report_picture.proofs.svg.add_node.Goals as goal

pub returns : goal.returns
unfolding node_row
returns c =
    let o0 = c.args.out.now.items in
    let o1 = c.add_number.new.out.items in
    let o2 = c.extend_from_slice.new.self.items in
    let o3 = c.add_title.new.out.items in
    let o4 = c.extend_from_slice-2.new.self.items in
    let o5 = c.add_share.new.out.items in
    let o6 = c.add_number-2.new.out.items in
    let o7 = c.extend_from_slice-3.new.self.items in
    let o8 = c.add_clipped_name.new.out.items in
    let o9 = c.add_node_window.new.out.items in
    let o10 = c.extend_from_slice-4.new.self.items in
    let p1 = codes "<g transform=\"translate(20 " in
    let p2 = decimal (c.args.place * 18 + 40) in
    let from_2 = join o0 (o0 ++ p1) o1 (p1) p2 refl c.in_ok-add_number.ensures in
    let p3 = codes ")\"><title>" in
    let from_3 = join o0 o1 o2 (p1 ++ p2) p3 from_2 c.in_ok-extend_from_slice.ensures.items in
    let p4 = escaped_pair c.args.part.now.hypothesis c.args.part.now.focus in
    let from_4 = join o0 o2 o3 (p1 ++ p2 ++ p3) p4 from_3 c.in_ok-add_title.ensures in
    let p5 = codes "</title>\n<text x=\"50\" text-anchor=\"end\">" in
    let from_5 = join o0 o3 o4 (p1 ++ p2 ++ p3 ++ p4) p5 from_4 c.in_ok-extend_from_slice-2.ensures.items in
    let p6 = percent c.args.part.now.node.value c.args.part.now.node.ticks in
    let from_6 = join o0 o4 o5 (p1 ++ p2 ++ p3 ++ p4 ++ p5) p6 from_5 c.in_ok-add_share.ensures in
    let p7 = codes "</text>\n<text x=\"" in
    let from_7 = join o0 o5 (o5 ++ p7) (p1 ++ p2 ++ p3 ++ p4 ++ p5 ++ p6) p7 from_6 refl in
    let p8 = decimal (c.args.depth * 12 + 62) in
    let from_8 = join o0 (o5 ++ p7) o6 (p1 ++ p2 ++ p3 ++ p4 ++ p5 ++ p6 ++ p7) p8 from_7 c.in_ok-add_number-2.ensures in
    let p9 = codes "\">" in
    let from_9 = join o0 o6 o7 (p1 ++ p2 ++ p3 ++ p4 ++ p5 ++ p6 ++ p7 ++ p8) p9 from_8 c.in_ok-extend_from_slice-3.ensures.items in
    let p10 = escaped (clipped (node_name c.args.depth c.args.part.now)) in
    let from_10 = join o0 o7 o8 (p1 ++ p2 ++ p3 ++ p4 ++ p5 ++ p6 ++ p7 ++ p8 ++ p9) p10 from_9 c.in_ok-add_clipped_name.ensures in
    let p11 = node_window c.args.part.now in
    let from_11 = join o0 o8 o9 (p1 ++ p2 ++ p3 ++ p4 ++ p5 ++ p6 ++ p7 ++ p8 ++ p9 ++ p10) p11 from_10 c.in_ok-add_node_window.ensures in
    let p12 = codes "</text></g>\n" in
    join_last o0 o9 o10 (p1 ++ p2 ++ p3 ++ p4 ++ p5 ++ p6 ++ p7 ++ p8 ++ p9 ++ p10 ++ p11) p12 c.extend_from_slice-4.result from_11 c.extend_from_slice-4.ensures.items
