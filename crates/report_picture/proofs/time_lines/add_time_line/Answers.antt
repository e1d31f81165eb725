use Rattle.std.proofs.Common.{refl, ◌*◌, ◌++◌, ◌+◌}
use Rattle.std.specs.Fmt.{decimal}
use Rattle.std.specs.Prelude.{codes}
use Rattle.report_picture.specs.Escapes.{clipped, escaped, escaped_pair}
use Rattle.report_picture.specs.Labels.{histogram_name}
use Rattle.report_picture.specs.TimeLines.{line_or_none, time_line}
use Rattle.report_picture.proofs.Joins.{join, join_last}
use Rattle.report_picture.proofs.time_lines.add_time_line.Goals as goal

pub returns : goal.returns
unfolding time_line
returns c =
    let o0 = c.args.out.now.items in
    let o1 = c.add_number.new.out.items in
    let o2 = c.extend_from_slice.new.self.items in
    let o3 = c.add_title.new.out.items in
    let o4 = c.extend_from_slice-2.new.self.items in
    let o5 = c.add_name.new.out.items in
    let o6 = c.extend_from_slice-3.new.self.items in
    let o7 = c.add_line_or_none.new.out.items in
    let o8 = c.extend_from_slice-4.new.self.items in
    let p1 = codes "<g transform=\"translate(20 " in
    let p2 = decimal (c.args.number * 84 + 40) in
    let from_2 = join o0 (o0 ++ p1) o1 (p1) p2 refl c.in_ok-add_number.ensures in
    let p3 = codes ")\"><title>" in
    let from_3 = join o0 o1 o2 (p1 ++ p2) p3 from_2 c.in_ok-extend_from_slice.ensures.items in
    let p4 = escaped_pair c.args.part.now.metric c.args.part.now.focus in
    let from_4 = join o0 o2 o3 (p1 ++ p2 ++ p3) p4 from_3 c.in_ok-add_title.ensures in
    let p5 = codes "</title>\n<rect width=\"940\" height=\"80\" fill=\"none\" pointer-events=\"all\"/>\n<text y=\"14\" font-weight=\"bold\">" in
    let from_5 = join o0 o3 o4 (p1 ++ p2 ++ p3 ++ p4) p5 from_4 c.in_ok-extend_from_slice-2.ensures.items in
    let p6 = escaped (clipped (histogram_name c.args.part.now)) in
    let from_6 = join o0 o4 o5 (p1 ++ p2 ++ p3 ++ p4 ++ p5) p6 from_5 c.in_ok-add_name.ensures in
    let p7 = codes "</text>\n" in
    let from_7 = join o0 o5 o6 (p1 ++ p2 ++ p3 ++ p4 ++ p5 ++ p6) p7 from_6 c.in_ok-extend_from_slice-3.ensures.items in
    let p8 = line_or_none c.args.end c.args.part.now in
    let from_8 = join o0 o6 o7 (p1 ++ p2 ++ p3 ++ p4 ++ p5 ++ p6 ++ p7) p8 from_7 c.in_ok-add_line_or_none.ensures in
    let p9 = codes "</g>\n" in
    join_last o0 o7 o8 (p1 ++ p2 ++ p3 ++ p4 ++ p5 ++ p6 ++ p7 ++ p8) p9 c.extend_from_slice-4.result from_8 c.extend_from_slice-4.ensures.items
