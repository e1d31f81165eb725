use Rattle.std.proofs.Common.{refl, ◌*◌, ◌++◌, ◌+◌}
use Rattle.std.specs.Fmt.{decimal}
use Rattle.std.specs.Prelude.{codes}
use Rattle.report_picture.specs.Escapes.{clipped, escaped}
use Rattle.report_picture.specs.Svg.{phase_row}
use Rattle.report_picture.proofs.Joins.{join, join_last}
use Rattle.report_picture.proofs.svg.add_phase.Goals as goal

pub returns : goal.returns
unfolding phase_row
returns c =
    let o0 = c.args.out.now.items in
    let o1 = c.add_number.new.out.items in
    let o2 = c.extend_from_slice.new.self.items in
    let o3 = c.add_phase_name.new.out.items in
    let o4 = c.extend_from_slice-2.new.self.items in
    let p1 = codes "<text x=\"20\" y=\"" in
    let p2 = decimal (c.args.place * 18 + 40) in
    let from_2 = join o0 (o0 ++ p1) o1 (p1) p2 refl c.in_ok-add_number.ensures in
    let p3 = codes "\" font-weight=\"bold\">phase " in
    let from_3 = join o0 o1 o2 (p1 ++ p2) p3 from_2 c.in_ok-extend_from_slice.ensures.items in
    let p4 = escaped (clipped c.args.part.now.phase) in
    let from_4 = join o0 o2 o3 (p1 ++ p2 ++ p3) p4 from_3 c.in_ok-add_phase_name.ensures in
    let p5 = codes "</text>\n" in
    join_last o0 o3 o4 (p1 ++ p2 ++ p3 ++ p4) p5 c.extend_from_slice-2.result from_4 c.extend_from_slice-2.ensures.items
