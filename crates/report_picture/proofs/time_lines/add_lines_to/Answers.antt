use Rattle.std.proofs.Common.{ap, ◌++◌}
use Rattle.std.specs.Prelude.{codes}
use Rattle.report_picture.specs.Axis.{marks}
use Rattle.report_picture.specs.TimeLines.{lines_to, time_lines_from, time_lines_height}
use Rattle.report_picture.proofs.Joins.{join, join_ok, named}
use Rattle.report_picture.proofs.time_lines.add_lines_to.Goals as goal

pub returns : goal.returns
unfolding lines_to
returns c =
    let o0 = c.args.out.now.items in
    let o1 = c.extend_from_slice.new.self.items in
    let o2 = c.add_marks.new.out.items in
    let o3 = c.add_rows.new.out.items in
    let p1 = codes "<text x=\"20\" y=\"14\" fill=\"#555\">time in ticks</text>\n" in
    let p2 = marks (time_lines_height c.args.parts.now) c.args.end in
    let from_2 = join o0 o1 o2 (p1) p2 c.in_ok-extend_from_slice.ensures.items (named o1 o2 (marks c.time_lines_height.result c.args.end) p2 c.in_ok-add_marks.ensures (ap (λ h. marks h c.args.end) c.time_lines_height.ensures)) in
    let p3 = time_lines_from c.args.end 0 c.args.parts.now in
    join_ok o0 o2 o3 (p1 ++ p2) p3 c.add_rows.result from_2 c.add_rows.ensures
