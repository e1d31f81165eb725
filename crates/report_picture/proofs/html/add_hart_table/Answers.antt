use Rattle.std.proofs.Common.{◌++◌}
use Rattle.std.specs.Prelude.{codes}
use Rattle.report_picture.specs.Html.{hart_table, hart_table_rows}
use Rattle.report_picture.proofs.Joins.{join, join_last}
use Rattle.report_picture.proofs.html.add_hart_table.Goals as goal

pub returns : goal.returns
unfolding hart_table
returns c =
    let o0 = c.args.out.now.items in
    let o1 = c.extend_from_slice.new.self.items in
    let o2 = c.add_harts.new.out.items in
    let o3 = c.extend_from_slice-2.new.self.items in
    let p1 = codes "<h2>Harts</h2>\n<table>\n<tr><th>hart</th><th>ticks</th><th>end</th><th>at</th></tr>\n" in
    let p2 = hart_table_rows 0 c.args.parts.now in
    let from_2 = join o0 o1 o2 (p1) p2 c.in_ok-extend_from_slice.ensures.items c.in_ok-add_harts.ensures in
    let p3 = codes "</table>\n" in
    join_last o0 o2 o3 (p1 ++ p2) p3 c.extend_from_slice-2.result from_2 c.extend_from_slice-2.ensures.items
