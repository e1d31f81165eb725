use Rattle.std.proofs.Common.{ap, ◌++◌}
use Rattle.std.specs.Prelude.{codes}
use Rattle.report_picture.specs.Html.{hart_table, page, page_head, search_of, time_lines_part}
use Rattle.report_picture.proofs.Joins.{join, join_last, named}
use Rattle.report_picture.proofs.html.add_page.Goals as goal

pub returns : goal.returns
unfolding page
returns c =
    let o0 = c.args.out.now.items in
    let o1 = c.add_page_head.new.out.items in
    let o2 = c.add_hart_table.new.out.items in
    let o3 = c.add_lines_part.new.out.items in
    let o4 = c.add_some_search.new.out.items in
    let o5 = c.extend_from_slice.new.self.items in
    let p1 = page_head in
    let p2 = hart_table c.args.parts.now.harts in
    let from_2 = join o0 o1 o2 (p1) p2 c.in_ok-add_page_head.ensures (named o1 o2 (hart_table c.as_slice.result.now) p2 c.in_ok-add_hart_table.ensures (ap (λ h. hart_table h) c.as_slice.ensures)) in
    let p3 = time_lines_part c.args.parts.now.shown in
    let from_3 = join o0 o2 o3 (p1 ++ p2) p3 from_2 (named o2 o3 (time_lines_part c.as_slice-2.result.now) p3 c.in_ok-add_lines_part.ensures (ap (λ h. time_lines_part h) c.as_slice-2.ensures)) in
    let p4 = search_of c.args.parts.now.search c.args.lines.now in
    let from_4 = join o0 o3 o4 (p1 ++ p2 ++ p3) p4 from_3 c.in_ok-add_some_search.ensures in
    let p5 = codes "</body>\n</html>\n" in
    join_last o0 o4 o5 (p1 ++ p2 ++ p3 ++ p4) p5 c.extend_from_slice.result from_4 c.extend_from_slice.ensures.items
