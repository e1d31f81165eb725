use Rattle.std.specs.Prelude.{codes}
use Rattle.report_picture.specs.Html.{page_style}
use Rattle.report_picture.proofs.Joins.{join_last}
use Rattle.report_picture.proofs.page_head.add_page_style.Goals as goal

pub returns : goal.returns
unfolding page_style
returns c =
    let o0 = c.args.out.now.items in
    let o1 = c.extend_from_slice.new.self.items in
    let o2 = c.extend_from_slice-2.new.self.items in
    let p1 = codes "<style>\nbody{max-width:1100px;margin:0 auto;padding:0 1em;font:14px/1.5 monospace;color:#222;background:#fff}\n" in
    let p2 = codes "h3{margin:1em 0 0}\np{margin:0 0 0 2em}\ndetails{margin-left:1em}\np,summary{overflow-wrap:anywhere}\n" in
    join_last o0 o1 o2 (p1) p2 c.extend_from_slice-2.result c.in_ok-extend_from_slice.ensures.items c.extend_from_slice-2.ensures.items
