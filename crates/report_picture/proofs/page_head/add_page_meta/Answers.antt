use Rattle.std.specs.Prelude.{codes}
use Rattle.report_picture.specs.Html.{page_meta}
use Rattle.report_picture.proofs.Joins.{join_last}
use Rattle.report_picture.proofs.page_head.add_page_meta.Goals as goal

pub returns : goal.returns
unfolding page_meta
returns c =
    let o0 = c.args.out.now.items in
    let o1 = c.extend_from_slice.new.self.items in
    let o2 = c.extend_from_slice-2.new.self.items in
    let p1 = codes "<!DOCTYPE html>\n<html lang=\"en\">\n<head>\n<meta charset=\"utf-8\">\n" in
    let p2 = codes "<meta name=\"viewport\" content=\"width=device-width, initial-scale=1\">\n<title>Report of a run</title>\n" in
    join_last o0 o1 o2 (p1) p2 c.extend_from_slice-2.result c.in_ok-extend_from_slice.ensures.items c.extend_from_slice-2.ensures.items
