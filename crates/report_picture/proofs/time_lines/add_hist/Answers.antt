use Rattle.std.proofs.Common.{ap, ◌++◌}
use Rattle.std.specs.Prelude.{codes}
use Rattle.report_picture.specs.Labels.{histogram_sums}
use Rattle.report_picture.specs.TimeLines.{hist_line, steps}
use Rattle.report_picture.proofs.Joins.{join, join_last, named}
use Rattle.report_picture.proofs.time_lines.add_hist.Goals as goal

pub returns : goal.returns
unfolding hist_line
returns c =
    let o0 = c.args.out.now.items in
    let o1 = c.extend_from_slice.new.self.items in
    let o2 = c.add_histogram_sums.new.out.items in
    let o3 = c.extend_from_slice-2.new.self.items in
    let o4 = c.add_steps.new.out.items in
    let o5 = c.extend_from_slice-3.new.self.items in
    let p1 = codes "<text y=\"28\" fill=\"#555\">" in
    let p2 = histogram_sums c.args.hist.now.width c.args.part.now in
    let from_2 = join o0 o1 o2 (p1) p2 c.in_ok-extend_from_slice.ensures.items (named o1 o2 (histogram_sums c.width.result c.args.part.now) p2 c.in_ok-add_histogram_sums.ensures (ap (λ w. histogram_sums w c.args.part.now) c.width.ensures.value)) in
    let p3 = codes "</text>\n<path transform=\"translate(0 34) scale(.1)\" fill=\"#2563a8\" d=\"" in
    let from_3 = join o0 o2 o3 (p1 ++ p2) p3 from_2 c.in_ok-extend_from_slice-2.ensures.items in
    let p4 = steps c.args.end c.args.hist.now.bins in
    let from_4 = join o0 o3 o4 (p1 ++ p2 ++ p3) p4 from_3 (named o3 o4 (steps c.args.end c.bins.result.now) p4 c.in_ok-add_steps.ensures (ap (λ bins. steps c.args.end bins) c.bins.ensures)) in
    let p5 = codes "\"/>\n<path d=\"M0 74.5H940\" stroke=\"#888\"/>\n" in
    join_last o0 o4 o5 (p1 ++ p2 ++ p3 ++ p4) p5 c.extend_from_slice-3.result from_4 c.extend_from_slice-3.ensures.items
