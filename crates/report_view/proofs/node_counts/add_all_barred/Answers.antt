use Rattle.std.proofs.Common.{◌++◌}
use Rattle.std.specs.Prelude.{codes}
use Rattle.report_view.specs.Searches.{barred_line, barred_lines}
use Rattle.report_view.proofs.Joins.{join}
use Rattle.report_view.proofs.node_counts.add_all_barred.Goals as goal

pub returns : goal.returns
unfolding barred_lines
returns c =
    let parts = c.args.parts.now in
    let old = c.args.out.now.items in
    let o1 = c.add_barred.new.out.items in
    let o2 = c.add_barred-2.new.out.items in
    let o3 = c.add_barred-3.new.out.items in
    let o4 = c.add_barred-4.new.out.items in
    let o5 = c.add_barred-5.new.out.items in
    let o6 = c.add_barred-6.new.out.items in
    let o7 = c.add_barred-7.new.out.items in
    let a = barred_line parts 0 (codes "the metric can't be confined so") in
    let b = barred_line parts 1 (codes "too many places to instrument") in
    let d = barred_line parts 2 (codes "too many statements at one place") in
    let e = barred_line parts 3 (codes "the cost alone is above the limit") in
    let f = barred_line parts 4 (codes "no room for variables") in
    let g = barred_line parts 5 (codes "no room for instruments") in
    let h = barred_line parts 6 (codes "a word there can't be moved") in
    join old o6 o7 (((((a ++ b) ++ d) ++ e) ++ f) ++ g) h
    (join old o5 o6 ((((a ++ b) ++ d) ++ e) ++ f) g
    (join old o4 o5 (((a ++ b) ++ d) ++ e) f
    (join old o3 o4 ((a ++ b) ++ d) e
    (join old o2 o3 (a ++ b) d
    (join old o1 o2 a b c.in_ok-add_barred.ensures c.in_ok-add_barred-2.ensures)
    c.in_ok-add_barred-3.ensures) c.in_ok-add_barred-4.ensures) c.in_ok-add_barred-5.ensures) c.in_ok-add_barred-6.ensures) c.in_ok-add_barred-7.ensures
