use Rattle.std.proofs.Common.{◌≡◌, ◌++◌, drop, flat_map}
use Rattle.report_picture.specs.Html.{html_line}
use Rattle.report_picture.proofs.html.add_lines.Given as goal

-- what is written, and the lines that are left, make all
abbrev pub invariant-loop-line : goal.invariant-loop-line
invariant-loop-line l = l.out.items ++ flat_map (html_line l.parts) (drop l.line-index l.lines) ≡ l.initial.out.items ++ flat_map (html_line l.parts) l.lines
