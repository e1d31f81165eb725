use Rattle.std.proofs.Common.{◌≡◌, ◌++◌, drop, flat_map}
use Rattle.report.specs.ShownTexts.{refused_line}
use Rattle.report_view.proofs.histograms.add_all_refused.Given as goal

-- what is written, and the lines that are left, make all the lines
abbrev pub invariant-loop-part : goal.invariant-loop-part
invariant-loop-part l = l.out.items ++ flat_map refused_line (drop l.part-index l.parts) ≡ l.initial.out.items ++ flat_map refused_line l.parts
