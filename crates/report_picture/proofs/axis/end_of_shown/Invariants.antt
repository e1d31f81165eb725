use Rattle.std.proofs.Common.{◌≡◌, drop, max}
use Rattle.report_picture.specs.Axis.{end_of_shown}
use Rattle.report_picture.proofs.axis.end_of_shown.Given as goal

-- the end so far, and that of the histograms that are left, give that of all
abbrev pub invariant-loop-part : goal.invariant-loop-part
invariant-loop-part l = max l.end (end_of_shown (drop l.part-index l.parts)) ≡ end_of_shown l.parts
