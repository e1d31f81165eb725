use Rattle.std.proofs.Common.{◌≡◌, drop, max}
use Rattle.report_picture.specs.Axis.{end_of_bins}
use Rattle.report_picture.proofs.axis.end_of_bins.Given as goal

-- the end so far, and that of the bins that are left, give that of all
abbrev pub invariant-loop-bin : goal.invariant-loop-bin
invariant-loop-bin l = max l.end (end_of_bins (drop l.bin-index l.bins)) ≡ end_of_bins l.bins
