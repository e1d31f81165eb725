use Rattle.std.proofs.Common.{◌≡◌, take}
use Rattle.fold_hist.specs.Bins.{hist_of}
use Rattle.report_picture.proofs.labels.joined.Given as goal

-- it is the histogram of the bins so far
abbrev pub invariant-loop-bin : goal.invariant-loop-bin
invariant-loop-bin l = l.hist ≡ hist_of 512 (take l.bin-index l.bins)
