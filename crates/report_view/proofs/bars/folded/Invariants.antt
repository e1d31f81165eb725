use Rattle.std.proofs.Common.{◌≡◌, take}
use Rattle.fold_hist.specs.Bins.{hist_of}
use Rattle.report_view.proofs.bars.folded.Given as goal

-- it is the histogram of the bins so far
abbrev pub invariant-loop-bin : goal.invariant-loop-bin
invariant-loop-bin l = l.hist ≡ hist_of l.room (take l.bin-index l.bins)
