use Rattle.fold_hist.proofs.Pushes.{bin_at}
use Rattle.fold_hist.proofs.laws.each_bin.Goals as goal

pub returns : goal.returns
returns c = bin_at
