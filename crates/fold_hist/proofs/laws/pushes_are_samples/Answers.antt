use Rattle.std.proofs.Common.{[]}
use Rattle.fold_hist.proofs.Pushes.{all_pushed}
use Rattle.fold_hist.proofs.laws.pushes_are_samples.Goals as goal

pub returns : goal.returns
returns c = λ most samples some fits. all_pushed most [] samples some fits
