use Rattle.std.proofs.Common.{subst}
use Rattle.fold_hist.specs.Bins.{Histogram, IsWidth}
use Rattle.fold_hist.proofs.Pushes.{least}
use Rattle.fold_hist.proofs.hist.Hist.width.Goals as goal

pub returns-clause-least : goal.returns-clause-least
returns-clause-least c =
    let s = c.self.inside in
    let h : Histogram = record { most = s.most; count = s.count; width = s.bins.width; bins = s.bins.list.items } in
    let w = least h c.self.invariant.1 in
    subst (λ (k : Histogram). IsWidth k.most k.count s.bins.width) c.self.view_is w
