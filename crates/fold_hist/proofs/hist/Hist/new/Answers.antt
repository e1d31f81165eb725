use Rattle.std.proofs.Common.{[], ap, arith}
use Rattle.fold_hist.specs.Bins.{width_of, bins_of}
use Rattle.fold_hist.proofs.hist.Hist.new.Goals as goal

pub invariant_of-result : goal.invariant_of-result
unfolding width_of bins_of
invariant_of-result c = (
  omega (arith, c.in_ok-with_capacity.ensures.exact),
  record {
    some = c.requires;
    samples = [];
    made = ap (λ bins. record { most = c.args.bins; count = 0; width = 1; bins = bins }) c.in_ok-with_capacity.ensures.items;
  },
)

pub returns : goal.returns
unfolding width_of bins_of
returns c = ap (λ bins. record { most = c.args.bins; count = 0; width = 1; bins = bins }) c.in_ok-with_capacity.ensures.items
