use Rattle.std.proofs.Common.{◌≡◌, ◌*◌, ◌++◌, length, take, drop, vec_capacity}
use Rattle.fold_hist.specs.Steps.{paired}
use Rattle.fold_hist.proofs.bins.fold.Given as goal

-- the pairs so far, and those of what is left, are all pairs
abbrev pub invariant-loop-i : goal.invariant-loop-i
invariant-loop-i l = record {
  len : length l.bins.items ≡ length l.initial.bins.items;
  capacity : vec_capacity l.bins ≡ vec_capacity l.initial.bins;
  pairs : take l.i l.bins.items ++ paired (drop (2 * l.i) l.bins.items) ≡ paired l.initial.bins.items;
}
