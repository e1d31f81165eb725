-- What the steps keep of the pairs.
use Rattle.std.proofs.Common.{ℕ, List, [], ◌∷◌}
use Rattle.std.specs.Prelude.{Bool, true, false, cond, map}
use Rattle.std.specs.List.{AllByRecursion}
use Rattle.instrumented.specs.Instrumented.{Instrumented}
use Rattle.session_spec.specs.Due.{is_armed}
use Rattle.session_pairs.specs.declared.pair.SampledPair.{SampledPair}
use Rattle.session_pairs.specs.SampledPairs.{HasHarts, pair_sampled}
use Rattle.session_pairs.proofs.Sampled.{armed_pair}

one_has : (n : ℕ) (m : Instrumented) (time : ℕ) (k : SampledPair) → HasHarts n k → HasHarts n (pair_sampled m time k)
unfolding pair_sampled
one_has n m time k h = by (is_armed m.placer k.shown)
  where
    by : (b : Bool) → HasHarts n (cond b (armed_pair m time k) k)
    by true = h
    by false = h

pub harts_sampled : (n : ℕ) (m : Instrumented) (time : ℕ) (pairs : List SampledPair) → AllByRecursion (HasHarts n) pairs → AllByRecursion (HasHarts n) (map (pair_sampled m time) pairs)
harts_sampled n m time [] a = tt
harts_sampled n m time (k ∷ pairs) a = (one_has n m time k a.0, harts_sampled n m time pairs a.1)
