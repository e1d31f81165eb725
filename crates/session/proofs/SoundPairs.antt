-- What is known of each pair goes on holding.
use Rattle.std.proofs.Common.{◌≡◌, ℕ, suc, ◌+◌, ◌≤◌, List, [], ◌∷◌, ◌++◌, Option, Some, None, refl, sym, ap, subst, arith, length}
use Rattle.std.specs.Prelude.{Bool, true, false, cond, IfSome, is_none, map}
use Rattle.std.specs.List.{AllByRecursion}
use Rattle.std.specs.Option.{option_map}
use Rattle.fold_hist.specs.Bins.{Histogram, hist_of}
use Rattle.fold_hist.specs.Steps.{pushed}
use Rattle.machine.specs.Measures.{difference}
use Rattle.instrumented.specs.Instrumented.{Instrumented}
use Rattle.session_spec.specs.Inputs.{Inputs}
use Rattle.session_spec.specs.Due.{is_armed, is_ready, machine_armed}
use Rattle.session_spec.specs.Tests.{words_of}
use Rattle.session_pairs.specs.declared.pair.SampledPair.{SampledPair}
use Rattle.session_pairs.specs.SampledPairs.{pair_armed, pair_reading, pair_sampled, pairs_armed}
use Rattle.session_pairs.proofs.Sampled.{armed_pair}
use Rattle.session.specs.Kept.{IsSoundPair}
use Rattle.session.specs.Tables.{IsMore, IsNew}
use Rattle.session.proofs.Simulated.{IsOf}

pub all_of : (i : Inputs) (n : ℕ) (pairs : List SampledPair) → AllByRecursion (IsSoundPair i n) pairs → AllByRecursion (IsOf i) pairs
all_of i n [] a = tt
all_of i n (k ∷ pairs) a = (record { harts = (a.0).harts }, all_of i n pairs a.1)

one_sampled : (i : Inputs) (n : ℕ) (m : Instrumented) (time : ℕ) (k : SampledPair) → IsSoundPair i n k → IsSoundPair i (n + 1) (pair_sampled m time k)
unfolding pair_sampled pushed words_of
one_sampled i n m time k s = by (is_armed m.placer k.shown)
  where
    by : (b : Bool) → IsSoundPair i (n + 1) (cond b (armed_pair m time k) k)
    by true = record { harts = s.harts; within = s.within; few = counted k.hist s.few; cost = s.cost }
      where
        counted : (o : Option Histogram) → IfSome o (λ h. h.count ≤ n)
            → IfSome (option_map (λ (h : Histogram). pushed h (record { from = k.shown.from; to = time; sum = difference k.last (pair_reading m k) })) o) (λ h. h.count ≤ n + 1)
        counted None l = tt
        counted (Some h) l = omega arith
    by false = record { harts = s.harts; within = s.within; few = no_less k.hist s.few; cost = s.cost }
      where
        no_less : (o : Option Histogram) → IfSome o (λ h. h.count ≤ n) → IfSome o (λ h. h.count ≤ n + 1)
        no_less None l = tt
        no_less (Some h) l = omega arith

pub all_sampled : (i : Inputs) (n : ℕ) (m : Instrumented) (time : ℕ) (pairs : List SampledPair) → AllByRecursion (IsSoundPair i n) pairs → AllByRecursion (IsSoundPair i (n + 1)) (map (pair_sampled m time) pairs)
all_sampled i n m time [] a = tt
all_sampled i n m time (k ∷ pairs) a = (one_sampled i n m time k a.0, all_sampled i n m time pairs a.1)

one_armed : (i : Inputs) (n : ℕ) (m : Instrumented) (time : ℕ) (k : SampledPair) → IsSoundPair i n k → IsSoundPair i n (pair_armed time m k)
unfolding pair_armed words_of
one_armed i n m time k s = by (is_ready m k.shown)
  where
    by : (b : Bool) → IsSoundPair i n (cond b (record k { shown = record k.shown { armed = Some time; from = time }; last = pair_reading (machine_armed m k.shown) k }) k)
    by true = record { harts = s.harts; within = s.within; few = s.few; cost = s.cost }
    by false = s

pub all_armed : (i : Inputs) (n : ℕ) (m : Instrumented) (time : ℕ) (pairs : List SampledPair) → AllByRecursion (IsSoundPair i n) pairs → AllByRecursion (IsSoundPair i n) (pairs_armed time m pairs)
all_armed i n m time [] a = tt
all_armed i n m time (k ∷ pairs) a = (one_armed i n m time k a.0, all_armed i n (machine_armed m k.shown) time pairs a.1)

pub armed_many : (m : Instrumented) (time : ℕ) (pairs : List SampledPair) → length (pairs_armed time m pairs) ≡ length pairs
armed_many m time [] = refl
armed_many m time (k ∷ pairs) = ap suc (armed_many (machine_armed m k.shown) time pairs)

-- those that are new, and the others
all_new : (i : Inputs) (n : ℕ) (more : List SampledPair) → AllByRecursion (IsNew i) more → AllByRecursion (IsSoundPair i n) more
all_new i n [] a = tt
all_new i n (k ∷ more) a =
    (record { harts = (a.0).harts; within = (a.0).within; few = subst (λ (o : Option Histogram). IfSome o (λ h. h.count ≤ n)) (sym (a.0).hist) (none (is_none k.shown.node)); cost = ((a.0).cost, (a.0).low) }, all_new i n more a.1)
  where
    none : (b : Bool) → IfSome (cond b (Some (hist_of i.settings.bins [])) None) (λ h. h.count ≤ n)
    none true = omega arith
    none false = tt

both : (i : Inputs) (n : ℕ) (old more : List SampledPair) → AllByRecursion (IsSoundPair i n) old → AllByRecursion (IsSoundPair i n) more → AllByRecursion (IsSoundPair i n) (old ++ more)
both i n [] more a b = b
both i n (k ∷ old) more a b = (a.0, both i n old more a.1 b)

pub more_sound : (i : Inputs) (n : ℕ) (old new : List SampledPair) → AllByRecursion (IsSoundPair i n) old → IsMore i old new → AllByRecursion (IsSoundPair i n) new
more_sound i n old new a m = subst (AllByRecursion (IsSoundPair i n)) (sym m.is) (both i n old m.more a (all_new i n m.more m.each))
