-- What is shown stays the same but for the times of its arming and its last sample.
use Rattle.std.proofs.Common.{◌≡◌, ℕ, ◌+◌, ◌<◌, ◌≤◌, List, [], ◌∷◌, ◌++◌, Some, refl, ap, ◌∙◌, arith}
use Rattle.std.specs.Prelude.{Bool, true, false, cond, map}
use Rattle.instrument.specs.Placements.{Placements}
use Rattle.instrumented.specs.Instrumented.{Instrumented}
use Rattle.session_spec.specs.declared.data.MetricFocusPair.{MetricFocusPair}
use Rattle.session_spec.specs.Inputs.{Inputs}
use Rattle.session_spec.specs.Tests.{counts, in_force, words_of}
use Rattle.session_spec.specs.Due.{all_armed, is_armed, is_ready, machine_armed, sampled_to}
use Rattle.session_spec.specs.Rosters.{AreBelow}

abbrev pub IsLike : MetricFocusPair → MetricFocusPair → Type 0
IsLike s t = t ≡ record s { armed = t.armed; from = t.from }

abbrev pub AreLike : List MetricFocusPair → List MetricFocusPair → Type 0
AreLike [] [] = Unit {0}
AreLike [] (t ∷ ts) = ⊥
AreLike (s ∷ ss) [] = ⊥
AreLike (s ∷ ss) (t ∷ ts) = IsLike s t × AreLike ss ts

pub like_itself : (ss : List MetricFocusPair) → AreLike ss ss
like_itself [] = tt
like_itself (s ∷ ss) = (refl, like_itself ss)

pub like_on : (ss ts us : List MetricFocusPair) → AreLike ss ts → AreLike ts us → AreLike ss us
like_on [] [] [] a b = tt
like_on [] [] (u ∷ us) a b = absurd b
like_on [] (t ∷ ts) us a b = absurd a
like_on (s ∷ ss) [] us a b = absurd a
like_on (s ∷ ss) (t ∷ ts) [] a b = absurd b
like_on (s ∷ ss) (t ∷ ts) (u ∷ us) a b = (b.0 ∙ ap (λ (x : MetricFocusPair). record x { armed = u.armed; from = u.from }) a.0, like_on ss ts us a.1 b.1)

pub like_sampled : (p : Placements) (time : ℕ) (ss : List MetricFocusPair) → AreLike ss (map (sampled_to p time) ss)
like_sampled p time [] = tt
like_sampled p time (s ∷ ss) = (by (is_armed p s), like_sampled p time ss)
  where
    by : (b : Bool) → IsLike s (cond b (record s { from = time }) s)
    by true = refl
    by false = refl

pub like_armed : (time : ℕ) (m : Instrumented) (ss : List MetricFocusPair) → AreLike ss (all_armed time m ss)
like_armed time m [] = tt
like_armed time m (s ∷ ss) = (by (is_ready m s), like_armed time (machine_armed m s) ss)
  where
    by : (b : Bool) → IsLike s (cond b (record s { armed = Some time; from = time }) s)
    by true = refl
    by false = refl

-- ---- numbers that were given

pub below_more : (m n : ℕ) (ss : List MetricFocusPair) → m ≤ n → AreBelow m ss → AreBelow n ss
below_more m n [] l b = tt
below_more m n (s ∷ ss) l b = (omega (arith, b.0), below_more m n ss l b.1)

pub below_push : (n : ℕ) (ss : List MetricFocusPair) (s : MetricFocusPair) → AreBelow n ss → s.instrument.n < n → AreBelow n (ss ++ s ∷ [])
below_push n [] s b l = (l, tt)
below_push n (t ∷ ss) s b l = (b.0, below_push n ss s b.1 l)

pub below_like : (n : ℕ) (ss ts : List MetricFocusPair) → AreLike ss ts → AreBelow n ss → AreBelow n ts
below_like n [] [] a b = tt
below_like n [] (t ∷ ts) a b = absurd a
below_like n (s ∷ ss) [] a b = absurd a
below_like n (s ∷ ss) (t ∷ ts) a b = (omega (arith, b.0, ap (λ (x : MetricFocusPair). x.instrument.n) a.0), below_like n ss ts a.1 b.1)

-- ---- costs

words_like : (i : Inputs) (s t : MetricFocusPair) → IsLike s t → words_of i t ≡ words_of i s
unfolding words_of
words_like i s t e = ap (words_of i) e

pub force_like : (i : Inputs) (p : Placements) (ss ts : List MetricFocusPair) → AreLike ss ts → in_force i p ts ≡ in_force i p ss
force_like i p [] [] a = refl
force_like i p [] (t ∷ ts) a = absurd a
force_like i p (s ∷ ss) [] a = absurd a
force_like i p (s ∷ ss) (t ∷ ts) a =
    ap (λ (b : Bool). cond b (words_of i t) 0 + in_force i p ts) (ap (counts p) a.0)
    ∙ (ap (λ n. cond (counts p s) n 0 + in_force i p ts) (words_like i s t a.0) ∙ ap (λ n. cond (counts p s) (words_of i s) 0 + n) (force_like i p ss ts a.1))
