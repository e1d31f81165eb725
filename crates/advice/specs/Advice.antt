-- What verdicts advise for each hypothesis.
use Rattle.std.specs.Prelude.{ℕ, ◌≡◌, ◌<◌, ◌*◌, ◌/◌, ◌&&◌, if◌then◌else◌, min, is_some, bytes_eq, Bool, true, Option, List, [], ◌∷◌, ◌++◌, filter, map}
use Rattle.std.specs.List.{reduce}
use Rattle.first_places.specs.Places.{first_place}
use Rattle.advice.specs.declared.hypothesis.Hypothesis.{Hypothesis}
use Rattle.advice.specs.declared.verdict.Verdict.{Verdict}

-- a true verdict is of some ticks
abbrev pub HasTicks : Verdict → Type 0
HasTicks v = v.holds ≡ true → 0 < v.ticks

-- the greatest threshold that there is
abbrev pub most_threshold : ℕ
most_threshold = 2147483647

-- the greatest threshold at which a true verdict is true: the value per 1,000 ticks, rounded down, and at most the greatest that there is
abbrev pub rate : Verdict → ℕ
rate v = min (v.value * 1000 / v.ticks) most_threshold

-- a true verdict on the hypothesis of this name
abbrev pub is_true_of : List ℕ → Verdict → Bool
is_true_of name v = v.holds && bytes_eq name v.hypothesis

-- the least rate of the hypothesis's true verdicts, if it has any
abbrev pub threshold_of : List Verdict → List ℕ → Option ℕ
threshold_of vs name = reduce min (map rate (filter (is_true_of name) vs))

-- the names of the hypotheses in the order of their first mention, but for those that were mentioned before
abbrev pub names_behind : List (List ℕ) → List Verdict → List (List ℕ)
names_behind before [] = []
names_behind before (v ∷ vs) =
    if is_some (first_place v.hypothesis before) then names_behind (before ++ v.hypothesis ∷ []) vs
    else v.hypothesis ∷ names_behind (before ++ v.hypothesis ∷ []) vs

-- a hypothesis with what these verdicts advise for it
abbrev pub hypothesis_of : List Verdict → List ℕ → Hypothesis
hypothesis_of vs name = record { name = name; threshold = threshold_of vs name }

-- each hypothesis once
abbrev pub hypotheses_of : List Verdict → List Hypothesis
hypotheses_of vs = map (hypothesis_of vs) (names_behind [] vs)
