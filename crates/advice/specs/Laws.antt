-- That advised thresholds keep the results of the test.
use Rattle.std.specs.Prelude.{ℕ, ◌≡◌, ◌≤◌, Some, List}
use Rattle.std.specs.List.{All}
use Rattle.w3_search.specs.Testing.{holds}
use Rattle.advice.specs.Advice.{most_threshold, threshold_of}
use Rattle.advice.specs.declared.verdict.Verdict.{Verdict}

-- the verdict is the result of the test at a threshold
abbrev pub IsAnswerAt : ℕ → Verdict → Type 0
IsAnswerAt threshold v = v.holds ≡ holds v.value v.ticks threshold

-- Where verdicts are the results of the test at thresholds that the names have, those on a hypothesis for which a threshold
-- is advised are the results at that threshold too.
abbrev pub AnswersStay : Type 0
AnswersStay =
    (vs : List Verdict) (given : List ℕ → ℕ) → ((name : List ℕ) → given name ≤ most_threshold)
    → All (λ v. IsAnswerAt (given v.hypothesis) v) vs
    → (n : ℕ) → All (λ v. threshold_of vs v.hypothesis ≡ Some n → IsAnswerAt n v) vs
