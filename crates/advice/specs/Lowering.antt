-- For proofs alone: what one more true verdict does to a threshold.
use Rattle.std.specs.Prelude.{ℕ, if◌then◌else◌, min, bytes_eq, Option, Some, None, List}
use Rattle.advice.specs.Advice.{rate}
use Rattle.advice.specs.declared.verdict.Verdict.{Verdict}

-- the least of a number and of another, if there is one
abbrev pub least_with : ℕ → Option ℕ → ℕ
least_with n None = n
least_with n (Some before) = min before n

-- the threshold of this name after a true verdict
abbrev pub lowered : Verdict → List ℕ → Option ℕ → Option ℕ
lowered v name before = if bytes_eq name v.hypothesis then Some (least_with (rate v) before) else before
