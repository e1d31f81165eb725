-- When a count of faults has risen, and what that says of a result.
use Rattle.std.specs.Prelude.{ℕ, ◌+◌, ◌-◌, ◌^◌, ◌≤◌, min, Result, OnErr}

-- A count after one more, which stops at its type's end.
abbrev pub count_up : ℕ → ℕ
count_up n = min (n + 1) (2 ^ 64 - 1)

-- A count has risen, or stands at its type's end.
abbrev pub Rose : ℕ → ℕ → Type 0
Rose before now = count_up before ≤ now

-- The count has not fallen, and an `Err` comes only where it rose.
pub record HasCause {T E : Type 0} (before now : ℕ) (result : Result T E) : Type 0 where
  pub later : before ≤ now
  pub failed : OnErr result (Rose before now)
