-- For proofs alone: sums of readings, modulo 2^64.
use Rattle.std.specs.Prelude.{ℕ, zero, suc, ◌+◌, ◌%◌, ◌^◌, List, slice_index}

-- of a number of harts from one on
abbrev pub sum_from : List ℕ → ℕ → ℕ → ℕ
sum_from readings first zero = 0
sum_from readings first (suc count) = (slice_index readings first + sum_from readings (first + 1) count) % 2 ^ 64
