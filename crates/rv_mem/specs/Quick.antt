-- For proofs alone: at which addresses an access needs one test alone.
use Rattle.std.specs.Prelude.{ℕ, ◌<◌, ◌≤◌, ◌+◌, ◌^◌}

-- an access of at most 8 bytes at one of `len` addresses, from `from` on, stays below `to` and in the bytes that are written from `at` on
pub record IsQuick (at written from to len : ℕ) : Type 0 where
  pub window : 0 < len → from + len + 7 ≤ to
  pub bytes : 0 < len → from + len + 7 ≤ at + written
  pub fits : 0 < len → from + len + 7 < 2 ^ 64
