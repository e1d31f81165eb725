-- For proofs alone: no hart has a reservation.
use Rattle.std.specs.Prelude.{ℕ, ◌≡◌, ◌<◌, List, Option, None, length, slice_index_or}

abbrev pub AreFree : List (Option ℕ) → Type 0
AreFree rs = (i : ℕ) (d : Option ℕ) → i < length rs → slice_index_or rs i d ≡ None
