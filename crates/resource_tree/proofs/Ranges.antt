-- The elements of a list of numbers.
use Rattle.std.proofs.Common.{◌≡◌, ℕ, ◌<◌, ◌≤◌, map, slice_get, Some, None, ap, ◌∙◌, arith}
use Rattle.std.specs.List.{range_with_len}
use Rattle.std.proofs.lemmas.List.FromFn.{get_or-map-range_with_len, length-map-range_with_len}
use Rattle.std.proofs.lemmas.Option.{slice_get-get_or, slice_get_past}

module _ {X : Type 0} (f : ℕ → X) where
  pub range_at : (n i : ℕ) → i < n → slice_get (map f (range_with_len 0 n)) i ≡ Some (f i)
  range_at n i h =
      let len = length-map-range_with_len f 0 n in
      slice_get-get_or (map f (range_with_len 0 n)) i (f 0) (omega (arith, len)) ∙ ap Some (get_or-map-range_with_len f 0 n i i (f 0) h (omega arith))

  pub range_past : (n i : ℕ) → n ≤ i → slice_get (map f (range_with_len 0 n)) i ≡ None
  range_past n i h = let len = length-map-range_with_len f 0 n in slice_get_past (map f (range_with_len 0 n)) i (omega (arith, len))
