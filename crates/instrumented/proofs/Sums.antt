-- The sums that the code makes are those of the readings.
use Rattle.std.proofs.Common.{◌≡◌, ℕ, zero, suc, ◌+◌, ◌%◌, ◌^◌, List, [], ◌∷◌, Option, Some, None, refl, ap, ap₂, ◌≡◌, ◌∙◌}
use Rattle.std.specs.Prelude.{IfSome, map, slice_get, slice_index}
use Rattle.std.specs.List.{range_with_len}
use Rattle.std.specs.Option.{option_map}
use Rattle.tramp_spec.specs.Harts.{Hart}
use Rattle.machine.specs.Cores.{Core}
use Rattle.machine.specs.Instruments.{reading}
use Rattle.machine.specs.Readings.{reading_if, readings}
use Rattle.pn_types.specs.declared.placed.Placed.{Placed}
use Rattle.instrument.specs.declared.instrument.Instrument.{Instrument}
use Rattle.instrumented.specs.Sums.{sum_from}

-- the reading of a hart in the list of all
reading_at : (i : Placed) (harts : List Hart) (h : ℕ) → slice_index (map (reading i) harts) h ≡ reading_if i (slice_get harts h)
reading_at i [] h = refl
reading_at i (x ∷ xs) zero = refl
reading_at i (x ∷ xs) (suc h) = reading_at i xs h

pub sums : (i : Placed) (c : Core) (first count : ℕ) → sum_from (map (reading i) c.harts) first count ≡ readings i (range_with_len first count) c
sums i c first zero = refl
sums i c first (suc count) = ap₂ (λ a b. (a + b) % 2 ^ 64) (reading_at i c.harts first) (sums i c (first + 1) count)

pub read_of : (o : Option Instrument) (x : Placed) (sum : ℕ) (harts : List ℕ) (c : Core) → option_map (λ (i : Instrument). i.placed) o ≡ Some x → sum ≡ readings x harts c → IfSome o (λ i. sum ≡ readings i.placed harts c)
read_of None x sum harts c e r = absurd cc
read_of (Some i) x sum harts c e r = let same : x ≡ i.placed = cc in r ∙ ap (λ y. readings y harts c) same
