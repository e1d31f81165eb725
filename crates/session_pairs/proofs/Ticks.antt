-- The ticks of harts.
use Rattle.std.proofs.Common.{◌≡◌, ℕ, zero, suc, ◌+◌, ◌-◌, ◌<◌, ◌^◌, Some, List, [], ◌∷◌, length, map, sym, ap, arith}
use Rattle.std.specs.Prelude.{slice_get, slice_index}
use Rattle.std.specs.List.{AllByRecursion, range_with_len}
use Rattle.std.specs.Option.{option_map}
use Rattle.tramp_spec.specs.Harts.{Hart}
use Rattle.session_spec.specs.Readings.{ticks_between}

abbrev pub all_ticks : List Hart → List ℕ
all_ticks hs = map (λ (x : Hart). x.ticks) hs

pub ticks_at : (hs : List Hart) (i ticks : ℕ) → option_map (λ (x : Hart). x.ticks) (slice_get hs i) ≡ Some ticks → ticks ≡ slice_index (all_ticks hs) i
ticks_at [] i ticks e = absurd cc
ticks_at (h ∷ hs) zero ticks e = cc
ticks_at (h ∷ hs) (suc i) ticks e = ticks_at hs i ticks e

pub small_at : (hs : List Hart) (i : ℕ) → AllByRecursion (λ (x : Hart). x.ticks < 2 ^ 58) hs → i < length hs → slice_index (all_ticks hs) i < 2 ^ 58
small_at [] i all l = (let no : ⊥ = omega (arith, l) in absurd no)
small_at (h ∷ hs) zero all l = all.0
small_at (h ∷ hs) (suc i) all l = small_at hs i all.1 (omega (arith, l))

-- the ticks of a hart, and of those after it
pub ticks_first : (i count : ℕ) (before now : List ℕ) → 0 < count
    → ticks_between (range_with_len i count) before now ≡ slice_index now i - slice_index before i + ticks_between (range_with_len (i + 1) (count - 1)) before now
ticks_first i zero before now l = omega (arith, l)
ticks_first i (suc n) before now l =
    let e : suc n - 1 ≡ n = omega arith in
    ap (λ (m : ℕ). slice_index now i - slice_index before i + ticks_between (range_with_len (i + 1) m) before now) (sym e)
