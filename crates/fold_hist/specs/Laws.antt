-- What holds of histograms of every list of samples.
use Rattle.std.specs.Prelude.{◌≡◌, ℕ, ◌*◌, ◌^◌, ◌<◌, ◌≤◌, List, [], length, take, drop, Some, None, slice_get}
use Rattle.std.specs.List.{fold, AllByRecursion}
use Rattle.fold_hist.specs.declared.bin.Bin.{Bin}
use Rattle.fold_hist.specs.Bins.{hist_of, bins_of, bin_of}
use Rattle.fold_hist.specs.Steps.{pushed}

-- after pushes to the histogram of no samples it is that of the samples that were pushed
abbrev pub IsOfAllPushes : Type 0
IsOfAllPushes =
    (most : ℕ) (samples : List Bin) → 1 ≤ most → AllByRecursion (λ s. s.sum < 2 ^ 64) samples
    → fold pushed (hist_of most []) samples ≡ hist_of most samples

-- bin i of those of w samples each is that of the samples i * w to (i + 1) * w - 1, as far as there are samples
abbrev pub HasEachBin : Type 0
HasEachBin =
    (w i : ℕ) (samples : List Bin) → 0 < w
    → (i * w < length samples → slice_get (bins_of w samples) i ≡ Some (bin_of (take w (drop (i * w) samples))))
    × (length samples ≤ i * w → slice_get (bins_of w samples) i ≡ None)
