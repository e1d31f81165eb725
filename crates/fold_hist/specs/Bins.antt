-- What the histogram of a list of samples is: the bins of the least width for which they are enough.
use Rattle.std.specs.Prelude.{ℕ, zero, suc, ◌*◌, ◌≤◌, ◌≡◌, ◌%◌, ◌^◌, nat_le, if◌then◌else◌, List, [], ◌∷◌, length, map, take, drop, sum_by}
use Rattle.fold_hist.specs.declared.bin.Bin.{Bin}

-- ---- one bin

-- where the first sample begins
abbrev pub first_from : List Bin → ℕ
first_from [] = 0
first_from (x ∷ xs) = x.from

-- where the last sample ends
abbrev pub last_to : List Bin → ℕ
last_to [] = 0
last_to (x ∷ []) = x.to
last_to (x ∷ y ∷ ys) = last_to (y ∷ ys)

-- the bin of some samples: from the first one's beginning to the last one's end, and their sum modulo 2^64
abbrev pub bin_of : List Bin → Bin
bin_of xs = record { from = first_from xs; to = last_to xs; sum = sum_by (λ x. x.sum) xs % 2 ^ 64 }

-- ---- the width

-- the first of w, 2 * w, 4 * w and so on of which c bins hold n samples, with a limit on the doublings, which comes first
abbrev pub doubled : ℕ → ℕ → ℕ → ℕ → ℕ
doubled zero c w n = w
doubled (suc fuel) c w n = if nat_le n (c * w) then w else doubled fuel c (2 * w) n

-- the least power of two of which c bins hold n samples; n doublings are enough, since n is below 2 ^ n
unfoldable pub width_of : ℕ → ℕ → ℕ
width_of c n = doubled n c 1 n

-- w is that power
pub record IsWidth (c n w : ℕ) : Type 0 where
  pub exponent : ℕ
  pub power : w ≡ 2 ^ exponent
  pub fits : n ≤ c * w
  pub least : (i : ℕ) → n ≤ c * 2 ^ i → w ≤ 2 ^ i

-- ---- the bins

-- the list cut into pieces of w, the last of which may be shorter; the first number limits the pieces
abbrev pub pieces : ℕ → ℕ → List Bin → List (List Bin)
pieces zero w xs = []
pieces (suc fuel) w [] = []
pieces (suc fuel) w (x ∷ xs) = take w (x ∷ xs) ∷ pieces fuel w (drop w (x ∷ xs))

-- the bins of w samples each; the last one may have fewer
unfoldable pub bins_of : ℕ → List Bin → List Bin
bins_of w samples = map bin_of (pieces (length samples) w samples)

-- a histogram: how many bins it has at most, how many samples it has, how many of them a bin is of, and the bins
pub record Histogram : Type 0 where
  pub most : ℕ
  pub count : ℕ
  pub width : ℕ
  pub bins : List Bin

-- The histogram of these samples, in at most c bins.
abbrev pub hist_of : ℕ → List Bin → Histogram
hist_of c samples = record {
  most = c;
  count = length samples;
  width = width_of c (length samples);
  bins = bins_of (width_of c (length samples)) samples;
}

-- there are samples whose histogram this is
pub record IsHistogram (h : Histogram) : Type 0 where
  pub some : 1 ≤ h.most
  pub samples : List Bin
  pub made : h ≡ hist_of h.most samples
