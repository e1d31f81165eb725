-- What a push does to a histogram: it folds where all bins are full, and then the sample goes into the last bin or into a
-- new one.
use Rattle.std.specs.Prelude.{◌+◌, ◌*◌, ◌%◌, ◌^◌, ◌==◌, if◌then◌else◌, Bool, List, [], ◌∷◌, ◌++◌}
use Rattle.fold_hist.specs.declared.bin.Bin.{Bin}
use Rattle.fold_hist.specs.Bins.{Histogram}

-- two bins as one
abbrev pub bins_joined : Bin → Bin → Bin
bins_joined a b = record { from = a.from; to = b.to; sum = (a.sum + b.sum) % 2 ^ 64 }

-- each two as one; the last of an odd number stays
abbrev pub paired : List Bin → List Bin
paired [] = []
paired (a ∷ []) = a ∷ []
paired (a ∷ b ∷ rest) = bins_joined a b ∷ paired rest

-- the last bin with another one after it
abbrev pub with_last : List Bin → Bin → List Bin
with_last [] b = []
with_last (a ∷ []) b = bins_joined a b ∷ []
with_last (a ∷ a' ∷ rest) b = a ∷ with_last (a' ∷ rest) b

-- every bin is full, and there is none more
abbrev pub is_full : Histogram → Bool
is_full h = h.count == h.most * h.width

-- the histogram with room for a sample
abbrev pub with_room : Histogram → Histogram
with_room h = record {
  most = h.most;
  count = h.count;
  width = if is_full h then 2 * h.width else h.width;
  bins = if is_full h then paired h.bins else h.bins;
}

-- the histogram, which has room, with a sample more
abbrev pub with_sample : Histogram → Bin → Histogram
with_sample h b = record {
  most = h.most;
  count = h.count + 1;
  width = h.width;
  bins = if h.count % h.width == 0 then h.bins ++ b ∷ [] else with_last h.bins b;
}

-- a histogram with one sample more
unfoldable pub pushed : Histogram → Bin → Histogram
pushed h b = with_sample (with_room h) b
