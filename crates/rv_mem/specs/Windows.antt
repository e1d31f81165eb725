-- For proofs alone: windows, which are parts of regions in which an access needs one test alone.
use Rattle.std.specs.Prelude.{ℕ, ◌≡◌, ◌<◌, ◌≤◌, ◌+◌, ◌-◌, ◌%◌, ◌^◌, ◌⊎◌, EachIndex, List, length, min, slice_index, slice_index_or, None, false}
use Rattle.rv_word.specs.Memory.{in_range}
use Rattle.rv_mem.specs.Regions.{content, place_of}
use Rattle.rv_mem.specs.declared.mapped.Region.{Region}
use Rattle.rv_mem.specs.declared.mapped.Window.{Window}

-- the window's addresses are those of region i, none is in the text, and no region before has one of them
pub record IsClear (text_at text_len : ℕ) (rs : List Region) (i : ℕ) (w : Window) : Type 0 where
  pub listed : i < length rs
  pub begins : (d : Region) (q : ℕ) → w.from ≤ q → q < w.to → (slice_index_or rs i d).at ≤ q
  pub ends : (d : Region) (q : ℕ) → w.from ≤ q → q < w.to → q < (slice_index_or rs i d).at + length (content (slice_index_or rs i d))
  pub apart : (q : ℕ) → w.from ≤ q → q < w.to → in_range text_at text_len q ≡ false
  pub first : (k : ℕ) (d : Region) (q : ℕ) → k < i → w.from ≤ q → q < w.to → place_of (slice_index_or rs k d) q ≡ None

-- each region's window is one of it
abbrev pub AreClearWindows : ℕ → ℕ → List Region → Type 0
AreClearWindows text_at text_len rs = (i : ℕ) (d : Region) → i < length rs → IsClear text_at text_len rs i (slice_index_or rs i d).window

-- the quick addresses are those from which 8 bytes stay in the window and in what was written
abbrev pub HasQuickLen : Region → Type 0
HasQuickLen r = r.quick_len ≡ min r.window.to (r.at + length r.bytes.items) - r.window.from - 7

-- the distance of the address a from the first address of the window of region i, which wraps, is below the number of quick addresses
pub record IsQuickAt (rs : List Region) (a i : ℕ) : Type 0 where
  pub listed : i < length rs
  pub near : (d : Region) → (a + (2 ^ 64 - (slice_index_or rs i d).window.from)) % 2 ^ 64 < (slice_index_or rs i d).quick_len

-- the n bytes from the address a are in a window of region i
pub record HasWindow (text_at text_len : ℕ) (rs : List Region) (a n i : ℕ) : Type 0 where
  pub window : Window
  pub clear : IsClear text_at text_len rs i window
  pub begins : window.from ≤ a
  pub here : a < window.to
  pub ends : a + n ≤ window.to
  pub written : (d : Region) → a + n ≤ (slice_index_or rs i d).at + length (slice_index_or rs i d).bytes.items
  pub fits : a + n < 2 ^ 64

-- ---- pages

-- each page has the number of one of n regions
abbrev pub AreRegionNumbers : ℕ → List ℕ → Type 0
AreRegionNumbers n pages = EachIndex pages (λ k. slice_index pages k < n)

-- page k has the number that it had, or this one
abbrev pub IsNotedIn : List ℕ → List ℕ → ℕ → ℕ → Type 0
IsNotedIn old new number k = (slice_index new k ≡ slice_index old k) ⊎ (slice_index new k ≡ number)

-- ---- changes

-- a region with the same addresses and the same window
pub record HasBounds (r new : Region) : Type 0 where
  pub begins : new.at ≡ r.at
  pub lengths : length (content new) ≡ length (content r)
  pub windows : new.window ≡ r.window

-- regions with the same addresses
pub record SamePlaces (rs new : List Region) : Type 0 where
  pub many : length new ≡ length rs
  pub begins : (k : ℕ) (d : Region) → (slice_index_or new k d).at ≡ (slice_index_or rs k d).at
  pub lengths : (k : ℕ) (d : Region) → length (content (slice_index_or new k d)) ≡ length (content (slice_index_or rs k d))

-- and with the same windows
pub record SameShape (rs new : List Region) : Type 0 where
  pub many : length new ≡ length rs
  pub bounds : (k : ℕ) (d : Region) → HasBounds (slice_index_or rs k d) (slice_index_or new k d)
