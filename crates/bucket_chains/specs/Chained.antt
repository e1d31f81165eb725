-- For proofs alone: the chains of the buckets fit the entries.
use Rattle.std.specs.Prelude.{ℕ, ◌≡◌, ◌+◌, ◌<◌, ◌≤◌, Option, Some, None, List, length, slice_index_or}
use Rattle.bucket_chains.specs.Entries.{bucket_at, HasNone, HasNoMore, IsFirst}
use Rattle.bucket_chains.specs.declared.chains.TheConstants.{BUCKETS}

-- the place of the last entry of bucket b, if there is one
abbrev pub IsLast : ℕ → List (Option ℕ) → Option ℕ → Type 0
IsLast b buckets None = HasNoMore b 0 buckets
IsLast b buckets (Some place) = (bucket_at buckets place ≡ Some b) × HasNoMore b (place + 1) buckets

-- the place of the last entry of bucket b below a place, if there is one
abbrev pub IsNextBelow : ℕ → Option ℕ → ℕ → List (Option ℕ) → Type 0
IsNextBelow b None place buckets = HasNone b 0 place buckets
IsNextBelow b (Some before) place buckets = (before < place) × (bucket_at buckets before ≡ Some b) × HasNone b (before + 1) place buckets

pub record IsChained (buckets nexts previous firsts lasts : List (Option ℕ)) : Type 0 where
  pub next_places : length nexts ≡ length buckets
  pub previous_places : length previous ≡ length buckets
  pub below : (i b : ℕ) → bucket_at buckets i ≡ Some b → b < BUCKETS
  pub next : (i b : ℕ) → bucket_at buckets i ≡ Some b → IsFirst b (i + 1) buckets (slice_index_or nexts i None)
  pub before : (i b : ℕ) → bucket_at buckets i ≡ Some b → IsNextBelow b (slice_index_or previous i None) i buckets
  pub first : (b : ℕ) → b < BUCKETS → IsFirst b 0 buckets (slice_index_or firsts b None)
  pub last : (b : ℕ) → b < BUCKETS → IsLast b buckets (slice_index_or lasts b None)

-- each list has the room
pub record HasRoom (entries capacity next previous room : ℕ) : Type 0 where
  pub buckets : entries + room ≤ capacity
  pub nexts : entries + room ≤ next
  pub befores : entries + room ≤ previous

-- where there is an entry or room for one, each bucket has its ends; before, they need not be there
pub record HasEnds (entries first last room : ℕ) : Type 0 where
  pub firsts : 0 < entries + room → first ≡ BUCKETS
  pub lasts : 0 < entries + room → last ≡ BUCKETS
