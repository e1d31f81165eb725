-- A list of entries in buckets: which entry of a bucket comes first, and which comes next.
use Rattle.std.specs.Prelude.{ℕ, ◌≡◌, ◌%◌, ◌<◌, ◌≤◌, Option, Some, None, List, [], slice_index_or}
use Rattle.bucket_chains.specs.declared.chains.TheConstants.{BUCKETS}

-- the bucket of each entry, by place, none of one that was taken out; and for how many more entries there is room
pub record Entries : Type 0 where
  pub buckets : List (Option ℕ)
  pub room : ℕ

abbrev pub no_entries : Entries
no_entries = record { buckets = []; room = 0 }

-- the bucket of a key
abbrev pub bucket_of : ℕ → ℕ
bucket_of key = key % BUCKETS

-- the bucket of the entry at a place, if there is one
abbrev pub bucket_at : List (Option ℕ) → ℕ → Option ℕ
bucket_at buckets place = slice_index_or buckets place None

-- no entry of bucket b stands at a place from `from` to below `to`
abbrev pub HasNone : ℕ → ℕ → ℕ → List (Option ℕ) → Type 0
HasNone b from to buckets = (i : ℕ) → from ≤ i → i < to → bucket_at buckets i ≡ Some b → ⊥

-- no entry of bucket b stands at a place from `from` on
abbrev pub HasNoMore : ℕ → ℕ → List (Option ℕ) → Type 0
HasNoMore b from buckets = (i : ℕ) → from ≤ i → bucket_at buckets i ≡ Some b → ⊥

-- the place of the first entry of bucket b from `from` on, if there is one
abbrev pub IsFirst : ℕ → ℕ → List (Option ℕ) → Option ℕ → Type 0
IsFirst b from buckets None = HasNoMore b from buckets
IsFirst b from buckets (Some place) = (from ≤ place) × (bucket_at buckets place ≡ Some b) × HasNone b from place buckets
