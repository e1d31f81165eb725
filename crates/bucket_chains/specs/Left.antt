-- The entries of a list that were not taken out.
use Rattle.std.specs.Prelude.{ℕ, Option, Some, None, List, [], ◌∷◌, map}
use Rattle.std.specs.Option.{option_map}
use Rattle.bucket_chains.specs.Entries.{bucket_of}

-- they are left in their order
abbrev pub present_entries : {A : Type 0} → List (Option A) → List A
present_entries [] = []
present_entries (None ∷ es) = present_entries es
present_entries (Some x ∷ es) = x ∷ present_entries es

-- the bucket of each entry by its key
abbrev pub buckets_of : {A : Type 0} → (A → ℕ) → List (Option A) → List (Option ℕ)
buckets_of key es = map (option_map (λ x. bucket_of (key x))) es
