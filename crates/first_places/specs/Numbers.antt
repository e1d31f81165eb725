-- Numbers that stand under names.
use Rattle.std.specs.Prelude.{ℕ, ◌≡◌, Bool, List, [], ◌∷◌, ◌++◌, map, if◌then◌else◌}
use Rattle.std.specs.List.{list_any}
use Rattle.std.specs.Map.{keys_of, lookup}
use Rattle.std.specs.Option.{option_map_or}
use Rattle.std.specs.Str.{bytes_eq}

-- numbers with one more that is put last, where it is wanted
abbrev pub with_number : Bool → ℕ → List ℕ → List ℕ
with_number wanted n ns = if wanted then ns ++ n ∷ [] else ns

-- names with one more that is put last, where it is new
abbrev pub with_name : List ℕ → List (List ℕ) → List (List ℕ)
with_name name names = if list_any (bytes_eq name) names then names else names ++ name ∷ []

-- the names of entries
abbrev pub names_of : {K V : Type 0} → (K → List ℕ) → List (K × V) → List (List ℕ)
names_of now es = map now (keys_of es)

-- the numbers that stand under a name
abbrev pub numbers_under : {K V : Type 0} → (K → List ℕ) → (V → List ℕ) → List ℕ → List (K × V) → List ℕ
numbers_under now items name es = option_map_or items (lookup (λ key. bytes_eq name (now key)) es) []

-- a number is put last under a name
pub record IsAdded {K V : Type 0} (now : K → List ℕ) (items : V → List ℕ) (name : List ℕ) (n : ℕ) (old new : List (K × V)) : Type 0 where
  pub names : names_of now new ≡ with_name name (names_of now old)
  pub numbers : (other : List ℕ)
      → numbers_under now items other new ≡ with_number (bytes_eq other name) n (numbers_under now items other old)

-- nothing is changed
pub record IsUnchanged {K V : Type 0} (now : K → List ℕ) (items : V → List ℕ) (old new : List (K × V)) : Type 0 where
  pub names : names_of now new ≡ names_of now old
  pub numbers : (other : List ℕ) → numbers_under now items other new ≡ numbers_under now items other old
