-- For proofs alone: entries of names.
use Rattle.std.specs.Prelude.{◌≡◌, ℕ, Option, None, Some, List, if◌then◌else◌}
use Rattle.std.specs.Str.{bytes_eq}
use Rattle.std.specs.Map.{lookup}
use Rattle.first_places.specs.Places.{first_place}

-- the entries have the first place of each of the names, and nothing of another
abbrev pub AreFirst : {K : Type 0} → (K → List ℕ) → List (List ℕ) → List (K × ℕ) → Type 0
AreFirst now names entries = (name : List ℕ) → lookup (λ key. bytes_eq name (now key)) entries ≡ first_place name names

-- what is found of a name, where a value was noted of another
abbrev pub noted : {V : Type 0} → Option V → List ℕ → V → List ℕ → Option V
noted (Some before) other value name = Some before
noted None other value name = if bytes_eq name other then Some value else None

-- the entries have what others have, and of a name that these lack the value
abbrev pub IsNoted : {K V : Type 0} → (K → List ℕ) → List ℕ → V → List (K × V) → List (K × V) → Type 0
IsNoted now other value old new =
    (name : List ℕ) → lookup (λ key. bytes_eq name (now key)) new ≡ noted (lookup (λ key. bytes_eq name (now key)) old) other value name
