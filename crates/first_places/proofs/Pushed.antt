-- One more name.
use Rattle.std.proofs.Common.{◌≡◌, ℕ, ◌+◌, cond, Bool, true, false, Option, Some, None, List, [], ◌∷◌, ◌++◌, length, refl, sym, ap, ◌∙◌, bytes_eq, arith, if◌then◌else◌}
use Rattle.std.specs.List.{position_from}
use Rattle.std.proofs.lemmas.Iterator.Adapters.{position_from-zero}
use Rattle.first_places.specs.Places.{first_place}
use Rattle.first_places.specs.Entries.{noted, AreFirst, IsNoted}

module _ {K V : Type 0} (now : K → List ℕ) where
  -- an entry put last
  pub last_entry : (es : List (K × V)) (key : K) (value : V) → IsNoted now (now key) value es (es ++ (key, value) ∷ [])
  last_entry [] key value name = refl
  last_entry (e ∷ es) key value name = by (bytes_eq name (now e.0)) _ _ (last_entry es key value name)
    where
      by : (b : Bool) (o p : Option V) → o ≡ noted p (now key) value name → cond b (Some e.1) o ≡ noted (cond b (Some e.1) p) (now key) value name
      by true o p h = refl
      by false o p h = h

-- places counted from i, where a name is put last
last_from : (i : ℕ) (names : List (List ℕ)) (other name : List ℕ) → position_from (bytes_eq name) i (names ++ other ∷ []) ≡ noted (position_from (bytes_eq name) i names) other (i + length names) name
last_from i [] other name = ap (λ (n : ℕ). if bytes_eq name other then Some n else None) (omega arith)
last_from i (n ∷ ns) other name = by (bytes_eq name n) _ _ (last_from (i + 1) ns other name ∙ ap (λ (at : ℕ). noted (position_from (bytes_eq name) (i + 1) ns) other at name) (omega arith))
  where
    by : (b : Bool) (o p : Option ℕ) → o ≡ noted p other (i + length (n ∷ ns)) name → cond b (Some i) o ≡ noted (cond b (Some i) p) other (i + length (n ∷ ns)) name
    by true o p h = refl
    by false o p h = h

-- a name put last is noted at its place
pub last_name : (names : List (List ℕ)) (other name : List ℕ) → first_place name (names ++ other ∷ []) ≡ noted (first_place name names) other (length names) name
last_name names other name =
    position_from-zero (bytes_eq name) (names ++ other ∷ [])
    ∙ last_from 0 names other name
    ∙ ap (λ (n : ℕ). noted (position_from (bytes_eq name) 0 names) other n name) (omega arith)
    ∙ ap (λ (o : Option ℕ). noted o other (length names) name) (sym (position_from-zero (bytes_eq name) names))

-- so the entries keep the first places
pub kept : {K : Type 0} (now : K → List ℕ) (names : List (List ℕ)) (other : List ℕ) (old new : List (K × ℕ)) → AreFirst now names old → IsNoted now other (length names) old new → AreFirst now (names ++ other ∷ []) new
kept now names other old new first more name =
    more name ∙ ap (λ (o : Option ℕ). noted o other (length names) name) (first name) ∙ sym (last_name names other name)
