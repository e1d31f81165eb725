-- That a name stands in a list.
use Rattle.std.proofs.Common.{◌≡◌, ◌||◌, is_some, ℕ, ◌+◌, cond, Bool, true, false, Option, Some, List, [], ◌∷◌, refl, ap, ◌∙◌, bytes_eq}
use Rattle.std.specs.List.{position_from, list_any}
use Rattle.std.proofs.lemmas.Iterator.Adapters.{position_from-zero}
use Rattle.first_places.specs.Places.{first_place}

stands_from : (test : List ℕ → Bool) (i : ℕ) (names : List (List ℕ)) → is_some (position_from test i names) ≡ list_any test names
stands_from test i [] = refl
stands_from test i (x ∷ xs) = by (test x) _ _ (stands_from test (i + 1) xs)
  where
    by : (b : Bool) (o : Option ℕ) (rest : Bool) → is_some o ≡ rest → is_some (cond b (Some i) o) ≡ (b || rest)
    by true o rest h = refl
    by false o rest h = h

-- a name has a first place where it stands at all
pub stands_somewhere : (name : List ℕ) (names : List (List ℕ)) → is_some (first_place name names) ≡ list_any (bytes_eq name) names
stands_somewhere name names = ap is_some (position_from-zero (bytes_eq name) names) ∙ stands_from (bytes_eq name) 0 names
