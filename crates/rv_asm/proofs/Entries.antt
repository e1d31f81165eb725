-- Names beside their addresses.
use Rattle.std.proofs.Common.{◌≡◌, ℕ, suc, ◌+◌, ◌||◌, cond, not, Bool, true, false, Option, Some, None, List, [], ◌∷◌, ◌++◌, length, refl, ap, sym, ◌∙◌, is_some, bytes_eq, arith}
use Rattle.std.specs.List.{zip, list_any, slice_get, position_or_len}
use Rattle.std.specs.Option.{option_and_then}
use Rattle.std.specs.Prelude.{nat_lt}
use Rattle.std.proofs.lemmas.Option.{slice_get_past}
use Rattle.std.proofs.lemmas.Bool.{ltb-false}
use Rattle.first_places.specs.Places.{first_place}
use Rattle.first_places.proofs.Somewhere.{stands_somewhere}
use Rattle.rv_asm.specs.Registers.{named}

address_at : (name : List ℕ) (names : List (List ℕ)) (addresses : List ℕ) → length names ≡ length addresses → slice_get addresses (position_or_len (bytes_eq name) names) ≡ named name (zip names addresses)
address_at name [] [] same = refl
address_at name [] (a ∷ others) same = absurd (omega arith)
address_at name (n ∷ ns) [] same = absurd (omega arith)
address_at name (n ∷ ns) (a ∷ others) same = by (bytes_eq name n) (address_at name ns others (omega arith))
  where
    place : ℕ
    place = position_or_len (bytes_eq name) ns

    by : (b : Bool) → slice_get others place ≡ named name (zip ns others) → slice_get (a ∷ others) (cond (not b) (1 + place) 0) ≡ cond b (Some a) (named name (zip ns others))
    by true rest = refl
    by false rest = let next : 1 + place ≡ suc place = omega arith in rw next rest

-- the address of a name stands where the name stands first
pub address_of : (name : List ℕ) (names : List (List ℕ)) (addresses : List ℕ) → length names ≡ length addresses → option_and_then (slice_get addresses) (first_place name names) ≡ named name (zip names addresses)
address_of name names addresses same = by (nat_lt place (length names)) refl ∙ address_at name names addresses same
  where
    place : ℕ
    place = position_or_len (bytes_eq name) names

    by : (b : Bool) → nat_lt place (length names) ≡ b → option_and_then (slice_get addresses) (cond b (Some place) None) ≡ slice_get addresses place
    by true h = refl
    by false h = let past = ltb-false place (length names) h in sym (slice_get_past addresses place (omega arith))

-- a name is defined where it stands among the names
pub defined_before : (name : List ℕ) (names : List (List ℕ)) (addresses : List ℕ) → length names ≡ length addresses → is_some (first_place name names) ≡ is_some (named name (zip names addresses))
defined_before name names addresses same = stands_somewhere name names ∙ by names addresses same
  where
    by : (names : List (List ℕ)) (addresses : List ℕ) → length names ≡ length addresses → list_any (bytes_eq name) names ≡ is_some (named name (zip names addresses))
    by [] [] same = refl
    by [] (a ∷ others) same = absurd (omega arith)
    by (n ∷ ns) [] same = absurd (omega arith)
    by (n ∷ ns) (a ∷ others) same = here (bytes_eq name n) _ _ (by ns others (omega arith))
      where
        here : (b : Bool) (any : Bool) (o : Option ℕ) → any ≡ is_some o → (b || any) ≡ is_some (cond b (Some a) o)
        here true any o h = refl
        here false any o h = h

-- a name with its address goes last
pub defined_last : (names : List (List ℕ)) (addresses : List ℕ) (name : List ℕ) (at : ℕ) → length names ≡ length addresses → zip (names ++ name ∷ []) (addresses ++ at ∷ []) ≡ zip names addresses ++ (name, at) ∷ []
defined_last [] [] name at same = refl
defined_last [] (a ∷ others) name at same = absurd (omega arith)
defined_last (n ∷ ns) [] name at same = absurd (omega arith)
defined_last (n ∷ ns) (a ∷ others) name at same = ap (λ entries. (n, a) ∷ entries) (defined_last ns others name at (omega arith))
