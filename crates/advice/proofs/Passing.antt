-- The parts after those that were passed.
use Rattle.std.proofs.Common.{◌≡◌, ℕ, zero, suc, ◌+◌, Option, Some, None, Bor, List, [], ◌∷◌, drop, slice_get, refl, sym, ap, ◌∙◌, add-one, MatchOption}
use Rattle.std.specs.Option.{unwrap_or}

drop_next : (all : List (List ℕ)) (i : ℕ) → drop (suc i) all ≡ drop 1 (drop i all)
drop_next all zero = refl
drop_next [] (suc i) = refl
drop_next (x ∷ xs) (suc i) = drop_next xs i

one_less : (old new : List (List ℕ)) (r : Option (Bor (List ℕ))) → MatchOption r ((old ≡ []) × (new ≡ [])) (λ part. old ≡ part.now ∷ new) → new ≡ drop 1 old
one_less old new None e = e.1 ∙ sym (ap (drop 1) e.0)
one_less old new (Some part) e = sym (ap (drop 1) e)

-- one more part is passed
pub passed : (all : List (List ℕ)) (i : ℕ) (old new : List (List ℕ)) (r : Option (Bor (List ℕ))) → MatchOption r ((old ≡ []) × (new ≡ [])) (λ part. old ≡ part.now ∷ new) → old ≡ drop i all → new ≡ drop (i + 1) all
passed all i old new r e is = rw add-one (one_less old new r e ∙ ap (drop 1) is ∙ sym (drop_next all i))

get_drop : (all : List (List ℕ)) (i : ℕ) → slice_get all i ≡ slice_get (drop i all) 0
get_drop all zero = refl
get_drop [] (suc i) = refl
get_drop (x ∷ xs) (suc i) = get_drop xs i

-- the first of those that are left is the one at this place
pub found : (all : List (List ℕ)) (i : ℕ) (old rest : List (List ℕ)) (part : List ℕ) → old ≡ drop i all → old ≡ part ∷ rest → part ≡ unwrap_or (slice_get all i) []
found all i old rest part is first = sym (ap (λ (o : Option (List ℕ)). unwrap_or o []) (get_drop all i ∙ ap (λ (l : List (List ℕ)). slice_get l 0) (sym is ∙ first)))

pub not_found : (all : List (List ℕ)) (i : ℕ) (old : List (List ℕ)) → old ≡ drop i all → old ≡ [] → [] ≡ unwrap_or (slice_get all i) []
not_found all i old is none = sym (ap (λ (o : Option (List ℕ)). unwrap_or o []) (get_drop all i ∙ ap (λ (l : List (List ℕ)). slice_get l 0) (sym is ∙ none)))
