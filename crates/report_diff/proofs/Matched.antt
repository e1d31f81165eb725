-- What texts on all matches say of each match.
use Rattle.std.proofs.Common.{◌≡◌, ◌+◌, ◌<◌, ℕ, zero, suc, cond, Bool, true, false, List, [], ◌∷◌, ◌++◌, length, map, get_or, refl, ap, sym, ◌∙◌, add-one, arith}
use Rattle.std.specs.Prelude.{◌==◌, if◌then◌else◌, Option, Some, None, bytes_eq, flat_map, slice_get}
use Rattle.std.specs.Cmp.Lexicographic.{bytes_decides}
use Rattle.std.specs.Option.{option_map, option_map_or}
use Rattle.std.proofs.lemmas.Bool.Decides.{nat_tests}
use Rattle.std.proofs.lemmas.Grind.{flat_map-append}
use Rattle.std.proofs.lemmas.List.Quantifiers.{position-Some}
use Rattle.std.proofs.lemmas.Option.{slice_get-get_or, slice_get-map}
use Rattle.first_places.specs.Places.{first_place}
use Rattle.report_diff.specs.Matches.{alone_text, both_text, is_first_at, match_at, matches_from, matches_of}
use Rattle.report_diff.specs.declared.matches.Match.{Match}

-- ---- nothing

pub front_none : {A : Type 0} (xs ys : List A) → xs ++ ys ≡ [] → xs ≡ []
front_none [] ys e = refl
front_none (x ∷ xs) ys e = cc

pub back_none : {A : Type 0} (xs ys : List A) → xs ++ ys ≡ [] → ys ≡ []
back_none [] ys e = e
back_none (x ∷ xs) ys e = cc

pub both_none : {A : Type 0} (xs ys : List A) → xs ≡ [] → ys ≡ [] → xs ++ ys ≡ []
both_none {A = A} xs ys e f = ap (λ (z : List A). z ++ ys) e ∙ f

pub four_none : (a b c d : List ℕ) → a ≡ [] → b ≡ [] → c ≡ [] → d ≡ [] → a ++ b ++ c ++ d ≡ []
four_none a b c d e f g h = both_none (a ++ b ++ c) d (both_none (a ++ b) c (both_none a b e f) g) h

pub record AreNone (a b c d : List ℕ) : Type 0 where
  pub first : a ≡ []
  pub second : b ≡ []
  pub third : c ≡ []
  pub fourth : d ≡ []

pub each_none : (a b c d : List ℕ) → a ++ b ++ c ++ d ≡ [] → AreNone a b c d
each_none a b c d e =
    let three = front_none (a ++ b ++ c) d e in
    let two = front_none (a ++ b) c three in
    record { first = front_none a b two; second = back_none a b two; third = back_none (a ++ b) c three; fourth = back_none (a ++ b ++ c) d e }

-- ---- places

-- at the first place of a name stands that name
pub named_there : (name : List ℕ) (names : List (List ℕ)) (k : ℕ) → first_place name names ≡ Some k → slice_get names k ≡ Some name
named_there name names k e =
    let f = position-Some (bytes_eq name) names k [] e in
    let same : name ≡ get_or names k [] = (bytes_decides name (get_or names k [])).0 f.1 in
    slice_get-get_or names k [] f.0 ∙ ap (λ (z : List ℕ). Some z) (sym same)

from_map : {X : Type 0} (o : Option X) (f : X → List ℕ) (name : List ℕ) → option_map f o ≡ Some name → (x : X) × (o ≡ Some x)
from_map (Some x) f name e = (x, refl)
from_map None f name e = cc

-- and so the thing that has it
pub thing_there : {X : Type 0} (name_of : X → List ℕ) (xs : List X) (name : List ℕ) (k : ℕ) → first_place name (map name_of xs) ≡ Some k → (x : X) × (slice_get xs k ≡ Some x)
thing_there name_of xs name k e =
    from_map (slice_get xs k) name_of name (sym (slice_get-map name_of xs k) ∙ named_there name (map name_of xs) k e)

-- ---- each match

same_number : (place : ℕ) → (place == place) ≡ true
same_number place = grind (arith, nat_tests)

first_there : (names : List (List ℕ)) (place : ℕ) (name : List ℕ) → first_place name names ≡ Some place → is_first_at names place name ≡ true
first_there names place name e = ap (λ (o : Option ℕ). option_map_or (λ first. first == place) o false) e ∙ same_number place

is_there : (place : ℕ) (o : Option ℕ) → option_map_or (λ first. first == place) o false ≡ true → o ≡ Some place
is_there place (Some first) e = let same : first ≡ place = grind (arith, nat_tests) in ap (λ (z : ℕ). Some z) same
is_there place None e = cc

module _ (f : Match → List ℕ) (names others : List (List ℕ)) where
  abbrev matched : ℕ → List ℕ → Match
  matched k name = record { place = k; other = first_place name others }

  here : (place : ℕ) (name : List ℕ) → first_place name names ≡ Some place → match_at names others place name ≡ matched place name ∷ []
  here place name e = ap (λ (b : Bool). cond b (matched place name ∷ []) []) (first_there names place name e)

  -- where they have no text at all, none has
  each_from : (place : ℕ) (rest : List (List ℕ)) (k : ℕ) (name : List ℕ) → slice_get rest k ≡ Some name → first_place name names ≡ Some (place + k)
      → flat_map f (matches_from names others place rest) ≡ [] → f (matched (place + k) name) ≡ []
  each_from place [] k name at first none = cc
  each_from place (x ∷ rest) zero name at first none =
      let same : x ≡ name = cc in
      let p : place + zero ≡ place = omega arith in
      let first2 : first_place x names ≡ Some place = cc in
      let e : flat_map f (match_at names others place x) ++ flat_map f (matches_from names others (place + 1) rest) ≡ [] =
      sym (flat_map-append f (match_at names others place x) (matches_from names others (place + 1) rest)) ∙ none in
      let g : flat_map f (match_at names others place x) ≡ [] = front_none _ _ e in
      let h : f (matched place x) ++ [] ≡ [] = sym (ap (flat_map f) (here place x first2)) ∙ g in
      ap (λ (n : ℕ). f (matched n name)) p ∙ ap (λ (z : List ℕ). f (matched place z)) (sym same) ∙ front_none (f (matched place x)) [] h
  each_from place (x ∷ rest) (suc k) name at first none =
      let p : place + suc k ≡ (place + 1) + k = omega arith in
      let e : flat_map f (match_at names others place x) ++ flat_map f (matches_from names others (place + 1) rest) ≡ [] =
      sym (flat_map-append f (match_at names others place x) (matches_from names others (place + 1) rest)) ∙ none in
      ap (λ (n : ℕ). f (matched n name)) p
      ∙ each_from (place + 1) rest k name at (first ∙ ap (λ (n : ℕ). Some n) p) (back_none _ _ e)

  pub each : (name : List ℕ) (k : ℕ) → first_place name names ≡ Some k → flat_map f (matches_of names others) ≡ [] → f (matched k name) ≡ []
  unfolding matches_of
  each name k first none =
      let p : 0 + k ≡ k = omega arith in
      let first0 : first_place name names ≡ Some (0 + k) = first ∙ ap (λ (n : ℕ). Some n) (sym p) in
      ap (λ (n : ℕ). f (matched n name)) (sym p) ∙ each_from 0 names k name (named_there name names k first) first0 none

  -- where none has a text, they have none at all
  all_from : ((name : List ℕ) (k : ℕ) → first_place name names ≡ Some k → f (matched k name) ≡ [])
      → (place : ℕ) (rest : List (List ℕ)) → flat_map f (matches_from names others place rest) ≡ []
  all_from h place [] = refl
  all_from h place (x ∷ rest) =
      flat_map-append f (match_at names others place x) (matches_from names others (place + 1) rest)
      ∙ both_none _ _ (by (is_first_at names place x) refl) (all_from h (place + 1) rest)
    where
      by : (b : Bool) → is_first_at names place x ≡ b → flat_map f (cond b (matched place x ∷ []) []) ≡ []
      by true e = both_none (f (matched place x)) [] (h x place (is_there place (first_place x names) e)) refl
      by false e = refl

  pub all : ((name : List ℕ) (k : ℕ) → first_place name names ≡ Some k → f (matched k name) ≡ []) → flat_map f (matches_of names others) ≡ []
  unfolding matches_of
  all h = all_from h 0 names
