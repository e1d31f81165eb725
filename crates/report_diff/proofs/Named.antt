-- What stands under the same names in two lists.
use Rattle.std.proofs.Common.{◌≡◌, ◌+◌, ℕ, cond, Bool, true, false, List, [], ◌∷◌, ◌++◌, map, refl, ap, sym, ◌∙◌, arith}
use Rattle.std.specs.Prelude.{◌==◌, if◌then◌else◌, Option, Some, None, flat_map, is_some, length, slice_get}
use Rattle.std.specs.List.{count_by}
use Rattle.std.specs.Option.{option_and_then, option_map, option_map_or}
use Rattle.std.proofs.lemmas.List.Sums.{sum_by-cons}
use Rattle.first_places.specs.Places.{first_place}
use Rattle.report_diff.specs.Matches.{alone_text, both_text, matches_of}
use Rattle.report_diff.specs.Named.{value_named}
use Rattle.report_diff.specs.declared.matches.Match.{Match}
use Rattle.report_diff.proofs.Matched.{all, back_none, both_none, each, front_none, thing_there}

-- each name of some stands among others
abbrev pub AllStand : List (List ℕ) → List (List ℕ) → Type 0
AllStand names others = (name : List ℕ) (k : ℕ) → first_place name names ≡ Some k → is_some (first_place name others) ≡ true

there : (o : Option ℕ) → is_some o ≡ true → (k : ℕ) × (o ≡ Some k)
there (Some k) e = (k, refl)
there None e = cc

-- the names of both are the same, where each of both stands in the other
pub stand_in_both : (names others : List (List ℕ)) → AllStand names others → AllStand others names
    → (name : List ℕ) → is_some (first_place name names) ≡ is_some (first_place name others)
stand_in_both names others there_too back name = by (first_place name names) (first_place name others) refl refl
  where
    by : (o p : Option ℕ) → first_place name names ≡ o → first_place name others ≡ p → is_some o ≡ is_some p
    by (Some k) (Some j) e f = refl
    by None None e f = refl
    by (Some k) None e f = let g = there_too name k e in cc
    by None (Some k) e f = let g = back name k f in cc

-- ---- things that stand in one alone

module _ {X : Type 0} (name_of lone : X → List ℕ) (xs : List X) (others : List (List ℕ)) where
  -- where none of them has a line, there are none
  pub none_alone : ((x : X) → lone x ≡ [] → ⊥) → flat_map (alone_text lone xs) (matches_of (map name_of xs) others) ≡ [] → AllStand (map name_of xs) others
  none_alone due none name k first =
      let x = thing_there name_of xs name k first in
      by (first_place name others) refl x.0 x.1 (each (alone_text lone xs) (map name_of xs) others name k first none)
    where
      by : (o : Option ℕ) → first_place name others ≡ o → (x : X) → slice_get xs k ≡ Some x
          → option_map_or (λ other. []) (first_place name others) (option_map_or lone (slice_get xs k) []) ≡ [] → is_some (first_place name others) ≡ true
      by (Some j) e x at none = ap is_some e
      by None e x at none =
          let g : lone x ≡ [] =
          sym (ap (λ (o : Option X). option_map_or lone o []) at)
          ∙ sym (ap (λ (o : Option ℕ). option_map_or (λ other. []) o (option_map_or lone (slice_get xs k) [])) e) ∙ none in
          absurd (due x g)

  pub alone_none : AllStand (map name_of xs) others → flat_map (alone_text lone xs) (matches_of (map name_of xs) others) ≡ []
  alone_none stand = all (alone_text lone xs) (map name_of xs) others (λ name k first. by (first_place name others) k (stand name k first))
    where
      by : (o : Option ℕ) (k : ℕ) → is_some o ≡ true → option_map_or (λ other. []) o (option_map_or lone (slice_get xs k) []) ≡ []
      by (Some j) k e = refl
      by None k e = cc

-- ---- things that stand in both

module _ {X V : Type 0} (value : X → V) (name_of : X → List ℕ) (text : X → X → List ℕ) (olds news : List X) where
  -- where no line is due, the values are the same
  pub same_values : ((x y : X) → text x y ≡ [] → value x ≡ value y)
      → flat_map (both_text text olds news) (matches_of (map name_of olds) (map name_of news)) ≡ []
      → AllStand (map name_of olds) (map name_of news) → AllStand (map name_of news) (map name_of olds)
      → (name : List ℕ) → value_named value (map name_of olds) olds name ≡ value_named value (map name_of news) news name
  same_values same none stand back name = by (first_place name (map name_of olds)) refl (first_place name (map name_of news)) refl
    where
      by : (o : Option ℕ) → first_place name (map name_of olds) ≡ o → (p : Option ℕ) → first_place name (map name_of news) ≡ p
          → option_map value (option_and_then (slice_get olds) o) ≡ option_map value (option_and_then (slice_get news) p)
      by None e None f = refl
      by (Some k) e None f = let g = stand name k e in cc
      by None e (Some j) f = let g = back name j f in cc
      by (Some k) e (Some j) f =
          let x = thing_there name_of olds name k e in
          let y = thing_there name_of news name j f in
          let t : option_map_or (λ old. option_map_or (λ other. option_map_or (text old) (slice_get news other) []) (first_place name (map name_of news)) []) (slice_get olds k) [] ≡ [] =
          each (both_text text olds news) (map name_of olds) (map name_of news) name k e none in
          let g : text x.0 y.0 ≡ [] =
          sym (ap (λ (o : Option X). option_map_or (text x.0) o []) y.1)
          ∙ sym (ap (λ (p : Option ℕ). option_map_or (λ other. option_map_or (text x.0) (slice_get news other) []) p []) f)
          ∙ sym (ap (λ (o : Option X). option_map_or (λ old. option_map_or (λ other. option_map_or (text old) (slice_get news other) []) (first_place name (map name_of news)) []) o []) x.1)
          ∙ t in
          ap (option_map value) x.1 ∙ ap (λ (v : V). Some v) (same x.0 y.0 g) ∙ sym (ap (option_map value) y.1)

-- of a list and itself no line is due
pub none_of_same : {X : Type 0} (name_of : X → List ℕ) (text : X → X → List ℕ) (xs : List X) → ((x : X) → text x x ≡ [])
    → flat_map (both_text text xs xs) (matches_of (map name_of xs) (map name_of xs)) ≡ []
none_of_same {X = X} name_of text xs same =
    all (both_text text xs xs) (map name_of xs) (map name_of xs) (λ name k first. by name k first (thing_there name_of xs name k first))
  where
    by : (name : List ℕ) (k : ℕ) → first_place name (map name_of xs) ≡ Some k → (x : X) × (slice_get xs k ≡ Some x)
        → both_text text xs xs (record { place = k; other = first_place name (map name_of xs) }) ≡ []
    by name k first x =
        ap (λ (o : Option ℕ). both_text text xs xs (record { place = k; other = o })) first
        ∙ ap (λ (o : Option X). option_map_or (λ old. option_map_or (text old) o []) o []) x.1 ∙ same x.0

pub all_stand : (names : List (List ℕ)) → AllStand names names
all_stand names name k first = ap is_some first

-- ---- counts

-- a mark for each thing that passes
abbrev pub marks : {X : Type 0} → (X → Bool) → List X → List ℕ
marks p xs = flat_map (λ x. if p x then 0 ∷ [] else []) xs

abbrev one_if : Bool → ℕ
one_if b = if b then 1 else 0

-- there are as many marks as are counted
pub signs : {X : Type 0} (p : X → Bool) (xs : List X) → length (marks p xs) ≡ count_by p xs
signs p [] = refl
signs p (x ∷ xs) = by (p x) refl (signs p xs) (sum_by-cons (λ y. if p y then 1 else 0) x xs)
  where
    by : (b : Bool) → p x ≡ b → length (marks p xs) ≡ count_by p xs
        → count_by p (x ∷ xs) ≡ one_if (p x) + count_by p xs
        → length (cond b (0 ∷ []) [] ++ marks p xs) ≡ count_by p (x ∷ xs)
    by true e h c = let one : one_if (p x) ≡ 1 = ap one_if e in omega arith
    by false e h c = let none : one_if (p x) ≡ 0 = ap one_if e in omega arith
