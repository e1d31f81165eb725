-- The objects of listed symbols.
use Rattle.std.proofs.Common.{◌≡◌, ℕ, ◌<◌, ◌+◌, ◌||◌, cond, not, Bool, true, false, List, [], ◌∷◌, ◌++◌, length, map, take, get_or, filter, is_some, bytes_eq, refl, sym, ap, ◌∙◌, if◌then◌else◌}
use Rattle.std.specs.List.{list_any, AllByRecursion}
use Rattle.std.proofs.lemmas.List.{map-append, append-nil}
use Rattle.std.proofs.lemmas.List.Elements.{filter_more}
use Rattle.first_places.specs.Groups.{firsts}
use Rattle.first_places.specs.Places.{first_place}
use Rattle.first_places.proofs.Somewhere.{stands_somewhere}
use Rattle.first_places.proofs.Firsts.{any_first, firsts_more}
use Rattle.pn_types.specs.declared.image.Symbol.{Symbol}
use Rattle.resource_tree.specs.Columns.{objects_at}
use Rattle.resource_tree.specs.Resources.{ObjectNode, object_of, objects_of, is_listed}
use Rattle.resource_tree.proofs.Columns.{names_held, objects_more}

-- ---- one more symbol

module _ (prefixes : List (List ℕ)) (symbols : List Symbol) (i : ℕ) (s : Symbol) (lt : i < length symbols) (is : s ≡ get_or symbols i s) where
  abbrev listed : List Symbol
  listed = filter (is_listed prefixes) (take i symbols)

  abbrev first : List Symbol → List Symbol
  first = firsts (λ s. s.name)

  listed_more : filter (is_listed prefixes) (take (i + 1) symbols) ≡ listed ++ cond (is_listed prefixes s) (s ∷ []) []
  listed_more = filter_more (is_listed prefixes) symbols i s lt ∙ ap (λ (x : Symbol). listed ++ cond (is_listed prefixes x) (x ∷ []) []) (sym is)

  pub unlisted : is_listed prefixes s ≡ false → objects_of prefixes (take (i + 1) symbols) ≡ objects_of prefixes (take i symbols)
  unlisted h = ap (λ (l : List Symbol). map object_of (first l)) (listed_more ∙ ap (λ (b : Bool). listed ++ cond b (s ∷ []) []) h ∙ append-nil listed)

  module _ (names : List (List ℕ)) (ats : List ℕ) (even : length names ≡ length ats) (all : objects_at names ats ≡ objects_of prefixes (take i symbols)) (yes : is_listed prefixes s ≡ true) where
    there : list_any (λ x. bytes_eq s.name x.name) listed ≡ is_some (first_place s.name names)
    there =
        sym (any_first (λ x. x.name) s.name listed)
        ∙ any_map (first listed)
        ∙ ap (λ (os : List ObjectNode). list_any (bytes_eq s.name) (map (λ o. o.name) os)) (sym all)
        ∙ ap (list_any (bytes_eq s.name)) (names_held names ats even)
        ∙ sym (stands_somewhere s.name names)
      where
        any_map : (xs : List Symbol) → list_any (λ x. bytes_eq s.name x.name) xs ≡ list_any (bytes_eq s.name) (map (λ o. o.name) (map object_of xs))
        any_map [] = refl
        any_map (x ∷ xs) = ap (λ (b : Bool). bytes_eq s.name x.name || b) (any_map xs)

    more : objects_of prefixes (take (i + 1) symbols) ≡ map object_of (if is_some (first_place s.name names) then first listed else first listed ++ s ∷ [])
    more =
        ap (λ (l : List Symbol). map object_of (first l)) (listed_more ∙ ap (λ (b : Bool). listed ++ cond b (s ∷ []) []) yes)
        ∙ ap (map object_of) (firsts_more (λ x. x.name) listed s ∙ ap (λ (b : Bool). if b then first listed else first listed ++ s ∷ []) there)

    -- a symbol whose name an object has
    pub known : is_some (first_place s.name names) ≡ true → objects_at names ats ≡ objects_of prefixes (take (i + 1) symbols)
    known h = all ∙ sym (more ∙ ap (λ (b : Bool). map object_of (if b then first listed else first listed ++ s ∷ [])) h)

    -- a symbol with a new name
    pub new : is_some (first_place s.name names) ≡ false → objects_at (names ++ s.name ∷ []) (ats ++ s.at ∷ []) ≡ objects_of prefixes (take (i + 1) symbols)
    new h =
        objects_more names ats s.name s.at even
        ∙ ap (λ (os : List ObjectNode). os ++ object_of s ∷ []) all
        ∙ sym (more ∙ ap (λ (b : Bool). map object_of (if b then first listed else first listed ++ s ∷ [])) h ∙ map-append object_of (first listed) (s ∷ []))

-- ---- objects lie below what their symbols lie below

module _ {X : Type 0} (P : X → Type 0) where
  filter_all : (p : X → Bool) (xs : List X) → AllByRecursion P xs → AllByRecursion P (filter p xs)
  filter_all p [] h = tt
  filter_all p (x ∷ xs) h = by (p x) (filter_all p xs h.1)
    where
      by : (b : Bool) → AllByRecursion P (filter p xs) → AllByRecursion P (cond b (x ∷ filter p xs) (filter p xs))
      by true g = (h.0, g)
      by false g = g

  firsts_all : (name_of : X → List ℕ) (xs : List X) → AllByRecursion P xs → AllByRecursion P (firsts name_of xs)
  firsts_all name_of [] h = tt
  firsts_all name_of (x ∷ xs) h = (h.0, filter_all (λ y. not (bytes_eq (name_of x) (name_of y))) (firsts name_of xs) (firsts_all name_of xs h.1))

mapped_all : (n : ℕ) (ss : List Symbol) → AllByRecursion (λ s. s.at < n) ss → AllByRecursion (λ o. o.at < n) (map object_of ss)
mapped_all n [] h = tt
mapped_all n (s ∷ ss) h = (h.0, mapped_all n ss h.1)

pub objects_low : (n : ℕ) (prefixes : List (List ℕ)) (ss : List Symbol) → AllByRecursion (λ s. s.at < n) ss → AllByRecursion (λ o. o.at < n) (objects_of prefixes ss)
objects_low n prefixes ss h =
    let listed = filter (is_listed prefixes) ss in
    mapped_all n (firsts (λ s. s.name) listed) (firsts_all (λ s. s.at < n) (λ s. s.name) listed (filter_all (λ s. s.at < n) (is_listed prefixes) ss h))
