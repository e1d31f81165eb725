-- For proofs alone: items at places, of which some no longer stand.
use Rattle.std.specs.Prelude.{◌≡◌, ◌⊎◌, ◌≤◌, if◌then◌else◌, ℕ, zero, suc, ◌+◌, ◌==◌, Bool, false, Option, Some, None, List, [], ◌∷◌, ◌++◌, length, reverse, filter, slice_get, slice_set, option_to_list}
use Rattle.std.specs.List.{list_any, range_with_len}
use Rattle.std.specs.Option.{option_and_then, option_map, option_map_or}
use Rattle.std.specs.Str.{bytes_eq}
use Rattle.mdl_ast.specs.declared.items.Item.{Item}
use Rattle.mdl_ast.specs.declared.items.Item.TheVariants.{Hypothesis}
use Rattle.first_places.specs.Numbers.{numbers_under}
use Rattle.directives.specs.declared.name_places.NamePlaces.{NamePlaces}
use Rattle.directives.specs.Hypotheses.{is_named}
use Rattle.directives.specs.Acts.{parent_in}

-- ---- what stands at the places

abbrev pub slot : List (Option Item) → ℕ → Option Item
slot [] k = None
slot (s ∷ slots) zero = s
slot (s ∷ slots) (suc k) = slot slots k

abbrev pub without : List (Option Item) → ℕ → List (Option Item)
without slots k = slice_set slots k None

abbrev pub with_change : List (Option Item) → ℕ → (Item → Item) → List (Option Item)
with_change slots k change = slice_set slots k (option_map change (slot slots k))

-- what is taken out of places, one after another
abbrev pub items_in_slots : List ℕ → List (Option Item) → List Item
items_in_slots [] slots = []
items_in_slots (k ∷ ks) slots = option_to_list (slot slots k) ++ items_in_slots ks (without slots k)

-- what is left then
abbrev pub items_left : List ℕ → List (Option Item) → List (Option Item)
items_left [] slots = slots
items_left (k ∷ ks) slots = items_left ks (without slots k)

-- what stands at each place stood there before
abbrev pub IsLeftOf : List (Option Item) → List (Option Item) → Type 0
IsLeftOf old new = (k : ℕ) → (slot new k ≡ slot old k) ⊎ (slot new k ≡ None)

abbrev pub count : List (Option Item) → ℕ
count [] = 0
count (s ∷ slots) = length (option_to_list s) + count slots

-- the places in the order in which they are emptied: those of the hypotheses that were moved, the last moved first, and then all
abbrev pub order : List (Option Item) → List ℕ → List ℕ
order slots moved = reverse moved ++ range_with_len 0 (length slots)

unfoldable pub standing : List (Option Item) → List ℕ → List Item
standing slots moved = items_in_slots (order slots moved) slots

-- ---- places under names

-- no two hypotheses have one name
abbrev pub HaveOwnNames : List Item → Type 0
HaveOwnNames items = (name : List ℕ) → length (filter (is_named name) items) ≤ 1

abbrev pub is_child : List ℕ → Item → Bool
is_child parent item = option_map_or (bytes_eq parent) (parent_in item) false

abbrev pub is_place : List ℕ → ℕ → Bool
is_place places k = list_any (λ place. place == k) places

-- the places under a name
abbrev pub under : NamePlaces → List ℕ → List ℕ
under places name = numbers_under (λ key. key.items) (λ own. own.items) name places.places.entries

-- under each name are the places of the standing items that pass the name's test
abbrev pub AreUnder : (List ℕ → Item → Bool) → List (Option Item) → (List ℕ → List ℕ) → Type 0
AreUnder test slots under = (name : List ℕ) (k : ℕ) (item : Item) → slot slots k ≡ Some item → test name item ≡ is_place (under name) k

-- hypotheses by their names, each of which stands once, and by those of their parents
pub record ArePlaces (slots : List (Option Item)) (named children : List ℕ → List ℕ) : Type 0 where
  pub by_name : AreUnder is_named slots named
  pub once : (name : List ℕ) → length (named name) ≤ 1
  pub by_parent : AreUnder is_child slots children

-- the places of the children of an item
abbrev pub children_of : (List ℕ → List ℕ) → Item → List ℕ
children_of children (Hypothesis h) = children h.name
children_of children item = []

-- what stands at the first of these places
abbrev pub first_at : List (Option Item) → List ℕ → Option Item
first_at slots ks = option_and_then (slot slots) (slice_get ks 0)

-- the places of the items that pass a test, from the k-th
abbrev pub places_where : (Item → Bool) → ℕ → List Item → List ℕ
places_where test k [] = []
places_where test k (x ∷ xs) = (if test x then k ∷ [] else []) ++ places_where test (k + 1) xs
