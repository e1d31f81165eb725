-- What is looked for among the rooms, in the buckets of a point or of an instrument.
use Rattle.std.proofs.Common.{◌≡◌, ℕ, ◌++◌, ◌≤◌, Bool, true, false, cond, Option, Some, List, [], ◌∷◌, length, map, find, filter, refl, ap, ◌∙◌, arith}
use Rattle.std.specs.Prelude.{◌&&◌, ◌||◌, ◌==◌, not}
use Rattle.std.specs.List.{list_any}
use Rattle.std.proofs.lemmas.Bool.{and_parts, eqb-true, not-true}
use Rattle.std.proofs.lemmas.List.{length-append}
use Rattle.pn_types.specs.declared.placed.PlacedSite.{PlacedSite}
use Rattle.bucket_chains.specs.Entries.{bucket_of}
use Rattle.bucket_chains.specs.Left.{present_entries}
use Rattle.bucket_chains.proofs.Skips.{Seeks}
use Rattle.instrument.specs.Books.{is_base_of, is_held, is_mini_of, is_unlinked, stays}
use Rattle.instrument.specs.Placements.{is_mini_room_of, sites_of}
use Rattle.instrument.specs.RoomPlaces.{owner_key, point_key}
use Rattle.instrument.specs.declared.room.Room.{Room}

-- ---- by points

pub base_own : (p : ℕ) (x : Room) → is_base_of p x ≡ true → bucket_of (point_key x) ≡ bucket_of p
base_own p x e = ap bucket_of (eqb-true x.point p (and_parts (x.point == p) (is_held x.hold) (and_parts x.base ((x.point == p) && is_held x.hold) e).1).0)

pub mini_own : (p : ℕ) (x : Room) → is_mini_of p x ≡ true → bucket_of (point_key x) ≡ bucket_of p
mini_own p x e = ap bucket_of (eqb-true x.point p (and_parts (x.point == p) (is_held x.hold) (and_parts (not x.base) ((x.point == p) && is_held x.hold) e).1).0)

pub find_skips : (q : Room → Bool) (x : Room) (xs : List Room) → q x ≡ false → find q (x ∷ xs) ≡ find q xs
find_skips q x xs e = ap (λ c. cond c (Some x) (find q xs)) e

pub find_stops : (q : Room → Bool) (x : Room) (xs : List Room) → q x ≡ true → find q (x ∷ xs) ≡ Some x
find_stops q x xs e = ap (λ c. cond c (Some x) (find q xs)) e

-- ---- by instruments

pub room_own : (n : ℕ) (x : Room) → is_mini_room_of n x ≡ true → bucket_of (owner_key x) ≡ bucket_of n
room_own n x e =
    let parts = and_parts (not x.base) (x.owner == n) e in
    ap bucket_of (ap (λ c. cond c x.at x.owner) (not-true x.base parts.0) ∙ eqb-true x.owner n parts.1)

pub any_skips : (q : Room → Bool) (x : Room) (xs : List Room) → q x ≡ false → list_any q (x ∷ xs) ≡ list_any q xs
any_skips q x xs e = ap (λ c. c || list_any q xs) e

pub any_stops : (q : Room → Bool) (x : Room) (xs : List Room) → q x ≡ true → list_any q (x ∷ xs) ≡ true
any_stops q x xs e = ap (λ c. c || list_any q xs) e

abbrev pub site_of : Room → PlacedSite
site_of x = record { at = x.point; mini = x.at }

pub sites_skip : (n : ℕ) (x : Room) (xs : List Room) → is_mini_room_of n x ≡ false → sites_of n (x ∷ xs) ≡ sites_of n xs
sites_skip n x xs e = ap (λ c. map site_of (cond c (x ∷ filter (is_mini_room_of n) xs) (filter (is_mini_room_of n) xs))) e

pub sites_take : (n : ℕ) (x : Room) (xs : List Room) → is_mini_room_of n x ≡ true → sites_of n (x ∷ xs) ≡ site_of x ∷ sites_of n xs
sites_take n x xs e = ap (λ c. map site_of (cond c (x ∷ filter (is_mini_room_of n) xs) (filter (is_mini_room_of n) xs))) e

-- the sites that are listed, and those at the next place and after it, are all, and there is room for them
pub record IsListing (owner : ℕ) (places : List (Option Room)) (next : Option ℕ) (sites : List PlacedSite) (capacity : ℕ) : Type 0 where
  pub rest : List PlacedSite
  pub seeks : Seeks owner_key (bucket_of owner) (sites_of owner) places next rest
  pub all : sites ++ rest ≡ sites_of owner (present_entries places)
  pub room : length (sites_of owner (present_entries places)) ≤ capacity

-- ---- the rooms that go where a point is freed

abbrev pub goes : ℕ → Room → Bool
goes p x = not (stays p x)

twice_not : (c : Bool) → not (not c) ≡ true → c ≡ true
twice_not true e = refl
twice_not false e = e

pub goes_own : (p : ℕ) (x : Room) → goes p x ≡ true → bucket_of (point_key x) ≡ bucket_of p
goes_own p x e = ap bucket_of (eqb-true x.point p (and_parts (x.point == p) (is_unlinked x.hold) (twice_not ((x.point == p) && is_unlinked x.hold) e)).0)

pub filter_skips : (q : Room → Bool) (x : Room) (xs : List Room) → q x ≡ false → filter q (x ∷ xs) ≡ filter q xs
filter_skips q x xs e = ap (λ c. cond c (x ∷ filter q xs) (filter q xs)) e

-- where none goes, all stay
pub none_goes : (p : ℕ) (xs : List Room) → filter (goes p) xs ≡ [] → filter (stays p) xs ≡ xs
none_goes p [] h = refl
none_goes p (x ∷ xs) h = by (stays p x) h (none_goes p xs)
  where
    by : (c : Bool) → cond (not c) (x ∷ filter (goes p) xs) (filter (goes p) xs) ≡ [] → (filter (goes p) xs ≡ [] → filter (stays p) xs ≡ xs) → cond c (x ∷ filter (stays p) xs) (filter (stays p) xs) ≡ x ∷ xs
    by true g rest = ap (λ l. x ∷ l) (rest g)
    by false g rest = absurd (omega (arith, ap length g))

-- nothing stands before what is the whole
pub whole_behind : (xs ys : List Room) → xs ++ ys ≡ ys → xs ≡ []
whole_behind [] ys h = refl
whole_behind (x ∷ xs) ys h = absurd (omega (arith, ap length h, length-append (x ∷ xs) ys))
