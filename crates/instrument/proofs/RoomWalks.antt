-- Rooms are changed in their places, in the bucket of a point or of an address.
use Rattle.std.proofs.Common.{◌≡◌, ℕ, ◌+◌, ◌<◌, true, false, cond, Option, Some, None, List, length, map, set, get_or, inl, inr, ◌⊎◌, refl, sym, ap, subst, ◌∙◌, arith}
use Rattle.std.specs.Prelude.{◌&&◌, ◌==◌, not}
use Rattle.std.specs.Option.{option_map}
use Rattle.std.proofs.lemmas.Bool.{cases_Bool, eqb-true, and_parts}
use Rattle.bucket_chains.specs.Entries.{bucket_of, IsFirst}
use Rattle.bucket_chains.specs.Left.{buckets_of}
use Rattle.bucket_chains.proofs.Nexts.{IsNext, WalkedTo, is_next, same_buckets, walk_begun, walked_on}
use Rattle.bucket_chains.proofs.Skips.{Follows, follows_here, place_has, place_within}
use Rattle.bucket_chains.proofs.Walks.{IsChange, changed}
use Rattle.instrument.specs.Books.{base_leaves, leaving, mini_leaves, unlinked_at, with_hold}
use Rattle.instrument.specs.RoomPlaces.{AreRooms, RoomEntries, RoomPlaces, at_key, owner_key, point_key}
use Rattle.instrument.specs.declared.room.Hold.{Hold}
use Rattle.instrument.specs.declared.room.Hold.TheVariants.{Unlinked}
use Rattle.instrument.specs.declared.room.Room.{Room}
use Rattle.instrument.proofs.RoomLists.{left_same}

-- ---- the rooms of other keys stay as they are

kept_hold : (f : Room → Hold) (x : Room) → f x ≡ x.hold → with_hold f x ≡ x
kept_hold f x e = ap (λ h. record x { hold = h }) e

pub mini_change : (m : ℕ) → IsChange at_key (bucket_of m) (option_map (with_hold (mini_leaves m)))
mini_change m = record { none = refl; other = other }
  where
    other : (x : Room) → (bucket_of x.at ≡ bucket_of m → ⊥) → Some (with_hold (mini_leaves m) x) ≡ Some x
    other x h = ap Some (kept_hold (mini_leaves m) x (by (cases_Bool (not x.base && (x.at == m)))))
      where
        by : ((not x.base && (x.at == m)) ≡ true) ⊎ ((not x.base && (x.at == m)) ≡ false) → mini_leaves m x ≡ x.hold
        by (inl e) = absurd (h (ap bucket_of (eqb-true x.at m (and_parts (not x.base) (x.at == m) e).1)))
        by (inr e) = ap (λ c. cond c (leaving x.hold) x.hold) e

pub base_change : (p : ℕ) → IsChange point_key (bucket_of p) (option_map (with_hold (base_leaves p)))
base_change p = record { none = refl; other = other }
  where
    other : (x : Room) → (bucket_of x.point ≡ bucket_of p → ⊥) → Some (with_hold (base_leaves p) x) ≡ Some x
    other x h = ap Some (kept_hold (base_leaves p) x (by (cases_Bool (x.base && (x.point == p)))))
      where
        by : ((x.base && (x.point == p)) ≡ true) ⊎ ((x.base && (x.point == p)) ≡ false) → base_leaves p x ≡ x.hold
        by (inl e) = absurd (h (ap bucket_of (eqb-true x.point p (and_parts x.base (x.point == p) e).1)))
        by (inr e) = ap (λ c. cond c (leaving x.hold) x.hold) e

pub unlink_change : (m : ℕ) → IsChange at_key (bucket_of m) (option_map (with_hold (unlinked_at m)))
unlink_change m = record { none = refl; other = other }
  where
    other : (x : Room) → (bucket_of x.at ≡ bucket_of m → ⊥) → Some (with_hold (unlinked_at m) x) ≡ Some x
    other x h = ap Some (kept_hold (unlinked_at m) x (by (cases_Bool (x.at == m))))
      where
        by : ((x.at == m) ≡ true) ⊎ ((x.at == m) ≡ false) → unlinked_at m x ≡ x.hold
        by (inl e) = absurd (h (ap bucket_of (eqb-true x.at m e)))
        by (inr e) = ap (λ c. cond c Unlinked x.hold) e

-- ---- a walk

module _ (key : Room → ℕ) (b : ℕ) (f : Room → Hold) (own : (x : Room) → key (with_hold f x) ≡ key x) (change : IsChange key b (option_map (with_hold f))) where
  -- the rooms before the next place were changed
  pub record IsChanging (old : RoomPlaces) (places : List (Option Room)) (index : RoomEntries) (len capacity count spare : ℕ) (next : Option ℕ) : Type 0 where
    pub rooms : AreRooms places index len capacity count spare
    pub at : IsNext b (buckets_of key places) next
    pub walked : WalkedTo key (option_map (with_hold f)) old.places places next
    pub spare_is : spare ≡ old.spare

  pub changing_begun : (places : List (Option Room)) (index : RoomEntries) (len capacity count spare : ℕ) (buckets : List (Option ℕ)) (next : Option ℕ) → buckets ≡ buckets_of key places
      → AreRooms places index len capacity count spare → IsFirst b 0 buckets next → IsChanging (record { places = places; spare = spare }) places index len capacity count spare next
  changing_begun places index len capacity count spare buckets next fit rooms h =
      let first : IsFirst b 0 (buckets_of key places) next = subst (λ bs. IsFirst b 0 bs next) fit h in
      record { rooms = rooms; at = is_next b 0 (buckets_of key places) next first; walked = walk_begun key b (option_map (with_hold f)) places next change first; spare_is = refl }

  module _ (old : RoomPlaces) (places : List (Option Room)) (index : RoomEntries) (len capacity count spare : ℕ) (next : Option ℕ) (place : ℕ) (is : next ≡ Some place)
      (changing : IsChanging old places index len capacity count spare next) (o : Option Room) (x : Room) (read : o ≡ get_or places place o) (some : o ≡ Some x)
      (buckets : List (Option ℕ)) (fit : buckets ≡ buckets_of key places) where
    here : get_or places place None ≡ Some x
    here = place_has key b places buckets fit next place is changing.at o x read some

    within : place < length places
    within = place_within key b places buckets fit next place is changing.at

    now_places : List (Option Room)
    now_places = set places place (Some (with_hold f x))

    rooms_after : AreRooms now_places index len capacity count spare
    unfolding now_places
    rooms_after = record {
      indexed = record {
        points = changing.rooms.indexed.points ∙ sym (same_buckets point_key places place x (with_hold f x) here refl);
        addresses = changing.rooms.indexed.addresses ∙ sym (same_buckets at_key places place x (with_hold f x) here refl);
        owners = changing.rooms.indexed.owners ∙ sym (same_buckets owner_key places place x (with_hold f x) here refl);
      };
      counted = changing.rooms.counted ∙ sym (left_same places place x (with_hold f x) here);
      memory = changing.rooms.memory;
      room = changing.rooms.room;
    }

    pub changing_on : (r : Option ℕ) → Follows buckets place r → IsChanging old (set places place (Some (with_hold f x))) index len capacity count spare r
    unfolding now_places
    changing_on r h =
        let same : buckets_of key (set places place (Some (with_hold f x))) ≡ buckets_of key places = same_buckets key places place x (with_hold f x) here (ap bucket_of (own x)) in
        let first : IsFirst b (place + 1) (buckets_of key (set places place (Some (with_hold f x)))) r =
        subst (λ bs. IsFirst b (place + 1) bs r) (sym same) (follows_here key b places buckets fit next place is changing.at r h) in
        let walked = subst (WalkedTo key (option_map (with_hold f)) old.places places) is changing.walked in
        record {
          rooms = rooms_after;
          at = is_next b (place + 1) (buckets_of key (set places place (Some (with_hold f x)))) r first;
          walked = walked_on key b (option_map (with_hold f)) old.places (set places place (Some (with_hold f x))) (place + 1) r change first
              (changed key place (Some (with_hold f x)) within (sym (ap (option_map (with_hold f)) (sym (walked.rest place (omega arith)) ∙ here))) walked);
          spare_is = changing.spare_is;
        }

  pub changing_over : (old : RoomPlaces) (places : List (Option Room)) (index : RoomEntries) (len capacity count spare : ℕ) (next : Option ℕ) → next ≡ None
      → IsChanging old places index len capacity count spare next → record { places = places; spare = spare } ≡ record old { places = map (option_map (with_hold f)) old.places }
  changing_over old places index len capacity count spare next is changing =
      let walked : places ≡ map (option_map (with_hold f)) old.places = subst (WalkedTo key (option_map (with_hold f)) old.places places) is changing.walked in
      ap (λ ps. record { places = ps; spare = spare }) walked ∙ ap (λ n. record { places = map (option_map (with_hold f)) old.places; spare = n }) changing.spare_is
