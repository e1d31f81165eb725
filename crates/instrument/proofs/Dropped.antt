-- The sites of an instrument are dropped in a walk over the rooms by place.
use Rattle.std.proofs.Common.{◌≡◌, ℕ, zero, suc, add-one, ◌+◌, ◌<◌, ◌≤◌, List, [], ◌∷◌, Option, Some, None, refl, sym, ap, ◌∙◌, subst, arith, filter, find, take, drop, get_or, length, map}
use Rattle.std.specs.Prelude.{true, false, not, ◌&&◌, ◌==◌}
use Rattle.std.specs.Option.{is_some, option_map}
use Rattle.std.proofs.lemmas.Bool.{true≢false, and_from, and_parts}
use Rattle.std.proofs.lemmas.List.{length-append, length-map}
use Rattle.std.proofs.lemmas.Option.{none-some}
use Rattle.bucket_chains.specs.Entries.{bucket_at, bucket_of, IsFirst}
use Rattle.bucket_chains.specs.Left.{present_entries, buckets_of}
use Rattle.bucket_chains.proofs.Nexts.{IsNext, from_next, is_next}
use Rattle.bucket_chains.proofs.Skips.{Follows, entry_first, skips_to}
use Rattle.bucket_chains.proofs.Walks.{left_map}
use Rattle.machine.specs.Cores.{In}
use Rattle.instrument.specs.Agendas.{AgendaData}
use Rattle.instrument.specs.Books.{Book, base_leaves, is_held, is_mini_of, mini_leaves, removing, rooms_left, with_hold, without_site}
use Rattle.instrument.specs.Droppings.{book_of, places_left, places_without}
use Rattle.instrument.specs.Placements.{is_site_of, without_sites}
use Rattle.instrument.specs.RoomPlaces.{RoomPlaces, owner_key}
use Rattle.instrument.specs.Spaces.{AreDistinct}
use Rattle.instrument.specs.ToolTexts.{for_drops, held_minis}
use Rattle.instrument.specs.declared.entry.Entry.TheVariants.{Free, UnlinkMini, UnlinkPoint}
use Rattle.instrument.specs.declared.room.Hold.{Hold}
use Rattle.instrument.specs.declared.room.Room.{Room}
use Rattle.instrument.proofs.RoomLists.{left_parts}
use Rattle.instrument.proofs.RoomSeeks.{filter_skips, room_own}
use Rattle.instrument.proofs.Sites.{distinct_without, entries_there, held_without, in_at, site_dropped, site_held}

-- ---- the rooms by place and the rooms that are left

removed_left : (o : Option Room) (p : ℕ) (places : List (Option Room)) → present_entries (places_left o p places) ≡ rooms_left o p (present_entries places)
removed_left (Some other) p places = refl
removed_left None p places = left_map (with_hold (base_leaves p)) places

pub dropped_left : (x : Room) (rooms : RoomPlaces) (agenda : AgendaData) → present_entries (places_without x rooms.places) ≡ (without_site x (book_of rooms agenda)).rooms
dropped_left x rooms agenda =
    removed_left (find (is_mini_of x.point) (present_entries (map (option_map (with_hold (mini_leaves x.at))) rooms.places))) x.point (map (option_map (with_hold (mini_leaves x.at))) rooms.places)
    ∙ ap (λ rs. rooms_left (find (is_mini_of x.point) rs) x.point rs) (left_map (with_hold (mini_leaves x.at)) rooms.places)

-- ---- the entries of a site

pub point_stays : (o base : Option Room) (p m : ℕ) → is_some o ≡ true → removing o base p m ≡ UnlinkMini p m ∷ Free p ∷ []
point_stays (Some other) base p m h = refl
point_stays None base p m h = absurd (true≢false (sym h))

pub point_bare : (o : Option Room) (p m : ℕ) → is_some o ≡ false → removing o None p m ≡ UnlinkMini p m ∷ Free p ∷ []
point_bare (Some other) p m h = refl
point_bare None p m h = refl

pub point_leaves : (o : Option Room) (b : Room) (p m : ℕ) → is_some o ≡ false → removing o (Some b) p m ≡ UnlinkMini p m ∷ UnlinkPoint p b.at ∷ Free p ∷ []
point_leaves (Some other) b p m h = absurd (true≢false h)
point_leaves None b p m h = refl

-- ---- the shape of the places stays

shape_map : (h : Room → Hold) (i : ℕ) (es : List (Option Room)) → length (present_entries (take i (map (option_map (with_hold h)) es))) ≡ length (present_entries (take i es))
shape_map h zero es = refl
shape_map h (suc i) [] = refl
shape_map h (suc i) (None ∷ es) = shape_map h i es
shape_map h (suc i) (Some x ∷ es) = ap (λ n. suc n) (shape_map h i es)

owners_map : (h : Room → Hold) (es : List (Option Room)) → buckets_of owner_key (map (option_map (with_hold h)) es) ≡ buckets_of owner_key es
owners_map h [] = refl
owners_map h (None ∷ es) = ap (λ l. None ∷ l) (owners_map h es)
owners_map h (Some x ∷ es) = ap (λ l. Some (bucket_of (owner_key x)) ∷ l) (owners_map h es)

shape_left : (o : Option Room) (p i : ℕ) (es : List (Option Room)) → length (present_entries (take i (places_left o p es))) ≡ length (present_entries (take i es))
shape_left (Some other) p i es = refl
shape_left None p i es = shape_map (base_leaves p) i es

owners_left : (o : Option Room) (p : ℕ) (es : List (Option Room)) → buckets_of owner_key (places_left o p es) ≡ buckets_of owner_key es
owners_left (Some other) p es = refl
owners_left None p es = owners_map (base_leaves p) es

len_left : (o : Option Room) (p : ℕ) (es : List (Option Room)) → length (places_left o p es) ≡ length es
len_left (Some other) p es = refl
len_left None p es = length-map es (option_map (with_hold (base_leaves p)))

shape_without : (x : Room) (i : ℕ) (es : List (Option Room)) → length (present_entries (take i (places_without x es))) ≡ length (present_entries (take i es))
shape_without x i es =
    shape_left (find (is_mini_of x.point) (present_entries (map (option_map (with_hold (mini_leaves x.at))) es))) x.point i (map (option_map (with_hold (mini_leaves x.at))) es)
    ∙ shape_map (mini_leaves x.at) i es

pub owners_without : (x : Room) (es : List (Option Room)) → buckets_of owner_key (places_without x es) ≡ buckets_of owner_key es
owners_without x es =
    owners_left (find (is_mini_of x.point) (present_entries (map (option_map (with_hold (mini_leaves x.at))) es))) x.point (map (option_map (with_hold (mini_leaves x.at))) es)
    ∙ owners_map (mini_leaves x.at) es

pub len_without : (x : Room) (es : List (Option Room)) → length (places_without x es) ≡ length es
len_without x es =
    len_left (find (is_mini_of x.point) (present_entries (map (option_map (with_hold (mini_leaves x.at))) es))) x.point (map (option_map (with_hold (mini_leaves x.at))) es)
    ∙ length-map es (option_map (with_hold (mini_leaves x.at)))

-- ---- the places of the rooms that are left

-- those after a place
rank_drop : (i : ℕ) (es : List (Option Room)) → drop (length (present_entries (take i es))) (present_entries es) ≡ present_entries (drop i es)
rank_drop zero es = refl
rank_drop (suc i) [] = refl
rank_drop (suc i) (None ∷ es) = rank_drop i es
rank_drop (suc i) (Some x ∷ es) = rank_drop i es

rank_next : (i : ℕ) (es : List (Option Room)) (x : Room) → get_or es i None ≡ Some x → length (present_entries (take (suc i) es)) ≡ length (present_entries (take i es)) + 1
rank_next i [] x h = absurd (none-some x h)
rank_next zero (None ∷ es) x h = absurd (none-some x h)
rank_next zero (Some y ∷ es) x h = refl
rank_next (suc i) (None ∷ es) x h = rank_next i es x h
rank_next (suc i) (Some y ∷ es) x h = omega (arith, rank_next i es x h)

rank_room : (i : ℕ) (es : List (Option Room)) (x d : Room) → get_or es i None ≡ Some x → x ≡ get_or (present_entries es) (length (present_entries (take i es))) d
rank_room i [] x d h = absurd (none-some x h)
rank_room zero (None ∷ es) x d h = absurd (none-some x h)
rank_room zero (Some y ∷ es) x d h = cc
rank_room (suc i) (None ∷ es) x d h = rank_room i es x d h
rank_room (suc i) (Some y ∷ es) x d h = rank_room i es x d h

rank_within : (i : ℕ) (es : List (Option Room)) (x : Room) → get_or es i None ≡ Some x → length (present_entries (take i es)) < length (present_entries es)
rank_within i es x h = omega (arith, rank_next i es x h, ap length (left_parts es (suc i)), length-append (present_entries (take (suc i) es)) (present_entries (drop (suc i) es)))

-- ---- the walk

pub site_own : (n : ℕ) (x : Room) → is_site_of n x ≡ true → bucket_of (owner_key x) ≡ bucket_of n
site_own n x e =
    let parts = and_parts (not x.base) ((x.owner == n) && is_held x.hold) e in
    room_own n x (and_from (not x.base) (x.owner == n) parts.0 (and_parts (x.owner == n) (is_held x.hold) parts.1).0)

module _ (n : ℕ) (rooms₀ : RoomPlaces) (agenda₀ : AgendaData) where
  abbrev pub all_sites : Book
  all_sites = without_sites (filter (is_site_of n) (present_entries rooms₀.places)) (book_of rooms₀ agenda₀)

  -- the sites before the next place were dropped
  pub record IsDropping (rooms : RoomPlaces) (agenda : AgendaData) (next : Option ℕ) : Type 0 where
    pub at : IsNext (bucket_of n) (buckets_of owner_key rooms.places) next
    pub book : without_sites (filter (is_site_of n) (present_entries (from_next next rooms.places))) (book_of rooms agenda) ≡ all_sites
    pub distinct : AreDistinct (present_entries rooms.places)
    pub spare : rooms.spare ≡ rooms₀.spare
    pub entries : agenda₀.room + for_drops (present_entries rooms.places) ≤ agenda.room + for_drops (present_entries rooms₀.places)

  sites_to : (es : List (Option Room)) (from : ℕ) (r : Option ℕ) → IsFirst (bucket_of n) from (buckets_of owner_key es) r → filter (is_site_of n) (present_entries (from_next r es)) ≡ filter (is_site_of n) (present_entries (drop from es))
  sites_to es from r h = skips_to owner_key (bucket_of n) (is_site_of n) (site_own n) (filter (is_site_of n)) (filter_skips (is_site_of n)) es from r h

  pub dropping_begun : (next : Option ℕ) → IsFirst (bucket_of n) 0 (buckets_of owner_key rooms₀.places) next → AreDistinct (present_entries rooms₀.places) → IsDropping rooms₀ agenda₀ next
  dropping_begun next h distinct = record {
    at = is_next (bucket_of n) 0 (buckets_of owner_key rooms₀.places) next h;
    book = ap (λ l. without_sites l (book_of rooms₀ agenda₀)) (sites_to rooms₀.places 0 next h);
    distinct = distinct;
    spare = refl;
    entries = omega arith;
  }

  module _ (rooms : RoomPlaces) (agenda : AgendaData) (next : Option ℕ) (place : ℕ) (is : next ≡ Some place) (dropping : IsDropping rooms agenda next) (x : Room) (here : get_or rooms.places place None ≡ Some x) where
    at_here : bucket_at (buckets_of owner_key rooms.places) place ≡ Some (bucket_of n)
    at_here = subst (IsNext (bucket_of n) (buckets_of owner_key rooms.places)) is dropping.at

    book_here : without_sites (filter (is_site_of n) (present_entries (drop place rooms.places))) (book_of rooms agenda) ≡ all_sites
    book_here = subst (λ o. without_sites (filter (is_site_of n) (present_entries (from_next o rooms.places))) (book_of rooms agenda) ≡ all_sites) is dropping.book

    -- one that is no site is passed
    pub dropping_on : (r : Option ℕ) → Follows (buckets_of owner_key rooms.places) place r → is_site_of n x ≡ false → IsDropping rooms agenda r
    dropping_on r h fails = record {
      at = is_next (bucket_of n) (place + 1) (buckets_of owner_key rooms.places) r (h (bucket_of n) at_here);
      book = ap (λ l. without_sites l (book_of rooms agenda)) (sites_to rooms.places (place + 1) r (h (bucket_of n) at_here) ∙ sym (ap (filter (is_site_of n)) (entry_first rooms.places place x here) ∙ filter_skips (is_site_of n) x (present_entries (drop (place + 1) rooms.places)) fails)) ∙ book_here;
      distinct = dropping.distinct;
      spare = dropping.spare;
      entries = dropping.entries;
    }

    abbrev k : ℕ
    k = length (present_entries (take place rooms.places))

    pub room_in : In x (present_entries rooms.places)
    room_in = in_at (present_entries rooms.places) k x (rank_within place rooms.places x here) (rank_room place rooms.places x x here)

    pub entries_enough : for_drops (present_entries rooms₀.places) ≤ agenda₀.room → is_site_of n x ≡ true → 3 ≤ agenda.room
    entries_enough enough s = omega (arith, enough, dropping.entries, entries_there n (present_entries rooms.places) x room_in s)

    -- a site is dropped
    pub dropping_more : (rooms' : RoomPlaces) (agenda' : AgendaData) (r : Option ℕ) → is_site_of n x ≡ true
        → rooms' ≡ record rooms { places = places_without x rooms.places } → agenda'.entries ≡ (without_site x (book_of rooms agenda)).agenda → agenda.room ≤ agenda'.room + 3
        → Follows (buckets_of owner_key rooms'.places) place r → IsDropping rooms' agenda' r
    dropping_more rooms' agenda' r s e a room h =
        let places : rooms'.places ≡ places_without x rooms.places = ap (λ (z : RoomPlaces). z.places) e in
        let owners = ap (buckets_of owner_key) places ∙ owners_without x rooms.places in
        let first = h (bucket_of n) (subst (λ bs. bucket_at bs place ≡ Some (bucket_of n)) (sym owners) at_here) in
        let left_is : present_entries rooms'.places ≡ (without_site x (book_of rooms agenda)).rooms = ap present_entries places ∙ dropped_left x rooms agenda in
        let book : book_of rooms' agenda' ≡ without_site x (book_of rooms agenda) = ap (λ l. record { rooms = l; agenda = agenda'.entries }) left_is ∙ ap (λ l. record { rooms = (without_site x (book_of rooms agenda)).rooms; agenda = l }) a in
        let dropped = site_dropped n (book_of rooms agenda) k x (rank_within place rooms.places x here) (rank_room place rooms.places x x here) dropping.distinct s in
        let rank : length (present_entries (take (place + 1) rooms'.places)) ≡ k + 1 =
        ap (λ i. length (present_entries (take i rooms'.places))) (add-one place) ∙ ap (λ l. length (present_entries (take (suc place) l))) places ∙ shape_without x (suc place) rooms.places ∙ rank_next place rooms.places x here in
        let rest : present_entries (drop (place + 1) rooms'.places) ≡ drop (k + 1) (without_site x (book_of rooms agenda)).rooms =
        sym (rank_drop (place + 1) rooms'.places) ∙ ap (λ i. drop i (present_entries rooms'.places)) rank ∙ ap (drop (k + 1)) left_is in
        record {
          at = is_next (bucket_of n) (place + 1) (buckets_of owner_key rooms'.places) r first;
          book = ap (λ l. without_sites l (book_of rooms' agenda')) (sites_to rooms'.places (place + 1) r first ∙ ap (filter (is_site_of n)) rest)
              ∙ ap (without_sites (filter (is_site_of n) (drop (k + 1) (without_site x (book_of rooms agenda)).rooms))) book
              ∙ dropped
              ∙ ap (λ l. without_sites (filter (is_site_of n) l) (book_of rooms agenda)) (rank_drop place rooms.places)
              ∙ book_here;
          distinct = subst AreDistinct (sym left_is) (distinct_without x (book_of rooms agenda) dropping.distinct);
          spare = ap (λ (z : RoomPlaces). z.spare) e ∙ dropping.spare;
          entries = omega (arith, room, dropping.entries, held_without x (book_of rooms agenda) room_in (site_held n x s), ap held_minis left_is);
        }

  pub dropping_over : (rooms : RoomPlaces) (agenda : AgendaData) (next : Option ℕ) → next ≡ None → IsDropping rooms agenda next → book_of rooms agenda ≡ all_sites
  dropping_over rooms agenda next is dropping = subst (λ o. without_sites (filter (is_site_of n) (present_entries (from_next o rooms.places))) (book_of rooms agenda) ≡ all_sites) is dropping.book
