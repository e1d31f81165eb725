-- The rooms of a book in their space, and the entries for drops, where the holds of rooms change.
use Rattle.std.proofs.Common.{◌≡◌, ℕ, ◌+◌, ◌/◌, ◌<◌, ◌≤◌, List, [], ◌∷◌, ◌++◌, Option, Some, None, refl, sym, ap, ◌∙◌, subst, arith, filter, map, cond}
use Rattle.std.specs.Prelude.{Bool, true, false, not, ◌&&◌, ◌==◌, ◌-◌, IfSome, find}
use Rattle.pn_types.specs.declared.limits.TheConstants.{TOOL_TEXT_LEN}
use Rattle.rv_word.specs.Plain.{Words}
use Rattle.tool_space.specs.Rooms.{Rooms, IsTaken, new_space, after_give}
use Rattle.tramp_spec.specs.Codes.{tool_at}
use Rattle.machine.proofs.Lists.{in_map}
use Rattle.instrument.specs.Agendas.{without_first}
use Rattle.instrument.specs.Books.{Book, is_held, is_mini_of, mini_leaves, base_leaves, rooms_left, without_site, with_hold, unlinked_at, rooms_behind}
use Rattle.instrument.specs.Freed.{IsTakenOut}
use Rattle.instrument.specs.Ledgers.{LedgerData}
use Rattle.instrument.specs.Placements.{book_after, first_of, is_site_of, without_sites}
use Rattle.instrument.specs.Spaces.{words_of_room, IsWhole, AreRoomsOf}
use Rattle.instrument.specs.ToolTexts.{held_minis, for_drops, IsToolText}
use Rattle.instrument.specs.declared.entry.Entry.{Entry}
use Rattle.instrument.specs.declared.entry.Entry.TheVariants.{WriteBase, WriteMini, LinkMini, LinkPoint, UnlinkMini, UnlinkPoint, Free}
use Rattle.instrument.specs.declared.room.Hold.{Hold}
use Rattle.instrument.specs.declared.room.Hold.TheVariants.{Unlinked}
use Rattle.instrument.specs.declared.room.Room.{Room}
use Rattle.instrument.proofs.Grown.{behind_goes}
use Rattle.instrument.proofs.Holdings.{space_new, space_map, may_give, middle, taken}

pub rooms_new : (t : Words) (space : Rooms) → space ≡ new_space (tool_at t / 4) (TOOL_TEXT_LEN / 4) → AreRoomsOf t space []
rooms_new t space e = subst (λ (z : Rooms). AreRoomsOf t z []) (sym e) (record {
  taken = space_new words_of_room (tool_at t / 4) (TOOL_TEXT_LEN / 4);
  whole = λ x h. absurd h;
})

-- ---- holds change

pub rooms_hold : (h : Room → Hold) (t : Words) (space : Rooms) (rooms : List Room) → AreRoomsOf t space rooms → AreRoomsOf t space (map (with_hold h) rooms)
rooms_hold h t space rooms k = record {
  taken = space_map words_of_room (with_hold h) (λ x. refl) (tool_at t / 4) (TOOL_TEXT_LEN / 4) space rooms k.taken;
  whole = λ x i. let o = in_map (with_hold h) rooms x i in subst IsWhole (sym o.2) (k.whole o.0 o.1);
}

rooms_after : (t : Words) (space : Rooms) (e : Entry) (rooms : List Room) → AreRoomsOf t space rooms → AreRoomsOf t space (rooms_behind e rooms)
rooms_after t space (UnlinkMini p m) rooms k = rooms_hold (unlinked_at m) t space rooms k
rooms_after t space (UnlinkPoint p m) rooms k = rooms_hold (unlinked_at m) t space rooms k
rooms_after t space (WriteBase b) rooms k = k
rooms_after t space (WriteMini b) rooms k = k
rooms_after t space (LinkMini p m) rooms k = k
rooms_after t space (LinkPoint p m) rooms k = k
rooms_after t space (Free p) rooms k = k

pub rooms_behind_first : (t : Words) (space : Rooms) (agenda : List Entry) (book : Book) → AreRoomsOf t space book.rooms → AreRoomsOf t space (book_after agenda book).rooms
rooms_behind_first t space [] book k = k
rooms_behind_first t space (e ∷ es) book k = rooms_after t space e book.rooms k

-- ---- fewer mini blocks are held

pub fewer_map : (h : Room → Hold) → ((x : Room) → is_held (h x) ≡ true → is_held x.hold ≡ true) → (rooms : List Room) → held_minis (map (with_hold h) rooms) ≤ held_minis rooms
fewer_map h f [] = omega arith
fewer_map h f (x ∷ xs) = let r = fewer_map h f xs in let o = by x.base (is_held (h x)) (is_held x.hold) (f x) in omega (arith, r, o)
  where
    by : (b k l : Bool) → (k ≡ true → l ≡ true) → cond (not b && k) 1 0 ≤ cond (not b && l) 1 0
    by true k l g = omega arith
    by false false l g = omega arith
    by false true true g = omega arith
    by false true false g = absurd (let z = g refl in cc)

unlinked_held : (m : ℕ) (x : Room) → is_held (unlinked_at m x) ≡ true → is_held x.hold ≡ true
unlinked_held m x e = by (x.at == m) e
  where
    by : (b : Bool) → is_held (cond b Unlinked x.hold) ≡ true → is_held x.hold ≡ true
    by true e = absurd cc
    by false e = e

fewer_after : (e : Entry) (rooms : List Room) → held_minis (rooms_behind e rooms) ≤ held_minis rooms
fewer_after (UnlinkMini p m) rooms = fewer_map (unlinked_at m) (unlinked_held m) rooms
fewer_after (UnlinkPoint p m) rooms = fewer_map (unlinked_at m) (unlinked_held m) rooms
fewer_after (WriteBase b) rooms = omega arith
fewer_after (WriteMini b) rooms = omega arith
fewer_after (LinkMini p m) rooms = omega arith
fewer_after (LinkPoint p m) rooms = omega arith
fewer_after (Free p) rooms = omega arith

pub fewer_behind : (agenda : List Entry) (book : Book) → held_minis (book_after agenda book).rooms ≤ held_minis book.rooms
fewer_behind [] book = omega arith
fewer_behind (e ∷ es) book = fewer_after e book.rooms

-- ---- the entries that are left, where one is handed out

pub more_behind : (agenda : List Entry) (room : ℕ) → room ≤ (without_first (record { entries = agenda; room = room })).room
more_behind [] room = omega arith
more_behind (e ∷ es) room = omega arith

pub text_behind : (t : Words) (l m : LedgerData) (words : Rooms) → IsToolText t l words → m.book ≡ book_after l.book.agenda l.book
    → m.spare_entries ≡ (without_first (record { entries = l.book.agenda; room = l.spare_entries })).room → IsToolText t m words
text_behind t l m words k b e =
    let f = fewer_behind l.book.agenda l.book in
    let o = more_behind l.book.agenda l.spare_entries in
    let h = ap (λ (z : Book). held_minis z.rooms) b in
    record {
      rooms = subst (λ (z : Book). AreRoomsOf t words z.rooms) (sym b) (rooms_behind_first t words l.book.agenda l.book k.rooms);
      entries = omega (arith, f, o, h, e, k.entries);
    }

pub entries_behind : (t : Words) (l m : LedgerData) (words : Rooms) → IsToolText t l words → m.book ≡ book_after l.book.agenda l.book
    → m.spare_entries ≡ (without_first (record { entries = l.book.agenda; room = l.spare_entries })).room → l.spare_entries - for_drops l.book.rooms ≤ m.spare_entries - for_drops m.book.rooms
entries_behind t l m words k b e =
    let f = fewer_behind l.book.agenda l.book in
    let o = more_behind l.book.agenda l.spare_entries in
    let h = ap (λ (z : Book). held_minis z.rooms) b in
    omega (arith, f, o, h, e, k.entries)

pub entry_freed : (t : Words) (l m : LedgerData) (words : Rooms) → IsToolText t l words → m.book ≡ book_after l.book.agenda l.book
    → m.spare_entries ≡ (without_first (record { entries = l.book.agenda; room = l.spare_entries })).room → (o : Option Entry) → o ≡ first_of l.book.agenda
    → IfSome o (λ x. l.spare_entries - for_drops l.book.rooms < m.spare_entries - for_drops m.book.rooms)
entry_freed t l m words k b e o q = subst (λ (z : Option Entry). IfSome z (λ x. l.spare_entries - for_drops l.book.rooms < m.spare_entries - for_drops m.book.rooms)) (sym q) (by l.book.agenda refl)
  where
    by : (agenda : List Entry) → l.book.agenda ≡ agenda → IfSome (first_of agenda) (λ x. l.spare_entries - for_drops l.book.rooms < m.spare_entries - for_drops m.book.rooms)
    by [] a = tt
    by (x ∷ es) a =
        let f = fewer_behind l.book.agenda l.book in
        let h = ap (λ (z : Book). held_minis z.rooms) b in
        let n : m.spare_entries ≡ l.spare_entries + 1 = e ∙ ap (λ (es : List Entry). (without_first (record { entries = es; room = l.spare_entries })).room) a in
        omega (arith, f, h, n, k.entries)

-- ---- a room is taken out

fewer_out : (xs ys : List Room) (x : Room) → held_minis (xs ++ ys) ≤ held_minis (xs ++ x ∷ ys)
fewer_out [] ys x = omega arith
fewer_out (z ∷ zs) ys x = let r = fewer_out zs ys x in omega (arith, r)

fewer_taken : (point : ℕ) (x : Room) (old new : List Room) → IsTakenOut point x old new → held_minis new ≤ held_minis old
fewer_taken point x old new o =
    let f = fewer_out o.before o.after x in
    let a = ap held_minis o.was in
    let b = ap held_minis o.now in
    omega (arith, f, a, b)

-- it may be given back
pub may_go : (t : Words) (words : Rooms) (point : ℕ) (x : Room) (old new : List Room) → AreRoomsOf t words old → IsTakenOut point x old new → (0 < x.len) × (0 < words.gives) × IsTaken words (x.at / 4) x.len
may_go t words point x old new k o =
    let b = subst (λ (ys : List Room). AreRoomsOf t words ys) o.was k in
    let some = (b.whole x (middle o.before o.after x)).0 in
    (some, may_give words_of_room _ _ words o.before o.after x b.taken some, taken words_of_room _ _ words (o.before ++ x ∷ o.after) b.taken x (middle o.before o.after x))

pub text_taken : (t : Words) (l m : LedgerData) (words given : Rooms) (point : ℕ) (x : Room) → IsToolText t l words → IsTakenOut point x l.book.rooms m.book.rooms → given ≡ after_give words (x.at / 4) x.len → m.spare_entries ≡ l.spare_entries
    → IsToolText t m given
text_taken t l m words given point x k o g e =
    let f = fewer_taken point x l.book.rooms m.book.rooms o in
    let before = subst (λ (ys : List Room). AreRoomsOf t words ys) o.was k.rooms in
    record {
      rooms = subst (λ (z : Rooms). AreRoomsOf t z m.book.rooms) (sym g) (subst (λ (ys : List Room). AreRoomsOf t (after_give words (x.at / 4) x.len) ys) (sym o.now) (behind_goes t words o.before o.after x before));
      entries = omega (arith, f, e, k.entries);
    }

pub entries_taken : (l m : LedgerData) (point : ℕ) (x : Room) → IsTakenOut point x l.book.rooms m.book.rooms → m.spare_entries ≡ l.spare_entries → l.spare_entries - for_drops l.book.rooms ≤ m.spare_entries - for_drops m.book.rooms
entries_taken l m point x o e =
    let f = fewer_taken point x l.book.rooms m.book.rooms o in
    omega (arith, f, e)

-- ---- sites are dropped

rooms_left_of : (o : Option Room) (p : ℕ) (t : Words) (space : Rooms) (rooms : List Room) → AreRoomsOf t space rooms → AreRoomsOf t space (rooms_left o p rooms)
rooms_left_of (Some r) p t space rooms k = k
rooms_left_of None p t space rooms k = rooms_hold (base_leaves p) t space rooms k

pub rooms_without_sites : (t : Words) (space : Rooms) (xs : List Room) (book : Book) → AreRoomsOf t space book.rooms → AreRoomsOf t space (without_sites xs book).rooms
rooms_without_sites t space [] book k = k
rooms_without_sites t space (x ∷ xs) book k =
    rooms_without_sites t space xs (without_site x book) (rooms_left_of (find (is_mini_of x.point) (map (with_hold (mini_leaves x.at)) book.rooms)) x.point t space _ (rooms_hold (mini_leaves x.at) t space book.rooms k))

pub text_dropped : (n : ℕ) (t : Words) (l m : LedgerData) (words : Rooms) → IsToolText t l words → m.book ≡ without_sites (filter (is_site_of n) l.book.rooms) l.book
    → l.spare_entries + for_drops m.book.rooms ≤ m.spare_entries + for_drops l.book.rooms → IsToolText t m words
text_dropped n t l m words k b e = record {
  rooms = subst (λ (z : Book). AreRoomsOf t words z.rooms) (sym b) (rooms_without_sites t words (filter (is_site_of n) l.book.rooms) l.book k.rooms);
  entries = omega (arith, e, k.entries);
}
