-- The book: the rooms of the tool text that were taken and not given back, in the order of their taking; and the agenda: what
-- is to be done in the machine, in order. What a site of an instrument and its dropping make of them.
use Rattle.std.specs.Prelude.{ℕ, ◌==◌, ◌&&◌, not, if◌then◌else◌, Bool, true, false, Option, Some, None, List, [], ◌∷◌, ◌++◌, length, map, find}
use Rattle.std.specs.List.{list_any}
use Rattle.tramp_spec.specs.declared.block.Block.{Block}
use Rattle.instrument.specs.declared.entry.Entry.{Entry}
use Rattle.instrument.specs.declared.entry.Entry.TheVariants.{WriteBase, WriteMini, LinkMini, LinkPoint, UnlinkMini, UnlinkPoint, Free}
use Rattle.instrument.specs.declared.room.Hold.{Hold}
use Rattle.instrument.specs.declared.room.Hold.TheVariants.{Held, Leaving, Unlinked}
use Rattle.instrument.specs.declared.room.Room.{Room}

pub record Book : Type 0 where
  pub rooms : List Room
  pub agenda : List Entry

-- ---- rooms

-- no unlinking of the block was asked for
abbrev pub is_held : Hold → Bool
is_held Held = true
is_held Leaving = false
is_held Unlinked = false

-- the unlinking of the block was handed out
abbrev pub is_unlinked : Hold → Bool
is_unlinked Held = false
is_unlinked Leaving = false
is_unlinked Unlinked = true

-- once its unlinking is asked for
abbrev pub leaving : Hold → Hold
leaving Held = Leaving
leaving Leaving = Leaving
leaving Unlinked = Unlinked

-- the room of a base block, which is no instrument's, and of a mini block of an instrument
abbrev pub base_room : Block → Room
base_room b = record { point = b.point; at = b.at; len = length b.words; base = true; owner = 0; hold = Held }

abbrev pub mini_room : ℕ → Block → Room
mini_room owner m = record { point = m.point; at = m.at; len = length m.words; base = false; owner = owner; hold = Held }

-- a base block stands at the point or will, and its unlinking wasn't asked for
abbrev pub is_base_of : ℕ → Room → Bool
is_base_of p x = x.base && ((x.point == p) && is_held x.hold)

-- the same of a mini block
abbrev pub is_mini_of : ℕ → Room → Bool
is_mini_of p x = not x.base && ((x.point == p) && is_held x.hold)

abbrev pub with_hold : (Room → Hold) → Room → Room
with_hold f x = record x { hold = f x }

-- ---- a site is placed

-- its blocks: a base block too, where the point has none
pub record Blocks : Type 0 where
  pub base : Option Block
  pub mini : Block

abbrev pub rooms_of : Option Block → ℕ → Block → List Room
rooms_of None owner m = mini_room owner m ∷ []
rooms_of (Some b) owner m = base_room b ∷ mini_room owner m ∷ []

-- both are written before the point is linked, and the mini block is linked right after its writing
abbrev pub placing : Option Block → Block → List Entry
placing None m = WriteMini m ∷ LinkMini m.point m.at ∷ []
placing (Some b) m = WriteBase b ∷ WriteMini m ∷ LinkMini m.point m.at ∷ LinkPoint b.point b.at ∷ []

abbrev pub with_blocks : ℕ → Blocks → Book → Book
with_blocks owner k book = record { rooms = book.rooms ++ rooms_of k.base owner k.mini; agenda = book.agenda ++ placing k.base k.mini }

-- ---- a site is dropped

-- the mini block at m, or the base block of p, is to leave
abbrev pub mini_leaves : ℕ → Room → Hold
mini_leaves m x = if not x.base && (x.at == m) then leaving x.hold else x.hold

abbrev pub base_leaves : ℕ → Room → Hold
base_leaves p x = if x.base && (x.point == p) then leaving x.hold else x.hold

-- The point is unlinked after its last mini block: where another is held there, the base block stays. Then the point is freed.
abbrev pub removing : Option Room → Option Room → ℕ → ℕ → List Entry
removing (Some other) base p m = UnlinkMini p m ∷ Free p ∷ []
removing None None p m = UnlinkMini p m ∷ Free p ∷ []
removing None (Some b) p m = UnlinkMini p m ∷ UnlinkPoint p b.at ∷ Free p ∷ []

abbrev pub rooms_left : Option Room → ℕ → List Room → List Room
rooms_left (Some other) p rooms = rooms
rooms_left None p rooms = map (with_hold (base_leaves p)) rooms

-- `rooms` are those where the mini block at m of p leaves
abbrev pub removed_at : ℕ → ℕ → List Room → Book → Book
removed_at p m rooms book =
    record {
      rooms = rooms_left (find (is_mini_of p) rooms) p rooms;
      agenda = book.agenda ++ removing (find (is_mini_of p) rooms) (find (is_base_of p) rooms) p m;
    }

-- the site whose mini block has this room
abbrev pub without_site : Room → Book → Book
without_site x book = removed_at x.point x.at (map (with_hold (mini_leaves x.at)) book.rooms) book

-- ---- the agenda is handed out

-- the room at m is that of a block that was unlinked
abbrev pub unlinked_at : ℕ → Room → Hold
unlinked_at m x = if x.at == m then Unlinked else x.hold

-- the rooms after an entry that was handed out
abbrev pub rooms_behind : Entry → List Room → List Room
rooms_behind (UnlinkMini p m) rooms = map (with_hold (unlinked_at m)) rooms
rooms_behind (UnlinkPoint p m) rooms = map (with_hold (unlinked_at m)) rooms
rooms_behind (WriteBase b) rooms = rooms
rooms_behind (WriteMini b) rooms = rooms
rooms_behind (LinkMini p m) rooms = rooms
rooms_behind (LinkPoint p m) rooms = rooms
rooms_behind (Free p) rooms = rooms

-- a room that stays where a point is freed
abbrev pub stays : ℕ → Room → Bool
stays p x = not ((x.point == p) && is_unlinked x.hold)

-- a Free that can be done, and the agenda without it
pub record FoundFree : Type 0 where
  pub point : ℕ
  pub rest : List Entry

-- the entry unlinks a block of the point
abbrev pub unlinks : ℕ → Entry → Bool
unlinks q (UnlinkMini p m) = p == q
unlinks q (UnlinkPoint p m) = p == q
unlinks q (WriteBase b) = false
unlinks q (WriteMini b) = false
unlinks q (LinkMini p m) = false
unlinks q (LinkPoint p m) = false
unlinks q (Free p) = false

-- the point of a Free
abbrev pub freed_point : Entry → Option ℕ
freed_point (Free p) = Some p
freed_point (WriteBase b) = None
freed_point (WriteMini b) = None
freed_point (LinkMini p m) = None
freed_point (LinkPoint p m) = None
freed_point (UnlinkMini p m) = None
freed_point (UnlinkPoint p m) = None

abbrev pub or_later : Option ℕ → List Entry → List Entry → Option FoundFree → Option FoundFree
or_later None before es later = later
or_later (Some p) before es later = if list_any (unlinks p) before then later else Some (record { point = p; rest = before ++ es })

-- The first Free of `es` before which no unlinking of its point stands, neither in `before` nor in `es`.
abbrev pub first_free : List Entry → List Entry → Option FoundFree
first_free before [] = None
first_free before (e ∷ es) = or_later (freed_point e) before es (first_free (before ++ e ∷ []) es)
