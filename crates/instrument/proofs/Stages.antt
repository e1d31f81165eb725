-- What stands in the machine and isn't retired, as the agenda makes it: what each entry needs, and what it makes of it.
use Rattle.std.proofs.Common.{◌≡◌, ℕ, ◌+◌, ◌*◌, ◌%◌, ◌<◌, ◌≤◌, List, [], ◌∷◌, ◌++◌, length, Some}
use Rattle.std.specs.Prelude.{map, filter, not, ◌==◌, ◌&&◌, Bool, true, false}
use Rattle.pn_types.specs.declared.limits.TheConstants.{TOOL_TEXT_LEN}
use Rattle.rv_word.specs.Plain.{Words}
use Rattle.tramp_spec.specs.Blocks.{IsBase, tail_of}
use Rattle.tramp_spec.specs.Bodies.{Harmless}
use Rattle.tramp_spec.specs.Codes.{tool_at}
use Rattle.tramp_spec.specs.declared.block.Block.{Block}
use Rattle.machine.specs.Cores.{In, Row, Status, Written, Live, is_current}
use Rattle.machine.specs.Effects.{with_status, at_set}
use Rattle.machine.specs.Events.{Apart, current_base}
use Rattle.machine.specs.Instruments.{body_of_block}
use Rattle.instrument.specs.Books.{is_held, unlinked_at, with_hold, stays}
use Rattle.instrument.specs.declared.entry.Entry.{Entry}
use Rattle.instrument.specs.declared.entry.Entry.TheVariants.{WriteBase, WriteMini, LinkMini, LinkPoint, UnlinkMini, UnlinkPoint, Free}
use Rattle.instrument.specs.declared.room.Room.{Room}

abbrev pub a_row : ℕ → ℕ → ℕ → Bool → Status → Row
a_row p at len base status = record { point = p; at = at; len = len; base = base; status = status }

abbrev pub block_row : Block → Bool → Row
block_row b base = a_row b.point b.at (length b.words) base Written

abbrev pub is_now : Row → Bool
is_now r = is_current r.status

-- a mini block was written for the present head and isn't linked yet, or there is none such
pub data Fresh : Type 0 where
  Idle : Fresh
  Ready : (p m : ℕ) → Fresh

pub record Stage : Type 0 where
  pub rows : List Row
  pub fresh : Fresh

abbrev pub stage : List Row → Fresh → Stage
stage rows fresh = record { rows = rows; fresh = fresh }

-- the blocks that an entry writes
abbrev pub puts : Entry → List Row
puts (WriteBase b) = block_row b true ∷ []
puts (WriteMini b) = block_row b false ∷ []
puts (LinkMini p m) = []
puts (LinkPoint p at) = []
puts (UnlinkMini p m) = []
puts (UnlinkPoint p at) = []
puts (Free p) = []

abbrev pub pending : List Entry → List Row
pending [] = []
pending (e ∷ es) = puts e ++ pending es

abbrev pub is_other_mini : ℕ → Row → Bool
is_other_mini m r = not (not r.base && (r.at == m))

abbrev pub is_other_base : ℕ → Row → Bool
is_other_base p r = not (r.base && (r.point == p))

-- what an entry makes of it
abbrev pub next : Stage → Entry → Stage
next k (WriteBase b) = stage (k.rows ++ block_row b true ∷ []) k.fresh
next k (WriteMini b) = stage (k.rows ++ block_row b false ∷ []) (Ready b.point b.at)
next k (LinkMini p m) = stage (map (with_status (at_set m Live)) k.rows) Idle
next k (LinkPoint p at) = stage (map (with_status (at_set at Live)) k.rows) k.fresh
next k (UnlinkMini p m) = stage (filter (is_other_mini m) k.rows) k.fresh
next k (UnlinkPoint p at) = stage (filter (is_other_base p) k.rows) k.fresh
next k (Free p) = k

-- what an entry needs
abbrev pub Ok : Stage → Entry → Type 0
Ok k (WriteBase b) = (k.fresh ≡ Idle) × ((r : Row) → In r k.rows → r.base ≡ true → r.point ≡ b.point → ⊥)
Ok k (WriteMini b) = (k.fresh ≡ Idle) × (o : Row) × (current_base k.rows b.point ≡ Some o)
Ok k (LinkMini p m) = k.fresh ≡ Ready p m
Ok k (LinkPoint p at) = (k.fresh ≡ Idle) × (b : Row) × (current_base k.rows p ≡ Some b) × (b.at ≡ at) × (b.status ≡ Written)
Ok k (UnlinkMini p m) = (k.fresh ≡ Idle) × (r : Row) × In r k.rows × (r.base ≡ false) × (r.point ≡ p) × (r.at ≡ m) × (r.status ≡ Live)
Ok k (UnlinkPoint p at) = (k.fresh ≡ Idle) × (b : Row) × (current_base k.rows p ≡ Some b) × (b.at ≡ at) × (b.status ≡ Live) × ((r : Row) → In r k.rows → r.base ≡ false → r.point ≡ p → ⊥)
Ok k (Free p) = Unit {0}

-- what is known of a block from its making
pub record InTool (t : Words) (b : Block) : Type 0 where
  pub low : tool_at t ≤ b.at
  pub high : b.at + 4 * length b.words ≤ tool_at t + TOOL_TEXT_LEN

pub record GoodBase (t : Words) (b : Block) : Type 0 where
  pub base : b.base ≡ true
  pub shape : IsBase t b.point b.at (tail_of b.at) b.words
  pub place : InTool t b

pub record GoodMini (t : Words) (b : Block) : Type 0 where
  pub mini : b.base ≡ false
  pub aligned : b.at % 4 ≡ 0
  pub some : 0 < length b.words
  pub harmless : Harmless (body_of_block b)
  pub place : InTool t b

abbrev pub Good : Words → Entry → Type 0
Good t (WriteBase b) = GoodBase t b
Good t (WriteMini b) = GoodMini t b
Good t (LinkMini p m) = Unit {0}
Good t (LinkPoint p at) = Unit {0}
Good t (UnlinkMini p m) = Unit {0}
Good t (UnlinkPoint p at) = Unit {0}
Good t (Free p) = Unit {0}

abbrev pub Sound : Words → Stage → List Entry → Type 0
Sound t k [] = Unit {0}
Sound t k (e ∷ es) = Good t e × Ok k e × Sound t (next k e) es

abbrev pub ending : Stage → List Entry → Stage
ending k [] = k
ending k (e ∷ es) = ending (next k e) es

-- no two of them overlap
abbrev pub AllApart : List Row → Type 0
AllApart [] = Unit {0}
AllApart (x ∷ xs) = ((y : Row) → In y xs → Apart x.at x.len y.at y.len) × AllApart xs

-- ---- what will stand once the agenda is done

abbrev pub is_held_room : Room → Bool
is_held_room x = is_held x.hold

abbrev pub room_row : Room → Row
room_row x = a_row x.point x.at x.len x.base Live

abbrev pub standing : List Room → List Row
standing xs = map room_row (filter is_held_room xs)

-- ---- the rooms after an entry that was done, where a freeing gives rooms back

abbrev pub rooms_done : Entry → List Room → List Room
rooms_done (UnlinkMini p m) rooms = map (with_hold (unlinked_at m)) rooms
rooms_done (UnlinkPoint p m) rooms = map (with_hold (unlinked_at m)) rooms
rooms_done (WriteBase b) rooms = rooms
rooms_done (WriteMini b) rooms = rooms
rooms_done (LinkMini p m) rooms = rooms
rooms_done (LinkPoint p m) rooms = rooms
rooms_done (Free p) rooms = filter (stays p) rooms
