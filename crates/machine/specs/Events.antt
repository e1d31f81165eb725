-- What can happen to the patched machine, and when it may.
use Rattle.std.specs.Prelude.{◌≡◌, ℕ, ◌+◌, ◌-◌, ◌*◌, ◌≤◌, ◌⊎◌, ◌==◌, ◌&&◌, IsTrue, if◌then◌else◌, Bool, true, false, Option, Some, None, List, find, length, slice_get}
use Rattle.std.specs.FinMap.{get}
use Rattle.pn_types.specs.declared.limits.TheConstants.{TOOL_TEXT_LEN}
use Rattle.pn_types.specs.declared.placed.Placed.{Placed}
use Rattle.pn_types.specs.declared.placed.PlacedSite.{PlacedSite}
use Rattle.rv_word.specs.Names.{jump_of}
use Rattle.rv_word.specs.Plain.{program_word}
use Rattle.rv_word.specs.Table.{decode_of}
use Rattle.tramp_spec.specs.Codes.{Code, tool_at}
use Rattle.tramp_spec.specs.Marks.{own, enter}
use Rattle.tramp_spec.specs.Blocks.{IsBase, IsMini, tail_of, target_or}
use Rattle.tramp_spec.specs.Harts.{Hart}
use Rattle.tramp_spec.specs.declared.block.Block.{Block}
use Rattle.tramp_spec.specs.declared.mark.MarkedWord.{MarkedWord}
use Rattle.machine.specs.Cores.{In, Status, Written, Live, Retired, Row, Core, is_current, is_live}
use Rattle.machine.specs.Places.{holds}
use Rattle.machine.specs.Turns.{is_runnable}

pub data Event : Type 0 where
  -- a turn of a hart
  Turn : (h : ℕ) → Event
  -- a block's words are written into tool text
  Write : (block : Block) → Event
  -- a written mini block, at an address, becomes the newest of its point
  LinkMini : (point at : ℕ) → Event
  -- a live mini block is passed by from now on
  UnlinkMini : (point at : ℕ) → Event
  -- the point's word becomes a jump to its base block
  LinkPoint : (point : ℕ) → Event
  -- the point's word becomes the program's again
  UnlinkPoint : (point : ℕ) → Event
  -- the room of the point's retired blocks is given back
  Free : (point : ℕ) → Event
  -- the slots of an instrument are set
  Arm : (instrument : Placed) → Event
  -- the readings of an instrument are taken
  Sample : (instrument : Placed) → Event

-- ---- what is found among the blocks

-- the base block of a point that isn't retired
abbrev pub current_base : List Row → ℕ → Option Row
current_base rows p = find (λ r. r.base && ((r.point == p) && is_current r.status)) rows

-- the block that begins at an address
abbrev pub row_at : List Row → ℕ → Option Row
row_at rows m = find (λ r. r.at == m) rows

-- the address of the word that leads from a block to the next: a base block's head, a mini block's last word
abbrev pub link_at : Row → ℕ
link_at r = if r.base then r.at + 4 else r.at + 4 * (r.len - 1)

abbrev pub target_at : Option MarkedWord → ℕ → ℕ
target_at None a = 0
target_at (Some w) a = target_or (jump_of (decode_of w.word) a) 0

-- the address to which that word leads
abbrev pub next_of : Code → Row → ℕ
next_of code r = target_at (get code (link_at r)) (link_at r)

-- a base block leads to mini blocks from when it is written, a mini block while it is live
abbrev pub is_linked : Row → Bool
is_linked r = if r.base then is_current r.status else is_live r.status

-- a linked block leads to an address
abbrev pub is_before : Code → ℕ → Row → Bool
is_before code m r = is_linked r && (next_of code r == m)

-- the linked block that leads to an address
abbrev pub before : Core → ℕ → Option Row
before c m = find (is_before c.code m) c.rows

-- ---- conditions

-- two ranges of words share no address
abbrev pub Apart : ℕ → ℕ → ℕ → ℕ → Type 0
Apart at len other more = (at + 4 * len ≤ other) ⊎ (other + 4 * more ≤ at)

-- a hart is inside a block
abbrev pub StandsIn : Core → Row → Type 0
StandsIn c r = (h : ℕ) × (x : Hart) × (slice_get c.harts h ≡ Some x) × (x.inside ≡ true) × IsTrue (holds r x.pc)

-- no hart of these is inside
abbrev pub AreOutside : List Hart → Type 0
AreOutside harts = (h : ℕ) (x : Hart) → slice_get harts h ≡ Some x → x.inside ≡ false

-- no hart is inside
abbrev pub IsQuiet : Core → Type 0
IsQuiet c = AreOutside c.harts

-- a base block's point has no other that isn't retired, and its head is its own tail; a mini block may have any next
abbrev pub HasShape : Core → Block → Bool → Type 0
HasShape c b true =
    IsBase c.program b.point b.at (tail_of b.at) b.words
    × ((r : Row) → In r c.rows → r.base ≡ true → r.point ≡ b.point → r.status ≡ Retired)
HasShape c b false = (next : ℕ) × IsMini b.at next b.words

-- a block can be written: it has its shape, lies in tool text and overlaps no block that isn't freed
pub record MayWrite (c : Core) (b : Block) : Type 0 where
  pub shape : HasShape c b b.base
  pub low : tool_at c.program ≤ b.at
  pub high : b.at + 4 * length b.words ≤ tool_at c.program + TOOL_TEXT_LEN
  pub apart : (r : Row) → In r c.rows → Apart r.at r.len b.at (length b.words)

-- a mini block of a point stands at an address, with this status
pub record HasMini (c : Core) (p m : ℕ) (status : Status) : Type 0 where
  pub row : Row
  pub listed : In row c.rows
  pub mini : row.base ≡ false
  pub point : row.point ≡ p
  pub at : row.at ≡ m
  pub is : row.status ≡ status

-- a written mini block leads to where the head of its point's base leads
pub record MayLinkMini (c : Core) (p m : ℕ) : Type 0 where
  pub base : Row
  pub current : current_base c.rows p ≡ Some base
  pub mini : HasMini c p m Written
  pub next : next_of c.code mini.row ≡ next_of c.code base

-- the point has a base block that isn't retired, and the program's word stands there
pub record MayLinkPoint (c : Core) (p : ℕ) : Type 0 where
  pub base : Row
  pub current : current_base c.rows p ≡ Some base
  pub word : ℕ
  pub program : program_word c.program p ≡ Some word
  pub stands : get c.code p ≡ Some (own word)

-- a jump that enters stands at a point
pub record IsEntered (c : Core) (p : ℕ) : Type 0 where
  pub jump : ℕ
  pub stands : get c.code p ≡ Some (enter jump)

-- a site is linked: its mini block is live, and a jump that enters stands at its point
abbrev pub IsLinked : Core → PlacedSite → Type 0
IsLinked c s = HasMini c s.at s.mini Live × IsEntered c s.at

abbrev pub AreLinked : Core → List PlacedSite → Type 0
AreLinked c sites = (s : PlacedSite) → In s sites → IsLinked c s

-- no hart is inside, and each site of the instrument is linked
pub record MayArm (c : Core) (i : Placed) : Type 0 where
  pub quiet : IsQuiet c
  pub linked : AreLinked c i.sites

-- The event may happen now.
abbrev pub May : Core → Event → Type 0
May c (Turn h) = IsTrue (is_runnable c h)
May c (Write block) = MayWrite c block
May c (LinkMini p m) = MayLinkMini c p m
May c (UnlinkMini p m) = HasMini c p m Live
May c (LinkPoint p) = MayLinkPoint c p
May c (UnlinkPoint p) = IsEntered c p
May c (Free p) = (r : Row) → In r c.rows → r.point ≡ p → StandsIn c r → ⊥
May c (Arm i) = MayArm c i
May c (Sample i) = IsQuiet c
