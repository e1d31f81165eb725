-- What the patched machine keeps at every event: the blocks that aren't freed and their words, the words of the text, the ways from
-- block to block, and where harts stand.
use Rattle.std.specs.Prelude.{◌≡◌, ◌≢◌, ℕ, ◌+◌, ◌*◌, ◌%◌, ◌^◌, ◌<◌, ◌≤◌, ◌⊎◌, ◌==◌, if◌then◌else◌, Option, Bool, true, false, Some, None, List, [], ◌∷◌, ◌++◌, length, slice_get}
use Rattle.std.specs.FinMap.{get}
use Rattle.pn_types.specs.declared.limits.TheConstants.{TOOL_TEXT_LEN}
use Rattle.pn_types.specs.declared.image.Image.{Image}
use Rattle.rv_word.specs.Plain.{program_word}
use Rattle.rv_word.specs.Table.{decode_of}
use Rattle.rv_word.specs.Words.{word_of}
use Rattle.rv_word.specs.declared.instr.Instr.TheVariants.{Jal, Load, Store}
use Rattle.rv_word.specs.declared.instr.LoadOp.TheVariants.{Ld}
use Rattle.rv_word.specs.declared.instr.StoreOp.TheVariants.{Sd}
use Rattle.tramp_spec.specs.Codes.{Code, tool_at}
use Rattle.tramp_spec.specs.Blocks.{tail_of, moved_at}
use Rattle.tramp_spec.specs.Bodies.{Harmless}
use Rattle.tramp_spec.specs.Harts.{Hart}
use Rattle.tramp_spec.specs.Marks.{own, enter, tool}
use Rattle.tramp_spec.specs.MovedWords.{moved_of, own_place}
use Rattle.tramp_spec.specs.declared.mark.MarkedWord.{MarkedWord}
use Rattle.machine.specs.Cores.{In, Row, Written, Live, Core, is_current, is_live, start_core}
use Rattle.machine.specs.Effects.{after_event}
use Rattle.machine.specs.Events.{Event, LinkMini, Apart, current_base, next_of}
use Rattle.machine.specs.Laws.{IsProgram}
use Rattle.machine.specs.Places.{block_at}
use Rattle.machine.specs.Replays.{replay, Legal}

-- ---- words

-- these words stand at an address and after it
abbrev pub AreWordsAt : Code → ℕ → List MarkedWord → Type 0
AreWordsAt code at [] = Unit {0}
AreWordsAt code at (w ∷ ws) = (get code at ≡ Some w) × AreWordsAt code (at + 4) ws

-- a word is a jump that keeps no address, from one address to another
pub record IsJump (from to word : ℕ) : Type 0 where
  pub offset : ℕ
  pub is : decode_of word ≡ Some (Jal 0 offset)
  pub leads : (from + offset) % 2 ^ 64 ≡ to

-- ---- blocks

-- The words of a base block are those of its point's word; its head alone is free.
pub record IsBaseBlock (c : Core) (r : Row) : Type 0 where
  pub word : ℕ
  pub here : program_word c.program r.point ≡ Some word
  pub moved : List MarkedWord
  pub movable : moved_of word r.point (moved_at r.at) ≡ Some moved
  pub len : r.len ≡ 3 + length moved
  pub head : ℕ
  pub leads : IsJump (r.at + 4) (next_of c.code r) head
  pub stands : AreWordsAt c.code r.at (tool (word_of (Store Sd 0 5 8)) ∷ tool head ∷ tool (word_of (Load Ld 5 0 8)) ∷ moved)

-- The words of a mini block are a harmless body and a jump.
pub record IsMiniBlock (c : Core) (r : Row) : Type 0 where
  pub body : List MarkedWord
  pub harmless : Harmless body
  pub len : r.len ≡ length body + 1
  pub jump : ℕ
  pub leads : IsJump (r.at + 4 * length body) (next_of c.code r) jump
  pub stands : AreWordsAt c.code r.at (body ++ tool jump ∷ [])

-- A block has its shape, at a multiple of 4 in tool text.
pub record IsBlock (c : Core) (r : Row) : Type 0 where
  pub base : r.base ≡ true → IsBaseBlock c r
  pub mini : r.base ≡ false → IsMiniBlock c r
  pub aligned : r.at % 4 ≡ 0
  pub low : tool_at c.program ≤ r.at
  pub high : r.at + 4 * r.len ≤ tool_at c.program + TOOL_TEXT_LEN

-- a block that is live or retired
abbrev pub WasLinked : Row → Type 0
WasLinked r = r.status ≢ Written

-- ---- the text

-- a jump that enters a base block stands at its point
pub record IsOpen (code : Code) (b : Row) : Type 0 where
  pub jump : ℕ
  pub stands : get code b.point ≡ Some (enter jump)
  pub leads : IsJump b.point b.at jump

-- at an address of the text stands the program's word, or a jump that enters a live base block of that point
abbrev pub IsTextWord : Core → ℕ → ℕ → Type 0
IsTextWord c a word =
    (get c.code a ≡ Some (own word)) ⊎ ((b : Row) × In b c.rows × (b.base ≡ true) × (b.point ≡ a) × (b.status ≡ Live) × IsOpen c.code b)

-- ---- ways from block to block

-- The linkings of mini blocks so far: how many they are; and for the address of a mini block the number of the last one, the first
-- having number 1, and the address of the base block under which it was linked then.
pub record Linkings : Type 0 where
  pub count : ℕ
  pub number : ℕ → ℕ
  pub under : ℕ → ℕ

abbrev pub no_linkings : Linkings
no_linkings = record { count = 0; number = λ a. 0; under = λ a. 0 }

-- one more, of the mini block at m
abbrev pub link_under : Option Row → ℕ → Linkings → Linkings
link_under None m l = l
link_under (Some base) m l =
    record {
      count = l.count + 1;
      number = λ a. if a == m then l.count + 1 else l.number a;
      under = λ a. if a == m then base.at else l.under a;
    }

abbrev pub linkings_after : Core → Event → Linkings → Linkings
linkings_after c (LinkMini p m) l = link_under (current_base c.rows p) m l
linkings_after c e l = l

-- The linkings after these events.
abbrev pub linkings : List Event → Core → Linkings → Linkings
linkings [] c l = l
linkings (e ∷ es) c l = linkings es (after_event c e) (linkings_after c e l)

-- a mini block that was linked under a base block
pub record IsUnder (l : Linkings) (base : ℕ) (r : Row) : Type 0 where
  pub mini : r.base ≡ false
  pub linked : WasLinked r
  pub under : l.under r.at ≡ base

-- each block leads to the next, and the last to an address
abbrev pub Way : Code → ℕ → List Row → ℕ → Type 0
Way code from [] to = from ≡ to
Way code from (r ∷ rs) to = (r.at ≡ from) × Way code (next_of code r) rs to

-- each was linked before the one in front of it, and the first before number n
abbrev pub AreOlder : Linkings → ℕ → List Row → Type 0
AreOlder l n [] = Unit {0}
AreOlder l n (r ∷ rs) = (l.number r.at < n) × AreOlder l (l.number r.at) rs

-- From an address a way leads to a base block's tail. It goes through mini blocks that were linked under that base block before
-- number n, each older than the one in front of it. Each such block that is live is on it; and where `live` is true, no other.
pub record LeadsDown (l : Linkings) (c : Core) (base n from : ℕ) (live : Bool) : Type 0 where
  pub through : List Row
  pub way : Way c.code from through (tail_of base)
  pub older : AreOlder l n through
  pub under : (r : Row) → In r through → In r c.rows × IsUnder l base r
  pub whole : (r : Row) → In r c.rows → IsUnder l base r → r.status ≡ Live → l.number r.at < n → In r through
  pub alive : live ≡ true → (r : Row) → In r through → r.status ≡ Live

-- the base block of a mini block that was linked
pub record HasBase (l : Linkings) (c : Core) (r b : Row) : Type 0 where
  pub listed : In b c.rows
  pub base : b.base ≡ true
  pub under : l.under r.at ≡ b.at
  pub point : r.point ≡ b.point
  pub current : r.status ≡ Live → is_current b.status ≡ true

-- ---- harts

-- the tick of the program's word at a point lies at or after word j of a block of it
abbrev pub IsBeforeTick : Core → Row → ℕ → Type 0
IsBeforeTick c r j = (r.base ≡ false) ⊎ ((word : ℕ) × (program_word c.program r.point ≡ Some word) × (j ≤ 3 + own_place word))

-- A hart inside isn't stopped, and stands at a word of a block that is live or retired. Up to the program's own word its ticks are
-- below the budget.
pub record IsInside (c : Core) (x : Hart) : Type 0 where
  pub on : x.stop ≡ None
  pub block : Row
  pub at : block_at c.rows x.pc ≡ Some block
  pub linked : WasLinked block
  pub place : ℕ
  pub word : x.pc ≡ block.at + 4 * place
  pub before : IsBeforeTick c block place → x.ticks < c.budget

-- ---- together

-- All this holds of a state after these linkings.
pub record IsInvariant (l : Linkings) (c : Core) : Type 0 where
  pub blocks : (r : Row) → In r c.rows → IsBlock c r
  pub apart : (r s : Row) → In r c.rows → In s c.rows → (r ≡ s) ⊎ Apart r.at r.len s.at s.len
  pub bases : (b d : Row) → In b c.rows → In d c.rows → b.base ≡ true → d.base ≡ true → b.point ≡ d.point → is_current b.status ≡ true
      → is_current d.status ≡ true → b ≡ d
  pub text : (a word : ℕ) → program_word c.program a ≡ Some word → IsTextWord c a word
  pub open_at : (b : Row) → In b c.rows → b.base ≡ true → b.status ≡ Live → IsOpen c.code b
  pub numbers : (r : Row) → In r c.rows → r.base ≡ false → WasLinked r → (0 < l.number r.at) × (l.number r.at ≤ l.count)
  pub distinct : (r s : Row) → In r c.rows → In s c.rows → r.base ≡ false → s.base ≡ false → WasLinked r → WasLinked s
      → l.number r.at ≡ l.number s.at → r ≡ s
  pub families : (r : Row) → In r c.rows → r.base ≡ false → WasLinked r → (b : Row) × HasBase l c r b
  pub ways : (r : Row) → In r c.rows → r.base ≡ false → WasLinked r
      → LeadsDown l c (l.under r.at) (l.number r.at) (next_of c.code r) (is_live r.status)
  pub heads : (b : Row) → In b c.rows → b.base ≡ true → LeadsDown l c b.at (l.count + 1) (next_of c.code b) (is_current b.status)
  pub harts : (h : ℕ) (x : Hart) → slice_get c.harts h ≡ Some x → x.inside ≡ true → IsInside c x

-- This holds after every list of events each of which may happen when it comes.
abbrev pub KeepsAlways : Type 0
KeepsAlways =
    (image : Image) (n budget : ℕ) (es : List Event) → IsProgram image → Legal es (start_core image n budget)
    → IsInvariant (linkings es (start_core image n budget) no_linkings) (replay es (start_core image n budget))
