-- What is kept at every event.
use Rattle.std.proofs.Common.{◌≡◌, ◌≢◌, ℕ, ◌+◌, ◌*◌, ◌%◌, ◌^◌, ◌<◌, ◌≤◌, List, [], ◌∷◌, ◌++◌, length, Some, None}
use Rattle.std.specs.Prelude.{map, Bool, true, false, slice_get, ◌⊎◌}
use Rattle.std.specs.FinMap.{get}
use Rattle.pn_types.specs.declared.limits.TheConstants.{TOOL_TEXT_LEN}
use Rattle.rv_word.specs.Names.{has_scratch, jump_of}
use Rattle.rv_word.specs.Registers.{reg}
use Rattle.rv_word.specs.Table.{decode_of}
use Rattle.rv_word.specs.Words.{word_of}
use Rattle.rv_word.specs.Plain.{Words, PlainHart, Plain, program_word}
use Rattle.rv_word.specs.declared.outcome.Cause.{Cause}
use Rattle.rv_word.specs.declared.instr.Instr.TheVariants.{Load, Store}
use Rattle.rv_word.specs.declared.instr.LoadOp.TheVariants.{Ld}
use Rattle.rv_word.specs.declared.instr.StoreOp.TheVariants.{Sd}
use Rattle.tramp_spec.specs.Codes.{Code, tool_at}
use Rattle.tramp_spec.specs.Banks.{bank_len, saved_x5}
use Rattle.tramp_spec.specs.Blocks.{tail_of, moved_at}
use Rattle.tramp_spec.specs.Bodies.{Safe, Harmless}
use Rattle.tramp_spec.specs.Harts.{Hart, bench_of}
use Rattle.tramp_spec.specs.Marks.{own, enter, tool, leave}
use Rattle.tramp_spec.specs.MovedWords.{moved_of, own_place}
use Rattle.tramp_spec.specs.Moves.{Agree, Moves}
use Rattle.tramp_spec.specs.declared.mark.MarkedWord.{MarkedWord}
use Rattle.tramp_spec.proofs.Hops.{Hops}
use Rattle.machine.specs.Cores.{In, Row, Written, Live, Core, is_live, is_current}
use Rattle.machine.specs.Events.{Apart}
use Rattle.machine.proofs.Lists.{AreWordsAt}

-- ---- the program

-- what is known of the program's words
pub record Ground (t : Words) : Type 0 where
  pub aligned : t.at % 4 ≡ 0
  pub high : t.at + 4 * length t.words ≤ 0x60000000
  pub short : 4 * length t.words ≤ 524288
  pub plain : (i w : ℕ) → slice_get t.words i ≡ Some w → has_scratch w ≡ false
  pub narrow : (i w : ℕ) → slice_get t.words i ≡ Some w → w < 2 ^ 32

-- ---- blocks

-- a block that isn't freed: its row, and what the row leaves out. A mini block has a body; both lead to `next`. A mini block that
-- was linked has the address of the base block under which it was, and the number of its linking among all.
pub record Piece : Type 0 where
  pub row : Row
  pub body : List MarkedWord
  pub next : ℕ
  pub family : ℕ
  pub age : ℕ

abbrev pub the_row : Piece → Row
the_row p = p.row

pub record IsBase (p : Piece) : Type 0 where
  pub base : p.row.base ≡ true

-- a mini block that was linked
pub record Linked (p : Piece) : Type 0 where
  pub mini : p.row.base ≡ false
  pub was : p.row.status ≡ Written → ⊥

pub record LiveOf (family : ℕ) (p : Piece) : Type 0 where
  pub mini : p.row.base ≡ false
  pub of : p.family ≡ family
  pub live : p.row.status ≡ Live

-- the words of a base block, `jump` being that of its head
abbrev pub base_with : ℕ → List MarkedWord → List MarkedWord
base_with jump moved = tool (word_of (Store Sd 0 5 8)) ∷ tool jump ∷ tool (word_of (Load Ld 5 0 8)) ∷ moved

pub record BaseShape (t : Words) (code : Code) (row : Row) (next : ℕ) : Type 0 where
  pub base : row.base ≡ true
  pub word : ℕ
  pub here : program_word t row.point ≡ Some word
  pub moved : List MarkedWord
  pub movable : moved_of word row.point (moved_at row.at) ≡ Some moved
  pub len : row.len ≡ 3 + length moved
  pub jump : ℕ
  pub hops : Hops (row.at + 4) next jump
  pub stands : AreWordsAt code row.at (base_with jump moved)

pub record MiniShape (code : Code) (row : Row) (body : List MarkedWord) (next : ℕ) : Type 0 where
  pub mini : row.base ≡ false
  pub len : row.len ≡ length body + 1
  pub harmless : Harmless body
  pub jump : ℕ
  pub hops : Hops (row.at + 4 * length body) next jump
  pub stands : AreWordsAt code row.at (body ++ tool jump ∷ [])

abbrev pub ShapedAs : Words → Code → Row → List MarkedWord → ℕ → Type 0
ShapedAs t code row body next = BaseShape t code row next ⊎ MiniShape code row body next

abbrev pub Shaped : Words → Code → Piece → Type 0
Shaped t code p = ShapedAs t code p.row p.body p.next

pub record Placed (t : Words) (row : Row) : Type 0 where
  pub aligned : row.at % 4 ≡ 0
  pub low : tool_at t ≤ row.at
  pub high : row.at + 4 * row.len ≤ tool_at t + TOOL_TEXT_LEN

-- from age n of a family the address q is reached: a linked block with no live one between, or the tail
pub record Leads (ps : List Piece) (family n q : ℕ) (live : Bool) : Type 0 where
  pub lo : ℕ
  pub below : lo < n
  pub free : (m : Piece) → In m ps → LiveOf family m → lo < m.age → m.age < n → ⊥
  pub to : ((lo ≡ 0) × (q ≡ tail_of family)) ⊎ ((m : Piece) × In m ps × Linked m × (m.family ≡ family) × (m.age ≡ lo) × (m.row.at ≡ q) × (live ≡ true → m.row.status ≡ Live))

pub record HasFamily (ps : List Piece) (m b : Piece) : Type 0 where
  pub is_in : In b ps
  pub base : IsBase b
  pub at : b.row.at ≡ m.family
  pub point : b.row.point ≡ m.row.point

-- a jump to a base block stands at its point
pub record Door (code : Code) (b : Piece) : Type 0 where
  pub jump : ℕ
  pub stands : get code b.row.point ≡ Some (enter jump)
  pub hops : Hops b.row.point b.row.at jump

-- at an address of the text stands the program's word, or the jump to a live base block of that point
abbrev pub TextWord : Code → List Piece → ℕ → ℕ → Type 0
TextWord code ps a w = (get code a ≡ Some (own w)) ⊎ ((b : Piece) × In b ps × IsBase b × (b.row.point ≡ a) × (b.row.status ≡ Live) × Door code b)

-- the blocks and the words; no hart is in it
pub record Static (t : Words) (code : Code) (rows : List Row) (ps : List Piece) (clock : ℕ) : Type 0 where
  pub images : map the_row ps ≡ rows
  pub shapes : (p : Piece) → In p ps → Shaped t code p
  pub places : (p : Piece) → In p ps → Placed t p.row
  pub apart : (p q : Piece) → In p ps → In q ps → (p ≡ q) ⊎ Apart p.row.at p.row.len q.row.at q.row.len
  pub words : (a w : ℕ) → program_word t a ≡ Some w → TextWord code ps a w
  pub doors : (b : Piece) → In b ps → IsBase b → b.row.status ≡ Live → Door code b
  pub single : (b d : Piece) → In b ps → In d ps → IsBase b → IsBase d → b.row.point ≡ d.row.point → is_current b.row.status ≡ true → is_current d.row.status ≡ true → b ≡ d
  pub ages : (m : Piece) → In m ps → Linked m → (0 < m.age) × (m.age < clock)
  pub distinct : (m n : Piece) → In m ps → In n ps → Linked m → Linked n → m.age ≡ n.age → m ≡ n
  pub families : (m : Piece) → In m ps → Linked m → (b : Piece) × HasFamily ps m b
  pub used : (m b : Piece) → In m ps → Linked m → HasFamily ps m b → m.row.status ≡ Live → is_current b.row.status ≡ true
  pub chains : (m : Piece) → In m ps → Linked m → Leads ps m.family m.age m.next (is_live m.row.status)
  pub heads : (b : Piece) → In b ps → IsBase b → Leads ps b.row.at clock b.next (is_current b.row.status)

-- ---- harts: one of the patched machine beside the program's

-- all registers but x5 and x31 are the program's, and x5 stands saved
pub record Saved (x : Hart) (y : PlainHart) : Type 0 where
  pub agree : (r : ℕ) → r < 31 → r ≢ 5 → reg x.regs r ≡ reg y.regs r
  pub saved : saved_x5 x.bank ≡ reg y.regs 5

pub record Outside (x : Hart) (y : PlainHart) : Type 0 where
  pub outside : x.inside ≡ false
  pub pc : x.pc ≡ y.pc
  pub agree : Agree x.regs y.regs

-- at the first word of a base block
pub record AtSave (budget : ℕ) (b : Piece) (x : Hart) (y : PlainHart) : Type 0 where
  pub pc : x.pc ≡ b.row.at
  pub home : y.pc ≡ b.row.point
  pub before : x.ticks < budget
  pub agree : Agree x.regs y.regs

-- at its head, or at its tail
pub record AtSaved (budget : ℕ) (b : Piece) (place : ℕ) (x : Hart) (y : PlainHart) : Type 0 where
  pub pc : x.pc ≡ place
  pub home : y.pc ≡ b.row.point
  pub before : x.ticks < budget
  pub saved : Saved x y

-- the program's word of a base block, moved
pub record MovedWord (t : Words) (b : Piece) : Type 0 where
  pub word : ℕ
  pub here : program_word t b.row.point ≡ Some word
  pub moved : List MarkedWord
  pub movable : moved_of word b.row.point (moved_at b.row.at) ≡ Some moved
  pub moves : Moves word b.row.point (moved_at b.row.at) moved

-- at the moved words, up to the tick
pub record AtMoved (t : Words) (budget : ℕ) (b : Piece) (x : Hart) (y : PlainHart) : Type 0 where
  pub m : MovedWord t b
  pub j : ℕ
  pub low : j ≤ own_place m.word
  pub pc : x.pc ≡ moved_at b.row.at + 4 * j
  pub home : y.pc ≡ b.row.point
  pub before : x.ticks < budget
  pub regs : List ℕ
  pub size : length regs ≡ 32
  pub agree : Agree regs y.regs
  pub is : x.regs ≡ (m.moves).before j regs

-- after the tick
pub record AtLeave (t : Words) (b : Piece) (x : Hart) (y : PlainHart) : Type 0 where
  pub m : MovedWord t b
  pub j : ℕ
  pub above : own_place m.word < j
  pub low : j < length m.moved
  pub pc : x.pc ≡ moved_at b.row.at + 4 * j
  pub left : ℕ
  pub stands : slice_get m.moved j ≡ Some (leave left)
  pub home : jump_of (decode_of left) (moved_at b.row.at + 4 * j) ≡ Some y.pc
  pub agree : Agree x.regs y.regs

abbrev pub BasePlace : Words → ℕ → Piece → Hart → PlainHart → Type 0
BasePlace t budget b x y =
    AtSave budget b x y ⊎ (AtSaved budget b (b.row.at + 4) x y ⊎ (AtSaved budget b (tail_of b.row.at) x y ⊎ (AtMoved t budget b x y ⊎ AtLeave t b x y)))

pub record InBase (t : Words) (budget : ℕ) (ps : List Piece) (x : Hart) (y : PlainHart) : Type 0 where
  pub b : Piece
  pub is_in : In b ps
  pub base : IsBase b
  pub was : b.row.status ≡ Written → ⊥
  pub inside : x.inside ≡ true
  pub place : BasePlace t budget b x y

-- in a mini block, from whose word i on the body goes on safely
pub record InMini (budget : ℕ) (ps : List Piece) (x : Hart) (y : PlainHart) : Type 0 where
  pub m : Piece
  pub b : Piece
  pub is_in : In m ps
  pub linked : Linked m
  pub family : HasFamily ps m b
  pub was : b.row.status ≡ Written → ⊥
  pub inside : x.inside ≡ true
  pub home : y.pc ≡ m.row.point
  pub before : x.ticks < budget
  pub saved : Saved x y
  pub i : ℕ
  pub f : ℕ
  pub pc : x.pc ≡ m.row.at + 4 * i
  pub safe : Safe f m.body m.row.at i (bench_of x) x.ticks

abbrev pub HartOk : Words → ℕ → List Piece → Hart → PlainHart → Type 0
HartOk t budget ps x y = Outside x y ⊎ (InBase t budget ps x y ⊎ InMini budget ps x y)

pub record Dynamic (t : Words) (budget : ℕ) (ps : List Piece) (x : Hart) (y : PlainHart) : Type 0 where
  pub ticks : x.ticks ≡ y.ticks
  pub stop : x.stop ≡ y.stop
  pub first : length x.regs ≡ 32
  pub second : length y.regs ≡ 32
  pub bank : length x.bank ≡ bank_len
  pub down : (cause : Cause) → x.stop ≡ Some cause → (x.inside ≡ false) × (x.pc ≡ y.pc)
  pub hart : x.stop ≡ None → HartOk t budget ps x y

-- ---- together

pub record Inv (c : Core) (s : Plain) : Type 0 where
  pub ground : Ground c.program
  pub ps : List Piece
  pub clock : ℕ
  pub some : 0 < clock
  pub static : Static c.program c.code c.rows ps clock
  pub prog : c.prog ≡ s.prog
  pub many : length c.harts ≡ length s.harts
  pub harts : (h : ℕ) (x : Hart) (y : PlainHart) → slice_get c.harts h ≡ Some x → slice_get s.harts h ≡ Some y → Dynamic c.program c.budget ps x y
