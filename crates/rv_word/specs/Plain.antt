-- The unpatched program: what its harts have, and one turn of a hart. No trampoline is in this machine.
use Rattle.std.specs.Prelude.{ℕ, ◌+◌, ◌-◌, ◌/◌, ◌%◌, ◌==◌, ◌&&◌, nat_le, nat_lt, if◌then◌else◌, Bool, false, Option, Some, None, is_none, List, slice_get, slice_set}
use Rattle.rv_word.specs.Names.{words_of}
use Rattle.rv_word.specs.Exec.{Prog, Outcome, Stops, exec_of, Done, done_of_outcome}
use Rattle.rv_word.specs.declared.outcome.Cause.{Cause}
use Rattle.rv_word.specs.declared.outcome.Cause.TheVariants.{FetchOutside}
use Rattle.rv_word.specs.declared.outcome.Next.{Next}
use Rattle.rv_word.specs.declared.outcome.Next.TheVariants.{Go, Stop}

-- the words of a program's text, the first at the address `at`
pub record Words : Type 0 where
  pub at : ℕ
  pub words : List ℕ

-- the words of a text at an address
abbrev pub words_from : ℕ → List ℕ → Words
words_from at text = record { at = at; words = words_of text }

-- the word at an address, where the text has one there
abbrev pub program_word : Words → ℕ → Option ℕ
program_word t pc = if nat_le t.at pc && ((pc - t.at) % 4 == 0) then slice_get t.words ((pc - t.at) / 4) else None

-- a hart: its pc, registers and ticks, and why it stopped; a stopped hart keeps the pc of its last word
pub record PlainHart : Type 0 where
  pub pc : ℕ
  pub regs : List ℕ
  pub ticks : ℕ
  pub stop : Option Cause

-- the unpatched machine
pub record Plain : Type 0 where
  pub harts : List PlainHart
  pub prog : Prog

-- what follows the fetch of a word, or of none
abbrev pub fetched : Option ℕ → ℕ → PlainHart → Prog → Outcome
fetched None h x p = Stops FetchOutside p
fetched (Some word) h x p = exec_of word x.pc h x.regs p

-- a hart after its word, with one tick more
abbrev pub hart_after : Next → List ℕ → PlainHart → PlainHart
hart_after (Go pc) regs x = record { pc = pc; regs = regs; ticks = x.ticks + 1; stop = x.stop }
hart_after (Stop cause) regs x = record { pc = x.pc; regs = regs; ticks = x.ticks + 1; stop = Some cause }

-- a hart by itself, with what all share
pub record Alone : Type 0 where
  pub hart : PlainHart
  pub prog : Prog

abbrev pub after_done : Done → PlainHart → Alone
after_done d x = record { hart = hart_after d.next d.regs x; prog = d.prog }

-- one turn of hart h by itself
abbrev pub turn_alone : Words → ℕ → Alone → Alone
turn_alone t h s = after_done (done_of_outcome (fetched (program_word t s.hart.pc) h s.hart s.prog) s.hart.regs) s.hart

abbrev pub put_back : Plain → ℕ → Alone → Plain
put_back s h a = record { harts = slice_set s.harts h a.hart; prog = a.prog }

abbrev pub turn_of : Option PlainHart → Words → ℕ → Plain → Plain
turn_of None t h s = s
turn_of (Some x) t h s = put_back s h (turn_alone t h (record { hart = x; prog = s.prog }))

-- One turn of hart h: one tick, also where the word stops the hart, and also where the pc isn't in the text.
abbrev pub plain : Words → ℕ → Plain → Plain
plain t h s = turn_of (slice_get s.harts h) t h s

abbrev pub may_go : Option PlainHart → ℕ → Bool
may_go None budget = false
may_go (Some x) budget = is_none x.stop && nat_lt x.ticks budget

-- hart h isn't stopped, and its ticks are below the budget
abbrev pub can : ℕ → Plain → ℕ → Bool
can budget s h = may_go (slice_get s.harts h) budget
