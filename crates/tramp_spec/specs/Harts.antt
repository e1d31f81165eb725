-- A hart of the patched machine, and its step by a marked word.
use Rattle.std.specs.Prelude.{ℕ, ◌+◌, Bool, true, false, Option, Some, None, Result, Ok, Err, List}
use Rattle.rv_word.specs.Exec.{Prog, Done, done_of_outcome, exec_of}
use Rattle.rv_word.specs.declared.outcome.Cause.{Cause}
use Rattle.rv_word.specs.declared.outcome.Cause.TheVariants.{FetchOutside}
use Rattle.rv_word.specs.declared.outcome.Next.{Next}
use Rattle.rv_word.specs.declared.outcome.Next.TheVariants.{Go, Stop}
use Rattle.tramp_spec.specs.Marks.{inside_after, is_own}
use Rattle.tramp_spec.specs.Banks.{reach_of}
use Rattle.tramp_spec.specs.Steps.{Bench, Stood, step_on}
use Rattle.tramp_spec.specs.declared.mark.Mark.{Mark}
use Rattle.tramp_spec.specs.declared.mark.Mark.TheVariants.{Own, Enter, Tool, Leave}
use Rattle.tramp_spec.specs.declared.mark.MarkedWord.{MarkedWord}

-- its pc, registers and ticks, why it stopped, whether it is inside a trampoline, and its bank
pub record Hart : Type 0 where
  pub pc : ℕ
  pub regs : List ℕ
  pub ticks : ℕ
  pub stop : Option Cause
  pub inside : Bool
  pub bank : List ℕ

-- a hart by itself, with what all harts share
pub record Solo : Type 0 where
  pub hart : Hart
  pub prog : Prog

-- a stopped hart stands at its home, and isn't inside
abbrev pub stopped : Hart → ℕ → Cause → Hart
stopped x home cause = record x { pc = home; stop = Some cause; inside = false }

abbrev pub ticked : Hart → Hart
ticked x = record x { ticks = x.ticks + 1 }

-- after a word of the program
abbrev pub own_hart : Next → List ℕ → ℕ → ℕ → Hart → Hart
own_hart (Go pc) regs word home x = record x { pc = pc; regs = regs; inside = inside_after Own word x.inside }
own_hart (Stop cause) regs word home x = stopped x home cause

abbrev pub own_step : Done → ℕ → ℕ → Hart → Solo
own_step d word home x = record { hart = ticked (own_hart d.next d.regs word home x); prog = d.prog }

-- after another word
abbrev pub other_hart : Result Stood Cause → Mark → ℕ → ℕ → Hart → Hart
other_hart (Ok s) mark word home x =
    record x { pc = s.pc; regs = s.bench.regs; bank = s.bench.bank; inside = inside_after mark word x.inside }
other_hart (Err cause) mark word home x = stopped x home cause

abbrev pub bench_of : Hart → Bench
bench_of x = record { regs = x.regs; bank = x.bank }

abbrev pub other_step : Mark → ℕ → ℕ → Solo → Solo
other_step mark word home s =
    record {
      hart = other_hart (step_on (reach_of mark) word s.hart.ticks s.hart.pc (bench_of s.hart)) mark word home s.hart;
      prog = s.prog;
    }

abbrev pub marked_step : Mark → ℕ → ℕ → ℕ → Solo → Solo
marked_step Own word h home s = own_step (done_of_outcome (exec_of word s.hart.pc h s.hart.regs s.prog) s.hart.regs) word home s.hart
marked_step Enter word h home s = other_step Enter word home s
marked_step Tool word h home s = other_step Tool word home s
marked_step Leave word h home s = other_step Leave word home s

-- The step of hart h by the word that it fetched, `home` being the home of its pc. Where no word is fetched it stops, which is
-- a tick.
abbrev pub step_of : Option MarkedWord → ℕ → ℕ → Solo → Solo
step_of None h home s = record { hart = ticked (stopped s.hart home FetchOutside); prog = s.prog }
step_of (Some w) h home s = marked_step w.mark w.word h home s

-- whether that is a tick
abbrev pub is_tick : Option MarkedWord → Bool
is_tick None = true
is_tick (Some w) = is_own w.mark
