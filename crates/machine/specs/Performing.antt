-- For proofs alone: what a hart's operation leaves, of which its turn is made.
use Rattle.std.specs.Prelude.{◌≡◌, ℕ, ◌⊎◌, if◌then◌else◌, Bool, Option, Some, None, Result, Ok, Err, List}
use Rattle.std.specs.FinMap.{get}
use Rattle.rv_word.specs.Exec.{Prog, done_of_outcome, exec_of}
use Rattle.rv_word.specs.declared.outcome.Cause.{Cause}
use Rattle.rv_exec.specs.Gives.{next_after}
use Rattle.tramp_spec.specs.Banks.{reach_of}
use Rattle.tramp_spec.specs.Harts.{Hart, Solo}
use Rattle.tramp_spec.specs.Steps.{Bench, Stood, stand, step_on}
use Rattle.tramp_spec.specs.declared.mark.Mark.{Mark}
use Rattle.tramp_spec.specs.declared.mark.Mark.TheVariants.{Own, Enter, Tool, Leave}
use Rattle.tramp_spec.specs.declared.mark.MarkedWord.{MarkedWord}
use Rattle.code_store.specs.Stores.{StoredCode}
use Rattle.machine.specs.Places.{home_of_word}

-- where a hart stands after a word that isn't the program's
abbrev pub stood_after : Option Cause → ℕ → Bench → Result Stood Cause
stood_after None pc x = Ok (stand pc x)
stood_after (Some cause) pc x = Err cause

-- registers and bank, as a word finds them
abbrev pub bench_from : List ℕ → List ℕ → Bench
bench_from regs bank = record { regs = regs; bank = bank }

-- a hart's registers and bank
abbrev pub bench_in : Hart → Bench
bench_in x = bench_from x.regs x.bank

-- a word of the program makes `z` of `x`
pub record PerformsOwn (word h : ℕ) (x z : Solo) : Type 0 where
  pub does : done_of_outcome (exec_of word x.hart.pc h x.hart.regs x.prog) x.hart.regs
      ≡ record { next = next_after z.hart.stop z.hart.pc; regs = z.hart.regs; prog = z.prog }
  pub keeps : z.hart.bank ≡ x.hart.bank

-- another word, which reaches n doublewords, makes `z` of `x`
pub record PerformsOther (n word : ℕ) (x z : Solo) : Type 0 where
  pub step : step_on n word x.hart.ticks x.hart.pc (bench_in x.hart) ≡ stood_after z.hart.stop z.hart.pc (bench_in z.hart)
  pub shares : z.prog ≡ x.prog
  pub stays : (z.hart.stop ≡ None) ⊎ ((z.hart.regs ≡ x.hart.regs) × (z.hart.bank ≡ x.hart.bank))

abbrev pub PerformsBy : Mark → ℕ → ℕ → Solo → Solo → Type 0
PerformsBy Own word h x z = PerformsOwn word h x z
PerformsBy Tool word h x z = PerformsOther (reach_of Tool) word x z
PerformsBy Enter word h x z = PerformsOther (reach_of Enter) word x z
PerformsBy Leave word h x z = PerformsOther (reach_of Leave) word x z

-- hart h performs the word: `x` becomes `z`, but for the ticks and whether the hart is inside
abbrev pub Performs : MarkedWord → ℕ → Solo → Solo → Type 0
Performs w h x z = PerformsBy w.mark w.word h x z

-- ---- homes, by the owner of a word

abbrev pub home_from : Option ℕ → Option MarkedWord → ℕ → ℕ
home_from None w a = a
home_from (Some point) w a = home_of_word w a point

abbrev pub home_in_store : StoredCode → ℕ → Bool → ℕ
home_in_store s pc inside = if inside then home_from (get s.owners pc) (get s.code pc) pc else pc

-- a hart by itself, from its parts
abbrev pub solo_of : Hart → Prog → Solo
solo_of x p = record { hart = x; prog = p }
