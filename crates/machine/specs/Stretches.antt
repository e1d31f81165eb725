-- For proofs alone: words of the program's text that a hart outside runs one after another.
use Rattle.std.specs.Prelude.{◌≡◌, ℕ, zero, suc, false, Option, Some, None, List}
use Rattle.rv_word.specs.Exec.{Prog, Done, done_of_outcome, exec_decoded}
use Rattle.rv_word.specs.Table.{decode_of}
use Rattle.rv_word.specs.declared.instr.Instr.{Instr}
use Rattle.rv_word.specs.declared.outcome.Cause.{Cause}
use Rattle.rv_word.specs.declared.outcome.Next.{Next}
use Rattle.rv_word.specs.declared.outcome.Next.TheVariants.{Go, Stop}
use Rattle.tramp_spec.specs.Codes.{fetched_at}
use Rattle.tramp_spec.specs.declared.mark.Mark.TheVariants.{Own}
use Rattle.tramp_spec.specs.declared.mark.MarkedWord.{MarkedWord}
use Rattle.code_store.specs.Stores.{StoredCode}

-- where a hart is after a word, with what all harts share
pub record Left : Type 0 where
  pub pc : ℕ
  pub stop : Option Cause
  pub regs : List ℕ
  pub prog : Prog

abbrev pub left_by : Next → ℕ → List ℕ → Prog → Left
left_by (Go pc) at regs p = record { pc = pc; stop = None; regs = regs; prog = p }
left_by (Stop cause) at regs p = record { pc = at; stop = Some cause; regs = regs; prog = p }

abbrev pub left_as : Done → ℕ → Left
left_as d at = left_by d.next at d.regs d.prog

-- hart h runs an instruction; where it stops, it stands where it stood
abbrev pub ran : ℕ → Option Instr → ℕ → List ℕ → Prog → Left
ran h i pc regs p = left_as (done_of_outcome (exec_decoded i pc h regs p) regs) pc

-- the instruction of a word of the program
abbrev pub HasOwn : Option MarkedWord → (Option Instr → Type 0) → Type 0
HasOwn None claim = ⊥
HasOwn (Some w) claim = (w.mark ≡ Own) × claim (decode_of w.word)

-- This many words of the program, each of which a hart outside fetches and runs, lead from the one to the other.
abbrev pub AreRun : StoredCode → ℕ → ℕ → Left → Left → Type 0
AreRun s h zero x z = z ≡ x
AreRun s h (suc n) x z =
    (x.stop ≡ None) × HasOwn (fetched_at s.program s.code x.pc false) (λ i. AreRun s h n (ran h i x.pc x.regs x.prog) z)
