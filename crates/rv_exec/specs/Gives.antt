-- What a word leaves of the state before it.
use Rattle.std.specs.Prelude.{ℕ, ◌≡◌, List, Option, Some, None, length}
use Rattle.rv_word.specs.Exec.{Prog, Outcome, done_of_outcome, prog_of}
use Rattle.rv_word.specs.Memory.{Memory}
use Rattle.rv_word.specs.declared.outcome.Cause.{Cause}
use Rattle.rv_word.specs.declared.outcome.Next.{Next}
use Rattle.rv_word.specs.declared.outcome.Next.TheVariants.{Go, Stop}

-- the registers of a hart, and what all harts share
pub record ExecState : Type 0 where
  pub regs : List ℕ
  pub prog : Prog

abbrev pub state_of : List ℕ → Prog → ExecState
state_of regs p = record { regs = regs; prog = p }

-- the same from its parts
abbrev pub state_from : List ℕ → Memory → List (Option ℕ) → List ℕ → ExecState
state_from regs mem resv out = state_of regs (prog_of mem resv out)

-- What a hart does leaves of a state a new one, and says how the hart goes on. Each hart keeps its place among the reservations.
pub record IsExecuted (does : List ℕ → Prog → Outcome) (old : ExecState) (next : Next) (new : ExecState) : Type 0 where
  pub state : done_of_outcome (does old.regs old.prog) old.regs ≡ record { next = next; regs = new.regs; prog = new.prog }
  pub harts : length new.prog.resv ≡ length old.prog.resv

-- how a hart goes on, from the cause of its stop and its pc
abbrev pub next_after : Option Cause → ℕ → Next
next_after None pc = Go pc
next_after (Some cause) pc = Stop cause
