-- For proofs alone: what an atomic access leaves.
use Rattle.std.specs.Prelude.{ℕ, List, Result, Ok, Err}
use Rattle.rv_word.specs.Exec.{Prog, Done, next}
use Rattle.rv_word.specs.Registers.{with_reg}
use Rattle.rv_word.specs.declared.outcome.Cause.{Cause}
use Rattle.rv_word.specs.declared.outcome.Next.TheVariants.{Go, Stop}

-- what a word at pc leaves that puts a value into rd, or stops
abbrev pub answering : Result ℕ Cause → ℕ → ℕ → List ℕ → Prog → Done
answering (Ok value) rd pc regs p = record { next = Go (next pc); regs = with_reg regs rd value; prog = p }
answering (Err cause) rd pc regs p = record { next = Stop cause; regs = regs; prog = p }
