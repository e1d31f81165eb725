-- What a word does that is no tick: a word of the tool, or the jump to it or from it. Its loads and stores reach the bank,
-- and it has no memory, output or reservation.
use Rattle.std.specs.Prelude.{ℕ, ◌/◌, ◌%◌, ◌==◌, ◌&&◌, if◌then◌else◌, Option, Some, None, Result, Ok, Err, List}
use Rattle.rv_word.specs.Table.{decode_of}
use Rattle.rv_word.specs.Registers.{with_reg}
use Rattle.rv_word.specs.Values.{load_len}
use Rattle.rv_word.specs.Exec.{asked, next}
use Rattle.rv_word.specs.declared.outcome.Cause.{Cause}
use Rattle.rv_word.specs.declared.outcome.Cause.TheVariants.{Illegal, Misaligned, Access}
use Rattle.rv_word.specs.declared.instr.Instr.{Instr}
use Rattle.rv_word.specs.declared.action.Action.{Action}
use Rattle.rv_word.specs.declared.action.Action.TheVariants.{Compute, Jump, BranchTo, ReadMemory, WriteMemory, LoadReserved, StoreConditional, AtomicAccess, SystemCall, Proceed, Halt}
use Rattle.tramp_spec.specs.Banks.{bank_at, set_bank, is_in_bank}

-- what a hart has that such a word reaches
pub record Bench : Type 0 where
  pub regs : List ℕ
  pub bank : List ℕ

-- where the hart stands after the word, and with what
pub record Stood : Type 0 where
  pub pc : ℕ
  pub bench : Bench

abbrev pub stand : ℕ → Bench → Stood
stand pc x = record { pc = pc; bench = x }

-- with a value in register r
abbrev pub with_value : Bench → ℕ → ℕ → Bench
with_value x r v = record { regs = with_reg x.regs r v; bank = x.bank }

-- with a value in doubleword n
abbrev pub with_doubleword : Bench → ℕ → ℕ → Bench
with_doubleword x n v = record { regs = x.regs; bank = set_bank x.bank n v }

-- a jump, where its target is that of a word
abbrev pub leads_to : ℕ → Bench → Result Stood Cause
leads_to target x = if target % 4 == 0 then Ok (stand target x) else Err Misaligned

-- What is done at pc where the word reaches n doublewords, or why the hart stops. Only aligned doublewords of the bank are
-- read and written; every other access stops the hart, and so does a system call.
unfoldable pub perform_on : ℕ → Action → ℕ → ℕ → Bench → Result Stood Cause
perform_on n (Compute rd v) ticks pc x = Ok (stand (next pc) (with_value x rd v))
perform_on n (Jump rd target) ticks pc x = leads_to target (with_value x rd (next pc))
perform_on n (BranchTo taken target) ticks pc x = if taken then leads_to target x else Ok (stand (next pc) x)
perform_on n (ReadMemory op rd at) ticks pc x =
    if (load_len op == 8) && is_in_bank n at then Ok (stand (next pc) (with_value x rd (bank_at ticks x.bank (at / 8))))
    else Err (Access at)
perform_on n (WriteMemory len at v) ticks pc x =
    if (len == 8) && is_in_bank n at then Ok (stand (next pc) (with_doubleword x (at / 8) v)) else Err (Access at)
perform_on n (LoadReserved width rd at) ticks pc x = Err (Access at)
perform_on n (StoreConditional width rd at v) ticks pc x = Err (Access at)
perform_on n (AtomicAccess op width rd at v) ticks pc x = Err (Access at)
perform_on n SystemCall ticks pc x = Err Illegal
perform_on n Proceed ticks pc x = Ok (stand (next pc) x)
perform_on n (Halt cause) ticks pc x = Err cause

abbrev pub step_decoded : ℕ → Option Instr → ℕ → ℕ → Bench → Result Stood Cause
step_decoded n None ticks pc x = Err Illegal
step_decoded n (Some i) ticks pc x = perform_on n (asked i pc x.regs) ticks pc x

-- The step of a word at pc that reaches n doublewords, by a hart with this number of ticks.
abbrev pub step_on : ℕ → ℕ → ℕ → ℕ → Bench → Result Stood Cause
step_on n word ticks pc x = step_decoded n (decode_of word) ticks pc x
