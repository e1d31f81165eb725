-- The meaning of one word: what its instruction asks, and what the machine does then.
use Rattle.std.specs.Prelude.{ℕ, ◌+◌, ◌-◌, ◌*◌, ◌/◌, ◌%◌, ◌^◌, ◌==◌, ◌||◌, nat_lt, if◌then◌else◌, Option, Some, None, Result, Ok, Err, List, [], ◌∷◌, ◌++◌, Bool, true, false, length, min, slice_set, slice_get}
use Rattle.rv_word.specs.Table.{decode_of}
use Rattle.rv_word.specs.InstrRegisters.{registers_of}
use Rattle.rv_word.specs.Memory.{Memory, load, store, bytes_at}
use Rattle.rv_word.specs.Registers.{reg, with_reg}
use Rattle.rv_word.specs.Values.{wrap, imm_value, shift_value, shift_word_value, reg_value, reg_32_value, low_word, is_branch_taken, load_len, loaded, store_len, atomic_len, answered, left_by}
use Rattle.rv_word.specs.declared.outcome.MemStop.{MemStop}
use Rattle.rv_word.specs.declared.outcome.MemStop.TheVariants.{Unmapped, InText}
use Rattle.rv_word.specs.declared.outcome.Cause.{Cause}
use Rattle.rv_word.specs.declared.outcome.Cause.TheVariants.{Exit, Illegal, Break, Misaligned, Access, TextAccess}
use Rattle.rv_word.specs.declared.outcome.Next.{Next}
use Rattle.rv_word.specs.declared.outcome.Next.TheVariants.{Go, Stop}
use Rattle.rv_word.specs.declared.instr.AmoOp.{AmoOp}
use Rattle.rv_word.specs.declared.instr.AtomicWidth.{AtomicWidth}
use Rattle.rv_word.specs.declared.instr.Instr.{Instr}
use Rattle.rv_word.specs.declared.instr.Instr.TheVariants.{Lui, Auipc, Jal, Jalr, Branch, Load, Store, OpImm, ShiftImm, Addiw, ShiftImm32, Op, Op32, Fence, Ecall, Ebreak, Lr, Sc, Amo}
use Rattle.rv_word.specs.declared.action.Action.{Action}
use Rattle.rv_word.specs.declared.action.Action.TheVariants.{Compute, Jump, BranchTo, ReadMemory, WriteMemory, LoadReserved, StoreConditional, AtomicAccess, SystemCall, Proceed, Halt}

-- what all harts share: the memory, each hart's reserved doubleword by its number, and the output
pub record Prog : Type 0 where
  pub mem : Memory
  pub resv : List (Option ℕ)
  pub out : List ℕ

-- what a word leads to; a stop leaves the registers as they are
pub data Outcome : Type 0 where
  Stops : (cause : Cause) (prog : Prog) → Outcome
  Goes : (pc : ℕ) (regs : List ℕ) (prog : Prog) → Outcome

-- ---- what an instruction asks

-- an operand's value, and 0 where the instruction has no such register
abbrev pub operand : List ℕ → Option ℕ → ℕ
operand regs None = 0
operand regs (Some r) = reg regs r

-- what the instruction at pc asks, a and b being its operands' values
unfoldable pub action : Instr → ℕ → ℕ → ℕ → Action
action (Lui rd imm) pc a b = Compute rd imm
action (Auipc rd imm) pc a b = Compute rd (wrap (pc + imm))
action (Jal rd offset) pc a b = Jump rd (wrap (pc + offset))
action (Jalr rd rs1 offset) pc a b = Jump rd (wrap (a + offset) / 2 * 2)
action (Branch op rs1 rs2 offset) pc a b = BranchTo (is_branch_taken op a b) (wrap (pc + offset))
action (Load op rd rs1 offset) pc a b = ReadMemory op rd (wrap (a + offset))
action (Store op rs1 rs2 offset) pc a b = WriteMemory (store_len op) (wrap (a + offset)) b
action (OpImm op rd rs1 imm) pc a b = Compute rd (imm_value op a imm)
action (ShiftImm op rd rs1 by) pc a b = Compute rd (shift_value op a by)
action (Addiw rd rs1 imm) pc a b = Compute rd (low_word (a + imm))
action (ShiftImm32 op rd rs1 by) pc a b = Compute rd (shift_word_value op a by)
action (Op op rd rs1 rs2) pc a b = Compute rd (reg_value op a b)
action (Op32 op rd rs1 rs2) pc a b = Compute rd (reg_32_value op a b)
action (Fence rd rs1 high) pc a b = Proceed
action Ecall pc a b = SystemCall
action Ebreak pc a b = Halt Break
action (Lr width rd rs1 order) pc a b = LoadReserved width rd a
action (Sc width rd rs1 rs2 order) pc a b = StoreConditional width rd a b
action (Amo op width rd rs1 rs2 order) pc a b = AtomicAccess op width rd a b

-- what the instruction at pc asks with these registers
abbrev pub asked : Instr → ℕ → List ℕ → Action
asked i pc regs = action i pc (operand regs (registers_of i).rs1) (operand regs (registers_of i).rs2)

-- ---- stops, and the next word

-- why a hart stops where memory refuses
abbrev pub stop_of : MemStop → Cause
stop_of (Unmapped a) = Access a
stop_of (InText a) = TextAccess a

abbrev pub or_stop : {A : Type 0} → Result A MemStop → Prog → (A → Outcome) → Outcome
or_stop (Ok x) p f = f x
or_stop (Err e) p f = Stops (stop_of e) p

-- the address of the next word
abbrev pub next : ℕ → ℕ
next pc = wrap (pc + 4)

-- a jump with the registers that it leaves, where its target is that of a word
abbrev pub jump_to : ℕ → List ℕ → Prog → Outcome
jump_to target regs p = if target % 4 == 0 then Goes target regs p else Stops Misaligned p

-- ---- reservations: each is the number of an aligned doubleword

-- what a store to the doublewords first to last leaves of a reservation
abbrev pub unless_hit : ℕ → ℕ → Option ℕ → Option ℕ
unless_hit first last None = None
unless_hit first last (Some d) = if (d == first) || (d == last) then None else Some d

-- the same for hart k, where hart h stores: its own reservation stays
abbrev pub left_of : ℕ → ℕ → ℕ → ℕ → Option ℕ → Option ℕ
left_of k h first last r = if k == h then r else unless_hit first last r

-- the reservations of harts k, k + 1 and so on after a store of hart h
abbrev pub broken : ℕ → ℕ → ℕ → ℕ → List (Option ℕ) → List (Option ℕ)
broken k h first last [] = []
broken k h first last (r ∷ rs) = left_of k h first last r ∷ broken (k + 1) h first last rs

abbrev pub is_that : Option (Option ℕ) → ℕ → Bool
is_that None d = false
is_that (Some None) d = false
is_that (Some (Some e)) d = e == d

-- whether hart h has the reservation of doubleword d
abbrev pub has : List (Option ℕ) → ℕ → ℕ → Bool
has resv h d = is_that (slice_get resv h) d

abbrev pub set_mem : Prog → Memory → List (Option ℕ) → Prog
set_mem p mem resv = record { mem = mem; resv = resv; out = p.out }

-- hart h has no reservation any more
abbrev pub without_reservation : ℕ → Prog → Prog
without_reservation h p = set_mem p p.mem (slice_set p.resv h None)

-- ---- atomic accesses

-- what follows the reading of the number at the address: the alignment is checked first, then the bytes
abbrev pub atomic : AtomicWidth → ℕ → Prog → (ℕ → Outcome) → Outcome
atomic width at p f = if at % atomic_len width == 0 then or_stop (load (atomic_len width) p.mem at) p f else Stops Misaligned p

-- an LR, where the number n was read: rd gets it, and the hart takes the reservation
abbrev pub reserve : AtomicWidth → ℕ → ℕ → ℕ → ℕ → ℕ → List ℕ → Prog → Outcome
reserve width n h rd at pc regs p =
    Goes (next pc) (with_reg regs rd (answered width n)) (set_mem p p.mem (slice_set p.resv h (Some (at / 8))))

-- an SC, with or without its hart's reservation, which is cleared by now: rd gets 0 where it stored, and else 1
abbrev pub conditional : Bool → ℕ → ℕ → ℕ → ℕ → ℕ → ℕ → List ℕ → Prog → Outcome
conditional false h n rd at v pc regs p = Goes (next pc) (with_reg regs rd 1) p
conditional true h n rd at v pc regs p =
    or_stop (store n p.mem at v) p (λ m. Goes (next pc) (with_reg regs rd 0) (set_mem p m (broken 0 h (at / 8) (at / 8) p.resv)))

-- an AMO, where the number `old` was read: rd gets it, and memory gets the operation's result
abbrev pub amo : AmoOp → AtomicWidth → ℕ → ℕ → ℕ → ℕ → ℕ → ℕ → List ℕ → Prog → Outcome
amo op width old h rd at v pc regs p =
    or_stop (store (atomic_len width) p.mem at (left_by op width old v)) p
    (λ m. Goes (next pc) (with_reg regs rd (answered width old)) (set_mem p m (broken 0 h (at / 8) (at / 8) p.resv)))

-- ---- system calls, by their number in a7: 93 and 94 exit, 64 writes

-- the number -n
abbrev pub minus : ℕ → ℕ
minus n = 2 ^ 64 - n

-- the call returns a value in a0
abbrev pub answers : ℕ → ℕ → List ℕ → Prog → Outcome
answers value pc regs p = Goes (next pc) (with_reg regs 10 value) p

-- What a write of these bytes returns, or the address in text at which it stops; and the output then. It returns -14 where
-- a byte is unmapped, -28 where the output would pass 1,048,576 bytes, and else the number of the bytes.
abbrev pub written_is : Result (List ℕ) MemStop → List ℕ → Result ℕ ℕ × List ℕ
written_is (Err (Unmapped a)) out = (Ok (minus 14), out)
written_is (Err (InText a)) out = (Err a, out)
written_is (Ok bs) out = if nat_lt 1048576 (length out + length bs) then (Ok (minus 28), out) else (Ok (length bs), out ++ bs)

abbrev pub outcome_of_write : Result ℕ ℕ × List ℕ → ℕ → List ℕ → Prog → Outcome
outcome_of_write (Ok answer, out) pc regs p = answers answer pc regs (record { mem = p.mem; resv = p.resv; out = out })
outcome_of_write (Err a, out) pc regs p = Stops (TextAccess a) p

-- A write is of at most 4,096 bytes; it returns -9 where a0 is neither 1 nor 2. Any other call returns -38.
abbrev pub system_call : ℕ → List ℕ → Prog → Outcome
system_call pc regs p =
    if (reg regs 17 == 93) || (reg regs 17 == 94) then Stops (Exit (reg regs 10 % 256)) p
    else if reg regs 17 == 64 then
    (if (reg regs 10 == 1) || (reg regs 10 == 2) then
    outcome_of_write (written_is (bytes_at (min (reg regs 12) 4096) p.mem (reg regs 11)) p.out) pc regs p
    else answers (minus 9) pc regs p)
    else answers (minus 38) pc regs p

-- ---- what the machine does

-- hart h, at pc, does what was asked; an SC clears its hart's reservation, also where it stops
unfoldable pub perform : ℕ → Action → ℕ → List ℕ → Prog → Outcome
perform h (Compute rd v) pc regs p = Goes (next pc) (with_reg regs rd v) p
perform h (Jump rd target) pc regs p = jump_to target (with_reg regs rd (next pc)) p
perform h (BranchTo is_branch_taken target) pc regs p = if is_branch_taken then jump_to target regs p else Goes (next pc) regs p
perform h (ReadMemory op rd at) pc regs p = or_stop (load (load_len op) p.mem at) p (λ n. Goes (next pc) (with_reg regs rd (loaded op n)) p)
perform h (WriteMemory len at v) pc regs p =
    or_stop (store len p.mem at v) p (λ m. Goes (next pc) regs (set_mem p m (broken 0 h (at / 8) (wrap (at + (len - 1)) / 8) p.resv)))
perform h (LoadReserved width rd at) pc regs p = atomic width at p (λ n. reserve width n h rd at pc regs p)
perform h (StoreConditional width rd at v) pc regs p =
    atomic width at (without_reservation h p)
    (λ n. conditional (has p.resv h (at / 8)) h (atomic_len width) rd at v pc regs (without_reservation h p))
perform h (AtomicAccess op width rd at v) pc regs p = atomic width at p (λ n. amo op width n h rd at v pc regs p)
perform h SystemCall pc regs p = system_call pc regs p
perform h Proceed pc regs p = Goes (next pc) regs p
perform h (Halt c) pc regs p = Stops c p

-- an instruction at pc, by hart h
abbrev pub exec_instr : Instr → ℕ → ℕ → List ℕ → Prog → Outcome
exec_instr i pc h regs p = perform h (asked i pc regs) pc regs p

abbrev pub exec_decoded : Option Instr → ℕ → ℕ → List ℕ → Prog → Outcome
exec_decoded None pc h regs p = Stops Illegal p
exec_decoded (Some i) pc h regs p = exec_instr i pc h regs p

-- The meaning of one word at pc, executed by hart h. A word outside the table is illegal.
abbrev pub exec_of : ℕ → ℕ → ℕ → List ℕ → Prog → Outcome
exec_of word pc h regs p = exec_decoded (decode_of word) pc h regs p

-- ---- the same with the registers that stay at a stop

pub record Done : Type 0 where
  pub next : Next
  pub regs : List ℕ
  pub prog : Prog

abbrev pub done_of_outcome : Outcome → List ℕ → Done
done_of_outcome (Stops c p) regs = record { next = Stop c; regs = regs; prog = p }
done_of_outcome (Goes pc new p) regs = record { next = Go pc; regs = new; prog = p }

abbrev pub prog_of : Memory → List (Option ℕ) → List ℕ → Prog
prog_of mem resv out = record { mem = mem; resv = resv; out = out }
