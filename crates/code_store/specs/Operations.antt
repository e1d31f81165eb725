-- For proofs alone: the operations that the slots of a store keep for their words.
use Rattle.std.specs.Prelude.{◌≡◌, ℕ, ◌+◌, ◌/◌, ◌<◌, ◌≤◌, ◌^◌, if◌then◌else◌, not, Bool, true, false, Option, Some, None, Result, Ok, Err, List, [], ◌∷◌, IfSome}
use Rattle.rv_word.specs.Exec.{Prog, Done, done_of_outcome, exec_decoded, next}
use Rattle.rv_word.specs.Registers.{reg}
use Rattle.rv_word.specs.Table.{decode_of}
use Rattle.rv_word.specs.Values.{wrap}
use Rattle.rv_word.specs.Words.{HasWord}
use Rattle.rv_word.specs.declared.instr.Instr.{Instr}
use Rattle.rv_word.specs.declared.instr.Instr.TheVariants.{Load, Store, Ecall, Ebreak, Lr, Sc, Amo}
use Rattle.rv_word.specs.declared.outcome.Cause.{Cause}
use Rattle.rv_word.specs.declared.outcome.Cause.TheVariants.{Access}
use Rattle.rv_word.specs.declared.outcome.Next.{Next}
use Rattle.rv_word.specs.declared.outcome.Next.TheVariants as ways
use Rattle.rv_exec.specs.Flat.{instr_of, wide, CanRunFlat, IsFlatOf}
use Rattle.tramp_spec.specs.Marks.{is_jump}
use Rattle.tramp_spec.specs.Banks.{bank_at, bank_len, is_in_bank}
use Rattle.tramp_spec.specs.Steps.{Bench, Stood, stand, step_decoded, with_doubleword, with_value}
use Rattle.tramp_spec.specs.declared.mark.Mark.{Mark}
use Rattle.tramp_spec.specs.declared.mark.Mark.TheVariants.{Own, Enter, Tool, Leave}
use Rattle.tramp_spec.specs.declared.mark.MarkedWord.{MarkedWord}
use Rattle.rv_exec.specs.declared.flat.Flat.{Flat}
use Rattle.rv_exec.specs.declared.flat.Flat.TheVariants as flats
use Rattle.code_store.specs.declared.operation.Operation.{Operation}
use Rattle.code_store.specs.declared.operation.Operation.TheVariants.{Run, LoadBank, StoreBank, NoAccess, Stop}

-- the instruction reaches no memory and makes no call
abbrev pub computes : Option Instr → Bool
computes None = false
computes (Some (Load op rd rs1 offset)) = false
computes (Some (Store op rs1 rs2 offset)) = false
computes (Some Ecall) = false
computes (Some Ebreak) = false
computes (Some (Lr width rd rs1 order)) = false
computes (Some (Sc width rd rs1 rs2 order)) = false
computes (Some (Amo op width rd rs1 rs2 order)) = false
computes (Some i) = true

-- how many doublewords a word reaches that isn't the program's
abbrev pub reached : Bool → ℕ
reached is_tool = if is_tool then bank_len else 0

-- where a hart stands after a word that does what it does in the program
abbrev pub stands_as : Next → List ℕ → List ℕ → Result Stood Cause
stands_as (ways.Go pc) regs bank = Ok (stand pc (record { regs = regs; bank = bank }))
stands_as (ways.Stop cause) regs bank = Err cause

abbrev pub done_as : Done → List ℕ → Result Stood Cause
done_as d bank = stands_as d.next d.regs bank

-- under a mark that reaches n doublewords the instruction does what it does in the program
pub record RunsAlike (n : ℕ) (i : Option Instr) : Type 0 where
  pub step : (h ticks pc : ℕ) (x : Bench) (p : Prog)
      → step_decoded n i ticks pc x ≡ done_as (done_of_outcome (exec_decoded i pc h x.regs p) x.regs) x.bank
  pub prog : (h pc : ℕ) (regs : List ℕ) (p : Prog) → (done_of_outcome (exec_decoded i pc h regs p) regs).prog ≡ p

-- a load of the doubleword at an address of the bank
abbrev pub bank_loaded : ℕ → ℕ → ℕ → ℕ → Bench → Result Stood Cause
bank_loaded rd at ticks pc x =
    if is_in_bank bank_len at then Ok (stand (next pc) (with_value x rd (bank_at ticks x.bank (at / 8)))) else Err (Access at)

-- a store there
abbrev pub bank_stored : ℕ → ℕ → ℕ → Bench → Result Stood Cause
bank_stored v at pc x = if is_in_bank bank_len at then Ok (stand (next pc) (with_doubleword x (at / 8) v)) else Err (Access at)

-- what the instruction does under a mark that isn't the program's and reaches n doublewords
abbrev pub Does : ℕ → Option Instr → Operation → Type 0
Does n i (Run flat j) = IsFlatOf i flat × (j ≡ i) × IfSome i HasWord × RunsAlike n i
Does n i (LoadBank rd rs1 offset) =
    (rd < 32) × (rs1 < 32)
    × ((ticks pc : ℕ) (x : Bench) → step_decoded n i ticks pc x ≡ bank_loaded rd (wrap (reg x.regs rs1 + offset)) ticks pc x)
Does n i (StoreBank rs1 rs2 offset) =
    (rs1 < 32) × (rs2 < 32)
    × ((ticks pc : ℕ) (x : Bench) → step_decoded n i ticks pc x ≡ bank_stored (reg x.regs rs2) (wrap (reg x.regs rs1 + offset)) pc x)
Does n i (NoAccess rs1 offset) =
    (rs1 < 32) × ((ticks pc : ℕ) (x : Bench) → reg x.regs rs1 < 2 ^ 64
    → step_decoded n i ticks pc x ≡ Err (Access (wrap (reg x.regs rs1 + offset))))
Does n i (Stop cause) = (ticks pc : ℕ) (x : Bench) → step_decoded n i ticks pc x ≡ Err cause

-- the operation of a word of the program
abbrev pub Executes : Option Instr → Operation → Type 0
Executes i (Run flat j) = IsFlatOf i flat × (j ≡ i) × IfSome i HasWord
Executes i (LoadBank rd rs1 offset) = ⊥
Executes i (StoreBank rs1 rs2 offset) = ⊥
Executes i (NoAccess rs1 offset) = ⊥
Executes i (Stop cause) = ⊥

abbrev pub IsOperationBy : Mark → Option Instr → Operation → Type 0
IsOperationBy Own i o = Executes i o
IsOperationBy Tool i o = Does bank_len i o
IsOperationBy Enter i o = Does 0 i o
IsOperationBy Leave i o = Does 0 i o

-- the operation of a marked word
abbrev pub IsOperationOf : MarkedWord → Operation → Type 0
IsOperationOf w o = IsOperationBy w.mark (decode_of w.word) o

-- ---- flats of the tool's words

-- the flat of an access to memory
abbrev pub is_access : Flat → Bool
is_access (flats.Lb rd rs1 imm) = true
is_access (flats.Lh rd rs1 imm) = true
is_access (flats.Lw rd rs1 imm) = true
is_access (flats.Ld rd rs1 imm) = true
is_access (flats.Lbu rd rs1 imm) = true
is_access (flats.Lhu rd rs1 imm) = true
is_access (flats.Lwu rd rs1 imm) = true
is_access (flats.Sb rs1 rs2 imm) = true
is_access (flats.Sh rs1 rs2 imm) = true
is_access (flats.Sw rs1 rs2 imm) = true
is_access (flats.Sd rs1 rs2 imm) = true
is_access f = false

-- What the flat of the tool's word says that it does: its accesses are those of doublewords of the bank, and else it does what it does in the
-- program.
abbrev pub StepsBy : Option Instr → Flat → Type 0
StepsBy i (flats.Ld rd rs1 imm) =
    (1 ≤ rd) × (rd < 32) × (rs1 < 32)
    × ((ticks pc : ℕ) (x : Bench) → step_decoded bank_len i ticks pc x ≡ bank_loaded rd (wrap (reg x.regs rs1 + wide imm)) ticks pc x)
StepsBy i (flats.Sd rs1 rs2 imm) =
    (rs1 < 32) × (rs2 < 32)
    × ((ticks pc : ℕ) (x : Bench) → step_decoded bank_len i ticks pc x ≡ bank_stored (reg x.regs rs2) (wrap (reg x.regs rs1 + wide imm)) pc x)
StepsBy i f = (is_access f ≡ false) × IsFlatOf i f × IfSome (instr_of f) (λ j. RunsAlike bank_len i)

-- the flat of a word of the tool; for another it is `Rest`
abbrev pub IsToolFlatBy : Mark → Option Instr → Flat → Type 0
IsToolFlatBy Tool i f = StepsBy i f
IsToolFlatBy Own i f = f ≡ flats.Rest
IsToolFlatBy Enter i f = f ≡ flats.Rest
IsToolFlatBy Leave i f = f ≡ flats.Rest

-- ---- flats

-- in the list of flats a word of the program has its flat, and another is no instruction
abbrev pub IsFlatBy : Mark → Option Instr → Flat → Type 0
IsFlatBy Own i flat = IsFlatOf i flat
IsFlatBy Enter i flat = (instr_of flat ≡ None) × CanRunFlat flat
IsFlatBy Tool i flat = (instr_of flat ≡ None) × CanRunFlat flat
IsFlatBy Leave i flat = (instr_of flat ≡ None) × CanRunFlat flat

abbrev pub IsMarkedFlat : MarkedWord → Flat → Type 0
IsMarkedFlat w flat = IsFlatBy w.mark (decode_of w.word) flat

-- there is a flat exactly where a word is fetched, and it is that word's
abbrev pub IsFlatAt : Option MarkedWord → Option Flat → Type 0
IsFlatAt None None = Unit {0}
IsFlatAt None (Some flat) = ⊥
IsFlatAt (Some w) None = ⊥
IsFlatAt (Some w) (Some flat) = IsMarkedFlat w flat

-- word by word
abbrev pub AreFlatsOf : List MarkedWord → List Flat → Type 0
AreFlatsOf [] [] = Unit {0}
AreFlatsOf (w ∷ ws) (flat ∷ flats) = IsMarkedFlat w flat × AreFlatsOf ws flats
AreFlatsOf [] (flat ∷ flats) = ⊥
AreFlatsOf (w ∷ ws) [] = ⊥

-- ---- inside

-- a hart that is inside stays so after a word
abbrev pub keeps_by : Mark → ℕ → Bool
keeps_by Own word = not (is_jump word)
keeps_by Enter word = true
keeps_by Tool word = true
keeps_by Leave word = false

-- a hart is inside after the word
abbrev pub enters_by : Mark → Bool
enters_by Enter = true
enters_by Own = false
enters_by Tool = false
enters_by Leave = false
