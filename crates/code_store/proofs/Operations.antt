-- What the operations of a store's slots do.
use Rattle.std.proofs.Common.{◌≡◌, ℕ, ◌+◌, ◌%◌, ◌^◌, ◌<◌, ◌⊎◌, List, Option, Some, None, Ok, Err, refl, ap, ◌∙◌, arith, ⊎_elim}
use Rattle.std.specs.Prelude.{◌==◌, ◌&&◌, Bool, true, false, cond}
use Rattle.std.proofs.lemmas.Bool.{cond-false}
use Rattle.std.proofs.lemmas.Grind.{common_steps}
use Rattle.rv_word.specs.Exec.{Prog, Stops, Goes, action, asked, done_of_outcome, next, perform}
use Rattle.rv_word.specs.Registers.{reg, with_reg}
use Rattle.rv_word.specs.Values.{wrap, load_len, store_len}
use Rattle.rv_word.specs.declared.action.Action.{Action}
use Rattle.rv_word.specs.declared.action.Action.TheVariants.{Compute, Jump, BranchTo, ReadMemory, WriteMemory, LoadReserved, StoreConditional, AtomicAccess, SystemCall, Proceed, Halt}
use Rattle.rv_word.specs.declared.instr.Instr.{Instr}
use Rattle.rv_word.specs.declared.instr.Instr.TheVariants.{Lui, Auipc, Jal, Jalr, Branch, Load, Store, OpImm, ShiftImm, Addiw, ShiftImm32, Op, Op32, Fence, Ecall, Ebreak, Lr, Sc, Amo}
use Rattle.rv_word.specs.declared.instr.LoadOp.{LoadOp}
use Rattle.rv_word.specs.declared.instr.LoadOp.TheVariants.{Ld}
use Rattle.rv_word.specs.declared.instr.StoreOp.{StoreOp}
use Rattle.rv_word.specs.declared.instr.StoreOp.TheVariants.{Sd}
use Rattle.rv_word.specs.declared.outcome.Cause.TheVariants.{Misaligned, Access}
use Rattle.tramp_spec.specs.Banks.{bank_len, is_in_bank}
use Rattle.tramp_spec.specs.Steps.{Bench, stand, perform_on, step_decoded}
use Rattle.rv_exec.specs.Flat.{IsFlatOf}
use Rattle.rv_exec.specs.declared.flat.Flat.{Flat}
use Rattle.rv_exec.specs.declared.flat.Flat.TheVariants as flats
use Rattle.code_store.specs.Operations.{StepsBy, is_access, computes, RunsAlike, done_as, bank_loaded, bank_stored}

-- ---- words that do what they do in the program

abbrev IsBare : Action → Type 0
IsBare (Compute rd v) = Unit {0}
IsBare (Jump rd target) = Unit {0}
IsBare (BranchTo taken target) = Unit {0}
IsBare Proceed = Unit {0}
IsBare (ReadMemory op rd at) = ⊥
IsBare (WriteMemory len at v) = ⊥
IsBare (LoadReserved width rd at) = ⊥
IsBare (StoreConditional width rd at v) = ⊥
IsBare (AtomicAccess op width rd at v) = ⊥
IsBare SystemCall = ⊥
IsBare (Halt cause) = ⊥

asks_bare : (i : Instr) → computes (Some i) ≡ true → (pc a b : ℕ) → IsBare (action i pc a b)
unfolding action
asks_bare (Lui rd imm) h pc a b = tt
asks_bare (Auipc rd imm) h pc a b = tt
asks_bare (Jal rd offset) h pc a b = tt
asks_bare (Jalr rd rs1 offset) h pc a b = tt
asks_bare (Branch op rs1 rs2 offset) h pc a b = tt
asks_bare (Load op rd rs1 offset) h pc a b = absurd cc
asks_bare (Store op rs1 rs2 offset) h pc a b = absurd cc
asks_bare (OpImm op rd rs1 imm) h pc a b = tt
asks_bare (ShiftImm op rd rs1 by) h pc a b = tt
asks_bare (Addiw rd rs1 imm) h pc a b = tt
asks_bare (ShiftImm32 op rd rs1 by) h pc a b = tt
asks_bare (Op op rd rs1 rs2) h pc a b = tt
asks_bare (Op32 op rd rs1 rs2) h pc a b = tt
asks_bare (Fence rd rs1 high) h pc a b = tt
asks_bare Ecall h pc a b = absurd cc
asks_bare Ebreak h pc a b = absurd cc
asks_bare (Lr width rd rs1 order) h pc a b = absurd cc
asks_bare (Sc width rd rs1 rs2 order) h pc a b = absurd cc
asks_bare (Amo op width rd rs1 rs2 order) h pc a b = absurd cc

leads_as : (lands : Bool) (target : ℕ) (regs bank old : List ℕ) (p : Prog) → cond lands (Ok (stand target (record { regs = regs; bank = bank }))) (Err Misaligned) ≡ done_as (done_of_outcome (cond lands (Goes target regs p) (Stops Misaligned p)) old) bank
leads_as true target regs bank old p = refl
leads_as false target regs bank old p = refl

does_as : (n : ℕ) (a : Action) → IsBare a → (h ticks pc : ℕ) (x : Bench) (p : Prog) → perform_on n a ticks pc x ≡ done_as (done_of_outcome (perform h a pc x.regs p) x.regs) x.bank
unfolding perform_on perform
does_as n (Compute rd v) bare h ticks pc x p = refl
does_as n (Jump rd target) bare h ticks pc x p = leads_as (target % 4 == 0) target (with_reg x.regs rd (next pc)) x.bank x.regs p
does_as n (BranchTo true target) bare h ticks pc x p = leads_as (target % 4 == 0) target x.regs x.bank x.regs p
does_as n (BranchTo false target) bare h ticks pc x p = refl
does_as n Proceed bare h ticks pc x p = refl
does_as n (ReadMemory op rd at) bare h ticks pc x p = absurd bare
does_as n (WriteMemory len at v) bare h ticks pc x p = absurd bare
does_as n (LoadReserved width rd at) bare h ticks pc x p = absurd bare
does_as n (StoreConditional width rd at v) bare h ticks pc x p = absurd bare
does_as n (AtomicAccess op width rd at v) bare h ticks pc x p = absurd bare
does_as n SystemCall bare h ticks pc x p = absurd bare
does_as n (Halt cause) bare h ticks pc x p = absurd bare

leads_with : (lands : Bool) (target : ℕ) (regs old : List ℕ) (p : Prog) → (done_of_outcome (cond lands (Goes target regs p) (Stops Misaligned p)) old).prog ≡ p
leads_with true target regs old p = refl
leads_with false target regs old p = refl

shares_nothing : (a : Action) → IsBare a → (h pc : ℕ) (regs : List ℕ) (p : Prog) → (done_of_outcome (perform h a pc regs p) regs).prog ≡ p
unfolding perform
shares_nothing (Compute rd v) bare h pc regs p = refl
shares_nothing (Jump rd target) bare h pc regs p = leads_with (target % 4 == 0) target (with_reg regs rd (next pc)) regs p
shares_nothing (BranchTo true target) bare h pc regs p = leads_with (target % 4 == 0) target regs regs p
shares_nothing (BranchTo false target) bare h pc regs p = refl
shares_nothing Proceed bare h pc regs p = refl
shares_nothing (ReadMemory op rd at) bare h pc regs p = absurd bare
shares_nothing (WriteMemory len at v) bare h pc regs p = absurd bare
shares_nothing (LoadReserved width rd at) bare h pc regs p = absurd bare
shares_nothing (StoreConditional width rd at v) bare h pc regs p = absurd bare
shares_nothing (AtomicAccess op width rd at v) bare h pc regs p = absurd bare
shares_nothing SystemCall bare h pc regs p = absurd bare
shares_nothing (Halt cause) bare h pc regs p = absurd bare

pub alike : (n : ℕ) (i : Option Instr) → computes i ≡ true → RunsAlike n i
alike n None c = absurd cc
alike n (Some i) c =
    record {
      step = λ h ticks pc x p. does_as n (asked i pc x.regs) (asks_bare i c pc _ _) h ticks pc x p;
      prog = λ h pc regs p. shares_nothing (asked i pc regs) (asks_bare i c pc _ _) h pc regs p;
    }

-- ---- accesses

none_in_bank : (at : ℕ) → is_in_bank 0 at ≡ false
none_in_bank at = grind (arith, common_steps)

and_false : (b : Bool) → (b && false) ≡ false
and_false true = refl
and_false false = refl

refused : (n at : ℕ) (wide : Bool) → (n ≡ 0) ⊎ (wide ≡ false) → (wide && is_in_bank n at) ≡ false
refused n at wide h = ⊎_elim (λ e. ap (λ m. wide && is_in_bank m at) e ∙ (ap (λ b. wide && b) (none_in_bank at) ∙ and_false wide)) (λ e. ap (λ b. b && is_in_bank n at) e) h

pub load_refused : (n : ℕ) (op : LoadOp) (rd rs1 offset : ℕ) → (n ≡ 0) ⊎ ((load_len op == 8) ≡ false) → (ticks pc : ℕ) (x : Bench) → step_decoded n (Some (Load op rd rs1 offset)) ticks pc x ≡ Err (Access (wrap (reg x.regs rs1 + offset)))
unfolding action perform_on
load_refused n op rd rs1 offset h ticks pc x = cond-false _ _ _ (refused n (wrap (reg x.regs rs1 + offset)) (load_len op == 8) h)

pub store_refused : (n : ℕ) (op : StoreOp) (rs1 rs2 offset : ℕ) → (n ≡ 0) ⊎ ((store_len op == 8) ≡ false) → (ticks pc : ℕ) (x : Bench) → step_decoded n (Some (Store op rs1 rs2 offset)) ticks pc x ≡ Err (Access (wrap (reg x.regs rs1 + offset)))
unfolding action perform_on
store_refused n op rs1 rs2 offset h ticks pc x = cond-false _ _ _ (refused n (wrap (reg x.regs rs1 + offset)) (store_len op == 8) h)

pub low_address : (a : ℕ) → a < 2 ^ 64 → a ≡ wrap (a + 0)
low_address a h = grind arith

pub loads : (rd rs1 offset ticks pc : ℕ) (x : Bench) → step_decoded bank_len (Some (Load Ld rd rs1 offset)) ticks pc x ≡ bank_loaded rd (wrap (reg x.regs rs1 + offset)) ticks pc x
unfolding action perform_on
loads rd rs1 offset ticks pc x = refl

pub stores : (rs1 rs2 offset ticks pc : ℕ) (x : Bench) → step_decoded bank_len (Some (Store Sd rs1 rs2 offset)) ticks pc x ≡ bank_stored (reg x.regs rs2) (wrap (reg x.regs rs1 + offset)) pc x
unfolding action perform_on
stores rs1 rs2 offset ticks pc x = refl

-- ---- the flats of the tool's words

-- a flat that accesses no memory steps by what it does in the program
pub steps_alike : (f : Flat) (i : Option Instr) → is_access f ≡ false → IsFlatOf i f → RunsAlike bank_len i → StepsBy i f
steps_alike (flats.Ld rd rs1 imm) i none is r = absurd cc
steps_alike (flats.Sd rs1 rs2 imm) i none is r = absurd cc
steps_alike flats.Rest i none is r = (none, is, tt)
steps_alike f i none is r = (none, is, r)
