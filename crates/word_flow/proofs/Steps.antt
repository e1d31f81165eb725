-- What a turn does to its hart.
use Rattle.std.proofs.Common.{◌≡◌, ℕ, ◌+◌, ◌%◌, ◌^◌, List, Option, Some, None, Result, Ok, Err, refl, ap, sym, ◌∙◌, subst, Bool, true, false, cond, inl, inr}
use Rattle.std.specs.Prelude.{◌==◌, ◌||◌, is_some, min, ◌⊎◌}
use Rattle.rv_word.specs.Memory.{load, store, bytes_at}
use Rattle.rv_word.specs.Registers.{reg}
use Rattle.rv_word.specs.Names.{ends_block, jump_of, target_of}
use Rattle.rv_word.specs.Table.{decode_of}
use Rattle.rv_word.specs.Values.{is_branch_taken, load_len, atomic_len, left_by}
use Rattle.rv_word.specs.Exec.{Prog, Outcome, Stops, Goes, action, asked, or_stop, next, jump_to, conditional, atomic, perform, outcome_of_write, written_is, system_call, exec_instr, exec_decoded, done_of_outcome, without_reservation}
use Rattle.rv_word.specs.Plain.{Words, PlainHart, program_word, fetched, turn_alone, after_done}
use Rattle.rv_word.specs.declared.outcome.Cause.TheVariants.{Misaligned}
use Rattle.rv_word.specs.declared.outcome.MemStop.{MemStop}
use Rattle.rv_word.specs.declared.instr.AtomicWidth.{AtomicWidth}
use Rattle.rv_word.specs.declared.instr.Instr.{Instr}
use Rattle.rv_word.specs.declared.instr.Instr.TheVariants.{Lui, Auipc, Jal, Jalr, Branch, Load, Store, OpImm, ShiftImm, Addiw, ShiftImm32, Op, Op32, Fence, Ecall, Ebreak, Lr, Sc, Amo}
use Rattle.rv_word.specs.declared.action.Action.{Action}
use Rattle.rv_word.specs.declared.action.Action.TheVariants.{Compute, Jump, BranchTo, ReadMemory, WriteMemory, LoadReserved, StoreConditional, AtomicAccess, SystemCall, Proceed, Halt}
use Rattle.word_flow.specs.Transfers.{is_indirect_jump}

-- ---- words with which no block ends

-- the outcome is a stop, or leads to the next word
abbrev pub IsNext : ℕ → Outcome → Type 0
IsNext pc (Stops c p) = Unit {0}
IsNext pc (Goes q regs p) = q ≡ next pc

-- it is neither a jump nor a branch
abbrev is_straight : Action → Bool
is_straight (Jump rd target) = false
is_straight (BranchTo taken target) = false
is_straight a = true

asks_straight : (i : Instr) (pc : ℕ) (regs : List ℕ) → ends_block (Some i) ≡ false → is_straight (asked i pc regs) ≡ true
unfolding action
asks_straight (Lui rd imm) pc regs e = refl
asks_straight (Auipc rd imm) pc regs e = refl
asks_straight (Jal rd offset) pc regs e = absurd cc
asks_straight (Jalr rd rs1 offset) pc regs e = absurd cc
asks_straight (Branch op rs1 rs2 offset) pc regs e = absurd cc
asks_straight (Load op rd rs1 offset) pc regs e = refl
asks_straight (Store op rs1 rs2 offset) pc regs e = refl
asks_straight (OpImm op rd rs1 imm) pc regs e = refl
asks_straight (ShiftImm op rd rs1 by) pc regs e = refl
asks_straight (Addiw rd rs1 imm) pc regs e = refl
asks_straight (ShiftImm32 op rd rs1 by) pc regs e = refl
asks_straight (Op op rd rs1 rs2) pc regs e = refl
asks_straight (Op32 op rd rs1 rs2) pc regs e = refl
asks_straight (Fence rd rs1 high) pc regs e = refl
asks_straight Ecall pc regs e = refl
asks_straight Ebreak pc regs e = refl
asks_straight (Lr width rd rs1 order) pc regs e = refl
asks_straight (Sc width rd rs1 rs2 order) pc regs e = refl
asks_straight (Amo op width rd rs1 rs2 order) pc regs e = refl

module _ (pc : ℕ) where
  or_next : {A : Type 0} (r : Result A MemStop) (p : Prog) (f : A → Outcome) → ((x : A) → IsNext pc (f x)) → IsNext pc (or_stop r p f)
  or_next (Ok x) p f h = h x
  or_next (Err e) p f h = tt

  either : (t : Bool) (a b : Outcome) → IsNext pc a → IsNext pc b → IsNext pc (cond t a b)
  either true a b h k = h
  either false a b h k = k

  atomics : (width : AtomicWidth) (at : ℕ) (p : Prog) (f : ℕ → Outcome) → ((n : ℕ) → IsNext pc (f n)) → IsNext pc (atomic width at p f)
  atomics width at p f h = either (at % atomic_len width == 0) _ _ (or_next (load (atomic_len width) p.mem at) p f h) tt

  conditionals : (t : Bool) (h n rd at v : ℕ) (regs : List ℕ) (p : Prog) → IsNext pc (conditional t h n rd at v pc regs p)
  conditionals false h n rd at v regs p = refl
  conditionals true h n rd at v regs p = or_next (store n p.mem at v) p _ (λ m. refl)

  writes : (r : Result ℕ ℕ) (out : List ℕ) (regs : List ℕ) (p : Prog) → IsNext pc (outcome_of_write (r, out) pc regs p)
  writes (Ok answer) out regs p = refl
  writes (Err e) out regs p = tt

  calls : (regs : List ℕ) (p : Prog) → IsNext pc (system_call pc regs p)
  calls regs p =
      either ((reg regs 17 == 93) || (reg regs 17 == 94)) _ _ tt
      (either (reg regs 17 == 64) _ _
      (either ((reg regs 10 == 1) || (reg regs 10 == 2)) _ _
      (let r = written_is (bytes_at (min (reg regs 12) 4096) p.mem (reg regs 11)) p.out in writes r.0 r.1 regs p) refl) refl)

  performs : (h : ℕ) (x : Action) (regs : List ℕ) (p : Prog) → is_straight x ≡ true → IsNext pc (perform h x pc regs p)
  unfolding perform
  performs h (Compute rd v) regs p e = refl
  performs h (Jump rd target) regs p e = absurd cc
  performs h (BranchTo taken target) regs p e = absurd cc
  performs h (ReadMemory op rd at) regs p e = or_next (load (load_len op) p.mem at) p _ (λ n. refl)
  performs h (WriteMemory len at v) regs p e = or_next (store len p.mem at v) p _ (λ m. refl)
  performs h (LoadReserved width rd at) regs p e = atomics width at p _ (λ n. refl)
  performs h (StoreConditional width rd at v) regs p e =
      atomics width at (without_reservation h p) _ (λ n. conditionals _ h (atomic_len width) rd at v regs (without_reservation h p))
  performs h (AtomicAccess op width rd at v) regs p e =
      atomics width at p _ (λ n. or_next (store (atomic_len width) p.mem at (left_by op width n v)) p _ (λ m. refl))
  performs h SystemCall regs p e = calls regs p
  performs h Proceed regs p e = refl
  performs h (Halt c) regs p e = tt

  execs : (o : Option Instr) (h : ℕ) (regs : List ℕ) (p : Prog) → ends_block o ≡ false → IsNext pc (exec_decoded o pc h regs p)
  execs None h regs p e = tt
  execs (Some i) h regs p e = performs h (asked i pc regs) regs p (asks_straight i pc regs e)

-- ---- jumps and branches

-- the outcome is a stop, or leads to a target or to the next word
abbrev pub IsTargetOrNext : Option ℕ → ℕ → Outcome → Type 0
IsTargetOrNext target pc (Stops c p) = Unit {0}
IsTargetOrNext target pc (Goes q regs p) = (target ≡ Some q) ⊎ (q ≡ next pc)

jump_leads : (target pc : ℕ) (regs : List ℕ) (p : Prog) → IsTargetOrNext (Some target) pc (jump_to target regs p)
jump_leads target pc regs p = by (target % 4 == 0)
  where
    by : (b : Bool) → IsTargetOrNext (Some target) pc (cond b (Goes target regs p) (Stops Misaligned p))
    by true = inl refl
    by false = tt

branch_leads : (t : Bool) (target pc : ℕ) (regs : List ℕ) (p : Prog)
    → IsTargetOrNext (Some target) pc (cond t (jump_to target regs p) (Goes (next pc) regs p))
branch_leads true target pc regs p = jump_leads target pc regs p
branch_leads false target pc regs p = inr refl

instr_leads : (i : Instr) (pc h : ℕ) (regs : List ℕ) (p : Prog)
    → is_indirect_jump (Some i) ≡ false → ends_block (Some i) ≡ true → IsTargetOrNext (target_of i pc) pc (exec_instr i pc h regs p)
unfolding perform action
instr_leads (Jal rd offset) pc h regs p e f = jump_leads _ pc _ p
instr_leads (Branch op rs1 rs2 offset) pc h regs p e f =
    branch_leads (is_branch_taken op (reg regs rs1) (reg regs rs2)) ((pc + offset) % 2 ^ 64) pc regs p
instr_leads (Jalr rd rs1 offset) pc h regs p e f = absurd cc
instr_leads (Lui rd imm) pc h regs p e f = absurd cc
instr_leads (Auipc rd imm) pc h regs p e f = absurd cc
instr_leads (Load op rd rs1 offset) pc h regs p e f = absurd cc
instr_leads (Store op rs1 rs2 offset) pc h regs p e f = absurd cc
instr_leads (OpImm op rd rs1 imm) pc h regs p e f = absurd cc
instr_leads (ShiftImm op rd rs1 by) pc h regs p e f = absurd cc
instr_leads (Addiw rd rs1 imm) pc h regs p e f = absurd cc
instr_leads (ShiftImm32 op rd rs1 by) pc h regs p e f = absurd cc
instr_leads (Op op rd rs1 rs2) pc h regs p e f = absurd cc
instr_leads (Op32 op rd rs1 rs2) pc h regs p e f = absurd cc
instr_leads (Fence rd rs1 high) pc h regs p e f = absurd cc
instr_leads Ecall pc h regs p e f = absurd cc
instr_leads Ebreak pc h regs p e f = absurd cc
instr_leads (Lr width rd rs1 order) pc h regs p e f = absurd cc
instr_leads (Sc width rd rs1 rs2 order) pc h regs p e f = absurd cc
instr_leads (Amo op width rd rs1 rs2 order) pc h regs p e f = absurd cc

word_leads : (o : Option Instr) (pc h : ℕ) (regs : List ℕ) (p : Prog)
    → is_indirect_jump o ≡ false → ends_block o ≡ true → IsTargetOrNext (jump_of o pc) pc (exec_decoded o pc h regs p)
word_leads None pc h regs p e f = tt
word_leads (Some i) pc h regs p e f = instr_leads i pc h regs p e f

-- ---- turns

-- what a turn makes of a hart x that isn't stopped: it is y then
pub record IsTurn (t : Words) (x y : PlainHart) : Type 0 where
  pub ticks : y.ticks ≡ x.ticks + 1
  pub stays : is_some y.stop ≡ true → y.pc ≡ x.pc
  pub halts : (program_word t x.pc ≡ None) → is_some y.stop ≡ true
  pub fails : (w : ℕ) → program_word t x.pc ≡ Some w → decode_of w ≡ None → is_some y.stop ≡ true
  pub jumps : (w : ℕ) → program_word t x.pc ≡ Some w → is_indirect_jump (decode_of w) ≡ false → ends_block (decode_of w) ≡ true
      → is_some y.stop ≡ false → (jump_of (decode_of w) x.pc ≡ Some y.pc) ⊎ (y.pc ≡ next x.pc)
  pub goes : (w : ℕ) → program_word t x.pc ≡ Some w → ends_block (decode_of w) ≡ false → is_some y.stop ≡ false → y.pc ≡ next x.pc

-- the hart after a turn with this outcome
abbrev hart_then : Outcome → PlainHart → PlainHart
hart_then o x = (after_done (done_of_outcome o x.regs) x).hart

stays_by : (o : Outcome) (x : PlainHart) → x.stop ≡ None → is_some (hart_then o x).stop ≡ true → (hart_then o x).pc ≡ x.pc
stays_by (Stops c p) x e s = refl
stays_by (Goes pc regs p) x e s = let never : false ≡ true = sym (ap is_some e) ∙ s in absurd cc

goes_by : (o : Outcome) (x : PlainHart) → IsNext x.pc o → is_some (hart_then o x).stop ≡ false → (hart_then o x).pc ≡ next x.pc
goes_by (Stops c p) x n s = absurd cc
goes_by (Goes pc regs p) x n s = n

jumps_by : (o : Outcome) (target : Option ℕ) (x : PlainHart) → IsTargetOrNext target x.pc o → is_some (hart_then o x).stop ≡ false
    → (target ≡ Some (hart_then o x).pc) ⊎ ((hart_then o x).pc ≡ next x.pc)
jumps_by (Stops c p) target x n s = absurd cc
jumps_by (Goes pc regs p) target x n s = n

ticks_by : (o : Outcome) (x : PlainHart) → (hart_then o x).ticks ≡ x.ticks + 1
ticks_by (Stops c p) x = refl
ticks_by (Goes pc regs p) x = refl

pub is_turn : (t : Words) (h : ℕ) (x : PlainHart) (p : Prog)
    → x.stop ≡ None → IsTurn t x (turn_alone t h (record { hart = x; prog = p })).hart
is_turn t h x p e =
    let o = fetched (program_word t x.pc) h x p in
    record {
      ticks = ticks_by o x;
      stays = stays_by o x e;
      halts = λ is. ap (λ f. is_some (hart_then (fetched f h x p) x).stop) is;
      fails = λ w is none.
          ap (λ f. is_some (hart_then (fetched f h x p) x).stop) is
          ∙ ap (λ d. is_some (hart_then (exec_decoded d x.pc h x.regs p) x).stop) none;
      jumps = λ w is direct ends.
          jumps_by o (jump_of (decode_of w) x.pc) x
          (subst (λ f. IsTargetOrNext (jump_of (decode_of w) x.pc) x.pc (fetched f h x p)) (sym is)
          (word_leads (decode_of w) x.pc h x.regs p direct ends));
      goes = λ w is straight.
          goes_by o x (subst (λ f. IsNext x.pc (fetched f h x p)) (sym is) (execs x.pc (decode_of w) h x.regs p straight));
    }
