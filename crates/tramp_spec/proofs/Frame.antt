-- A word that doesn't name x31 does the same with registers that agree below it.
use Rattle.std.proofs.Common.{◌≡◌, ℕ, ◌%◌, List, Option, Some, None, Result, Ok, Err, refl, ap, sym, ◌∙◌, subst, arith, Bool, true, false, cond}
use Rattle.std.specs.Prelude.{◌==◌, ◌||◌, min}
use Rattle.std.specs.Option.{option_map_or}
use Rattle.std.proofs.lemmas.Bool.{eqb-false}
use Rattle.rv_word.specs.Memory.{load, store, bytes_at}
use Rattle.rv_word.specs.Registers.{reg, with_reg}
use Rattle.rv_word.specs.InstrRegisters.{registers_of}
use Rattle.rv_word.specs.Names.{is_register, names, has_scratch}
use Rattle.rv_word.specs.Table.{decode_of}
use Rattle.rv_word.specs.Values.{load_len, loaded, atomic_len, left_by, answered}
use Rattle.rv_word.specs.Exec.{Prog, Outcome, Stops, Goes, operand, action, asked, or_stop, next, jump_to, without_reservation, conditional, atomic, perform, outcome_of_write, written_is, system_call, exec_instr, exec_decoded, exec_of, answers, minus}
use Rattle.rv_word.specs.declared.outcome.MemStop.{MemStop}
use Rattle.rv_word.specs.declared.outcome.Cause.TheVariants.{Exit, Misaligned}
use Rattle.rv_word.specs.declared.instr.AtomicWidth.{AtomicWidth}
use Rattle.rv_word.specs.declared.instr.Instr.{Instr}
use Rattle.rv_word.specs.declared.action.Action.{Action}
use Rattle.rv_word.specs.declared.action.Action.TheVariants.{Compute, Jump, BranchTo, ReadMemory, WriteMemory, LoadReserved, StoreConditional, AtomicAccess, SystemCall, Proceed, Halt}
use Rattle.tramp_spec.specs.Moves.{Alike}
use Rattle.tramp_spec.proofs.Registers.{length_with, agree_with, agree_but}

pub alike_with : (a b : List ℕ) (r v : ℕ) → Alike a b → Alike (with_reg a r v) (with_reg b r v)
alike_with a b r v h = record { agree = agree_with a b r v (h.first ∙ sym h.second) h.agree; first = length_with a r v ∙ h.first; second = length_with b r v ∙ h.second }

abbrev pub SameOutcome : (ℕ → ℕ → Type 0) → Outcome → Outcome → Type 0
SameOutcome R (Stops c p) (Stops d q) = (c ≡ d) × (p ≡ q)
SameOutcome R (Stops c p) (Goes qc b q) = ⊥
SameOutcome R (Goes pc a p) (Stops d q) = ⊥
SameOutcome R (Goes pc a p) (Goes qc b q) = R pc qc × Alike a b × (p ≡ q)

abbrev pub Same : Outcome → Outcome → Type 0
Same = SameOutcome (λ s t. s ≡ t)

-- an action that leads to the next word
abbrev pub is_straight : Action → Bool
is_straight (Compute rd v) = true
is_straight (Jump rd target) = false
is_straight (BranchTo taken target) = false
is_straight (ReadMemory op rd at) = true
is_straight (WriteMemory len at v) = true
is_straight (LoadReserved width rd at) = true
is_straight (StoreConditional width rd at v) = true
is_straight (AtomicAccess op width rd at v) = true
is_straight SystemCall = true
is_straight Proceed = true
is_straight (Halt cause) = true

-- at two pcs, of which the next are related
module _ (R : ℕ → ℕ → Type 0) (pc qc : ℕ) (n : R (next pc) (next qc)) where
  goes_with : (rd v : ℕ) (a b : List ℕ) (p : Prog) → Alike a b → SameOutcome R (Goes (next pc) (with_reg a rd v) p) (Goes (next qc) (with_reg b rd v) p)
  goes_with rd v a b p h = (n, alike_with a b rd v h, refl)

  or_stops : {A : Type 0} (r : Result A MemStop) (p : Prog) (f g : A → Outcome) → ((x : A) → SameOutcome R (f x) (g x)) → SameOutcome R (or_stop r p f) (or_stop r p g)
  or_stops (Ok x) p f g h = h x
  or_stops (Err e) p f g h = (refl, refl)

  either : (t : Bool) (a b c d : Outcome) → SameOutcome R a c → SameOutcome R b d → SameOutcome R (cond t a b) (cond t c d)
  either true a b c d h k = h
  either false a b c d h k = k

  atomics : (width : AtomicWidth) (at : ℕ) (p : Prog) (f g : ℕ → Outcome) → ((n : ℕ) → SameOutcome R (f n) (g n)) → SameOutcome R (atomic width at p f) (atomic width at p g)
  atomics width at p f g h = either (at % atomic_len width == 0) _ _ _ _ (or_stops (load (atomic_len width) p.mem at) p f g h) (refl, refl)

  conditionals : (t : Bool) (h n rd at v : ℕ) (a b : List ℕ) (p : Prog) → Alike a b → SameOutcome R (conditional t h n rd at v pc a p) (conditional t h n rd at v qc b p)
  conditionals false h n rd at v a b p s = goes_with rd 1 a b _ s
  conditionals true h n rd at v a b p s = or_stops (store n p.mem at v) p _ _ (λ m. goes_with rd 0 a b _ s)

  writes : (r : Result ℕ ℕ) (out : List ℕ) (a b : List ℕ) (p : Prog) → Alike a b → SameOutcome R (outcome_of_write (r, out) pc a p) (outcome_of_write (r, out) qc b p)
  writes (Ok answer) out a b p s = goes_with 10 answer a b _ s
  writes (Err e) out a b p s = (refl, refl)

  -- a call by its number, and by what it reads of the registers
  abbrev call_by : (n fd from len at : ℕ) → List ℕ → Prog → Outcome
  call_by n fd from len at regs p =
      cond ((n == 93) || (n == 94)) (Stops (Exit (fd % 256)) p)
      (cond (n == 64)
      (cond ((fd == 1) || (fd == 2)) (outcome_of_write (written_is (bytes_at (min len 4096) p.mem from) p.out) at regs p) (answers (minus 9) at regs p))
      (answers (minus 38) at regs p))

  calls_by : (n fd from len : ℕ) (a b : List ℕ) (p : Prog) → Alike a b → SameOutcome R (call_by n fd from len pc a p) (call_by n fd from len qc b p)
  calls_by n fd from len a b p s =
      either ((n == 93) || (n == 94)) _ _ _ _ (refl, refl)
      (either (n == 64) _ _ _ _
      (either ((fd == 1) || (fd == 2)) _ _ _ _ (writes (written_is (bytes_at (min len 4096) p.mem from) p.out).0 (written_is (bytes_at (min len 4096) p.mem from) p.out).1 a b p s) (goes_with 10 (minus 9) a b _ s))
      (goes_with 10 (minus 38) a b _ s))

  calls : (a b : List ℕ) (p : Prog) → Alike a b → SameOutcome R (system_call pc a p) (system_call qc b p)
  calls a b p s =
      let number = s.agree 17 (omega arith) in
      let fd = s.agree 10 (omega arith) in
      let from = s.agree 11 (omega arith) in
      let len = s.agree 12 (omega arith) in
      subst (λ n. SameOutcome R (call_by n (reg a 10) (reg a 11) (reg a 12) pc a p) (call_by (reg b 17) (reg b 10) (reg b 11) (reg b 12) qc b p)) (sym number)
      (subst (λ n. SameOutcome R (call_by (reg b 17) n (reg a 11) (reg a 12) pc a p) (call_by (reg b 17) (reg b 10) (reg b 11) (reg b 12) qc b p)) (sym fd)
      (subst (λ n. SameOutcome R (call_by (reg b 17) (reg b 10) n (reg a 12) pc a p) (call_by (reg b 17) (reg b 10) (reg b 11) (reg b 12) qc b p)) (sym from)
      (subst (λ n. SameOutcome R (call_by (reg b 17) (reg b 10) (reg b 11) n pc a p) (call_by (reg b 17) (reg b 10) (reg b 11) (reg b 12) qc b p)) (sym len)
      (calls_by (reg b 17) (reg b 10) (reg b 11) (reg b 12) a b p s))))

  pub straight : (h : ℕ) (x : Action) (a b : List ℕ) (p : Prog) → is_straight x ≡ true → Alike a b → SameOutcome R (perform h x pc a p) (perform h x qc b p)
  unfolding perform
  straight h (Compute rd v) a b p e s = goes_with rd v a b p s
  straight h (Jump rd target) a b p e s = absurd cc
  straight h (BranchTo taken target) a b p e s = absurd cc
  straight h (ReadMemory op rd at) a b p e s = or_stops (load (load_len op) p.mem at) p _ _ (λ n. goes_with rd (loaded op n) a b p s)
  straight h (WriteMemory len at v) a b p e s = or_stops (store len p.mem at v) p _ _ (λ m. (n, s, refl))
  straight h (LoadReserved width rd at) a b p e s = atomics width at p _ _ (λ n. goes_with rd (answered width n) a b _ s)
  straight h (StoreConditional width rd at v) a b p e s = atomics width at (without_reservation h p) _ _ (λ n. conditionals _ h (atomic_len width) rd at v a b (without_reservation h p) s)
  straight h (AtomicAccess op width rd at v) a b p e s =
      atomics width at p _ _ (λ n. or_stops (store (atomic_len width) p.mem at (left_by op width n v)) p _ _ (λ m. goes_with rd (answered width n) a b _ s))
  straight h SystemCall a b p e s = calls a b p s
  straight h Proceed a b p e s = (n, s, refl)
  straight h (Halt c) a b p e s = (refl, refl)

jumps_to : (t : ℕ) (x y : List ℕ) (p : Prog) → Alike x y → Same (jump_to t x p) (jump_to t y p)
jumps_to t x y p h = either (λ s t. s ≡ t) 0 0 refl (t % 4 == 0) (Goes t x p) (Stops Misaligned p) (Goes t y p) (Stops Misaligned p) (refl, h, refl) (refl, refl)

pub performs : (h : ℕ) (x : Action) (pc : ℕ) (a b : List ℕ) (p : Prog) → Alike a b → Same (perform h x pc a p) (perform h x pc b p)
unfolding perform
performs h x pc a b p s = by (is_straight x) refl
  where
    turned : (x : Action) → is_straight x ≡ false → Same (perform h x pc a p) (perform h x pc b p)
    turned (Jump rd target) e = jumps_to target _ _ p (alike_with a b rd (next pc) s)
    turned (BranchTo taken target) e = either (λ s t. s ≡ t) 0 0 refl taken _ _ _ _ (jumps_to target a b p s) (refl, s, refl)
    turned (Compute rd v) e = absurd cc
    turned (ReadMemory op rd at) e = absurd cc
    turned (WriteMemory len at v) e = absurd cc
    turned (LoadReserved width rd at) e = absurd cc
    turned (StoreConditional width rd at v) e = absurd cc
    turned (AtomicAccess op width rd at v) e = absurd cc
    turned SystemCall e = absurd cc
    turned Proceed e = absurd cc
    turned (Halt c) e = absurd cc

    by : (t : Bool) → is_straight x ≡ t → Same (perform h x pc a p) (perform h x pc b p)
    by true e = straight (λ s t. s ≡ t) pc pc refl h x a b p e s
    by false e = turned x e

-- operands that aren't x31
same_operand : (o : Option ℕ) (a b : List ℕ) → is_register o 31 ≡ false → Alike a b → operand a o ≡ operand b o
same_operand None a b n s = refl
same_operand (Some r) a b n s = agree_but a b r s.first s.second s.agree (eqb-false r 31 n)

neither : (x y z : Bool) → (x || (y || z)) ≡ false → (y ≡ false) × (z ≡ false)
neither x y z e = (grind arith, grind arith)

pub asks_same : (i : Instr) (pc : ℕ) (a b : List ℕ) → names 31 i ≡ false → Alike a b → asked i pc a ≡ asked i pc b
asks_same i pc a b n s =
    let r = registers_of i in
    let others = neither (is_register r.rd 31) (is_register r.rs1 31) (is_register r.rs2 31) n in
    ap (λ x. action i pc x (operand a r.rs2)) (same_operand r.rs1 a b others.0 s) ∙ ap (λ y. action i pc (operand b r.rs1) y) (same_operand r.rs2 a b others.1 s)

pub execs_instr : (i : Instr) (pc h : ℕ) (a b : List ℕ) (p : Prog) → names 31 i ≡ false → Alike a b → Same (exec_instr i pc h a p) (exec_instr i pc h b p)
execs_instr i pc h a b p n s =
    subst (λ x. Same (perform h x pc a p) (perform h (asked i pc b) pc b p)) (sym (asks_same i pc a b n s)) (performs h (asked i pc b) pc a b p s)

execs_decoded : (o : Option Instr) (pc h : ℕ) (a b : List ℕ) (p : Prog) → option_map_or (names 31) o false ≡ false → Alike a b → Same (exec_decoded o pc h a p) (exec_decoded o pc h b p)
execs_decoded None pc h a b p n s = (refl, refl)
execs_decoded (Some i) pc h a b p n s = execs_instr i pc h a b p n s

pub execs : (w pc h : ℕ) (a b : List ℕ) (p : Prog) → has_scratch w ≡ false → Alike a b → Same (exec_of w pc h a p) (exec_of w pc h b p)
execs w pc h a b p n s = execs_decoded (decode_of w) pc h a b p n s
