-- What the operations of slots leave.
use Rattle.std.proofs.Common.{◌≡◌, ℕ, ◌<◌, List, Option, Some, None, refl, sym, ap, ◌∙◌, subst, ⊎_elim, inl, inr}
use Rattle.std.specs.Prelude.{◌⊎◌, IfSome}
use Rattle.rv_word.specs.Exec.{Prog, Outcome, Stops, Goes, Done, done_of_outcome, exec_decoded, exec_of}
use Rattle.rv_word.specs.Table.{decode_of}
use Rattle.rv_word.specs.Words.{HasWord}
use Rattle.rv_word.specs.declared.instr.Instr.{Instr}
use Rattle.rv_word.specs.declared.outcome.Cause.{Cause}
use Rattle.rv_exec.specs.Flat.{IsFlatOf}
use Rattle.rv_exec.specs.Gives.{next_after}
use Rattle.rv_exec.specs.declared.flat.Flat.{Flat}
use Rattle.tramp_spec.specs.Banks.{bank_len}
use Rattle.tramp_spec.specs.Harts.{Solo}
use Rattle.tramp_spec.specs.declared.mark.Mark.{Mark}
use Rattle.tramp_spec.specs.declared.mark.Mark.TheVariants.{Own, Enter, Tool, Leave}
use Rattle.tramp_spec.specs.declared.mark.MarkedWord.{MarkedWord}
use Rattle.code_store.specs.Operations.{Does, IsOperationBy, IsOperationOf, done_as, stands_as}
use Rattle.code_store.specs.declared.operation.Operation.TheVariants.{Run, LoadBank, StoreBank, NoAccess}
use Rattle.machine.specs.Performing.{Performs, PerformsBy, PerformsOther, stood_after, bench_from, bench_in}

-- ---- the numbers of an operation fit

run_fits_by : (m : Mark) (i : Option Instr) (flat : Flat) (j : Option Instr) → IsOperationBy m i (Run flat j) → IsFlatOf i flat × (j ≡ i) × IfSome i HasWord
run_fits_by Own i flat j o = o
run_fits_by Enter i flat j o = (o.0, o.1, o.2)
run_fits_by Tool i flat j o = (o.0, o.1, o.2)
run_fits_by Leave i flat j o = (o.0, o.1, o.2)

pub run_fits : (w : MarkedWord) (flat : Flat) (j : Option Instr) → IsOperationOf w (Run flat j) → IsFlatOf j flat × IfSome j HasWord
run_fits w flat j o =
    let f = run_fits_by w.mark (decode_of w.word) flat j o in
    (subst (λ i. IsFlatOf i flat) (sym f.1) f.0, subst (λ i. IfSome i HasWord) (sym f.1) f.2)

load_fits_by : (m : Mark) (i : Option Instr) (rd rs1 offset : ℕ) → IsOperationBy m i (LoadBank rd rs1 offset) → (rd < 32) × (rs1 < 32)
load_fits_by Own i rd rs1 offset o = absurd o
load_fits_by Enter i rd rs1 offset o = (o.0, o.1)
load_fits_by Tool i rd rs1 offset o = (o.0, o.1)
load_fits_by Leave i rd rs1 offset o = (o.0, o.1)

pub load_fits : (w : MarkedWord) (rd rs1 offset : ℕ) → IsOperationOf w (LoadBank rd rs1 offset) → (rd < 32) × (rs1 < 32)
load_fits w rd rs1 offset o = load_fits_by w.mark (decode_of w.word) rd rs1 offset o

store_fits_by : (m : Mark) (i : Option Instr) (rs1 rs2 offset : ℕ) → IsOperationBy m i (StoreBank rs1 rs2 offset) → (rs1 < 32) × (rs2 < 32)
store_fits_by Own i rs1 rs2 offset o = absurd o
store_fits_by Enter i rs1 rs2 offset o = (o.0, o.1)
store_fits_by Tool i rs1 rs2 offset o = (o.0, o.1)
store_fits_by Leave i rs1 rs2 offset o = (o.0, o.1)

pub store_fits : (w : MarkedWord) (rs1 rs2 offset : ℕ) → IsOperationOf w (StoreBank rs1 rs2 offset) → (rs1 < 32) × (rs2 < 32)
store_fits w rs1 rs2 offset o = store_fits_by w.mark (decode_of w.word) rs1 rs2 offset o

access_fits_by : (m : Mark) (i : Option Instr) (rs1 offset : ℕ) → IsOperationBy m i (NoAccess rs1 offset) → rs1 < 32
access_fits_by Own i rs1 offset o = absurd o
access_fits_by Enter i rs1 offset o = o.0
access_fits_by Tool i rs1 offset o = o.0
access_fits_by Leave i rs1 offset o = o.0

pub access_fits : (w : MarkedWord) (rs1 offset : ℕ) → IsOperationOf w (NoAccess rs1 offset) → rs1 < 32
access_fits w rs1 offset o = access_fits_by w.mark (decode_of w.word) rs1 offset o

-- ---- a word that does what it does in the program

left_at_stop : (o : Outcome) (regs : List ℕ) (stop : Option Cause) (pc : ℕ) (new_regs : List ℕ) (new_p : Prog) → done_of_outcome o regs ≡ record { next = next_after stop pc; regs = new_regs; prog = new_p } → (stop ≡ None) ⊎ (new_regs ≡ regs)
left_at_stop (Stops cause q) regs stop pc new_regs new_p e = inr (sym (ap (λ (d : Done). d.regs) e))
left_at_stop (Goes at others q) regs None pc new_regs new_p e = inl refl
left_at_stop (Goes at others q) regs (Some cause) pc new_regs new_p e = let no = ap (λ (d : Done). d.next) e in absurd cc

stood_is : (stop : Option Cause) (pc : ℕ) (regs bank : List ℕ) → stands_as (next_after stop pc) regs bank ≡ stood_after stop pc (bench_from regs bank)
stood_is None pc regs bank = refl
stood_is (Some cause) pc regs bank = refl

runs_other : (n word : ℕ) (flat : Flat) (j : Option Instr) (h : ℕ) (x z : Solo) → Does n (decode_of word) (Run flat j) → z.hart.bank ≡ x.hart.bank
    → done_of_outcome (exec_of word x.hart.pc h x.hart.regs x.prog) x.hart.regs ≡ record { next = next_after z.hart.stop z.hart.pc; regs = z.hart.regs; prog = z.prog }
    → PerformsOther n word x z
runs_other n word flat j h x z o same e =
    record {
      step = o.3.step h x.hart.ticks x.hart.pc (bench_in x.hart) x.prog
          ∙ (ap (λ (d : Done). done_as d x.hart.bank) e ∙ (stood_is z.hart.stop z.hart.pc z.hart.regs x.hart.bank
          ∙ ap (λ b. stood_after z.hart.stop z.hart.pc (bench_from z.hart.regs b)) (sym same)));
      shares = sym (ap (λ (d : Done). d.prog) e) ∙ o.3.prog h x.hart.pc x.hart.regs x.prog;
      stays = ⊎_elim inl (λ regs. inr (regs, same)) (left_at_stop (exec_of word x.hart.pc h x.hart.regs x.prog) x.hart.regs z.hart.stop z.hart.pc z.hart.regs z.prog e);
    }

runs_by : (m : Mark) (word : ℕ) (flat : Flat) (j : Option Instr) (h : ℕ) (x z : Solo) → IsOperationBy m (decode_of word) (Run flat j) → z.hart.bank ≡ x.hart.bank
    → done_of_outcome (exec_of word x.hart.pc h x.hart.regs x.prog) x.hart.regs ≡ record { next = next_after z.hart.stop z.hart.pc; regs = z.hart.regs; prog = z.prog }
    → PerformsBy m word h x z
runs_by Own word flat j h x z o same e = record { does = e; keeps = same }
runs_by Enter word flat j h x z o same e = runs_other 0 word flat j h x z o same e
runs_by Tool word flat j h x z o same e = runs_other bank_len word flat j h x z o same e
runs_by Leave word flat j h x z o same e = runs_other 0 word flat j h x z o same e

pub runs : (w : MarkedWord) (flat : Flat) (j : Option Instr) (h : ℕ) (x z : Solo) → IsOperationOf w (Run flat j) → z.hart.bank ≡ x.hart.bank
    → done_of_outcome (exec_decoded j x.hart.pc h x.hart.regs x.prog) x.hart.regs ≡ record { next = next_after z.hart.stop z.hart.pc; regs = z.hart.regs; prog = z.prog }
    → Performs w h x z
runs w flat j h x z o same e =
    let i = (run_fits_by w.mark (decode_of w.word) flat j o).1 in
    runs_by w.mark w.word flat j h x z o same (ap (λ k. done_of_outcome (exec_decoded k x.hart.pc h x.hart.regs x.prog) x.hart.regs) (sym i) ∙ e)
