-- What jumps lead to, registers that are written twice, and what words read as.
use Rattle.std.proofs.Common.{◌≡◌, ℕ, ◌+◌, ◌%◌, ◌^◌, ◌<◌, List, length, Some, None, refl, ap, sym, ◌∙◌, subst, arith, ⊎_elim}
use Rattle.std.specs.Prelude.{◌==◌, nat_lt, Bool, true, false, cond}
use Rattle.std.proofs.lemmas.Bool.{cond-true, cases_Bool, cases_eq, eqb-true, lt-ltb, eq-eqb}
use Rattle.std.proofs.lemmas.Grind.{common_steps}
use Rattle.rv_word.specs.Fields.{i_imm_of, rd_of, rs1_of, funct3_of, opcode_of}
use Rattle.rv_word.specs.Registers.{reg, with_reg}
use Rattle.rv_word.specs.Table.{decode_of, read_by, row, opcodes, jalr_of}
use Rattle.rv_word.specs.Words.{word_of, IsExtended}
use Rattle.rv_word.specs.Values.{wrap}
use Rattle.rv_word.specs.Exec.{Prog, Outcome, Stops, Goes, action, next, jump_to, perform, exec_decoded, exec_of}
use Rattle.rv_word.specs.declared.instr.BranchOp.{BranchOp}
use Rattle.rv_word.specs.declared.instr.Instr.TheVariants.{Auipc, Jal, Jalr, Branch}
use Rattle.tramp_spec.specs.Moves.{Agree, LeadsHome, SameStep}
use Rattle.tramp_spec.specs.declared.mark.MarkedWord.{MarkedWord}
use Rattle.tramp_spec.proofs.Frame.{SameOutcome}
use Rattle.tramp_spec.proofs.Hops.{Hops}
use Rattle.tramp_spec.proofs.Registers.{length_with, read_back, read_but, with_zero}

pub to_step : (jumped : Bool) (place to : ℕ) (moved : List MarkedWord) (a b : Outcome) → SameOutcome (LeadsHome jumped place to moved) a b → SameStep jumped place to moved a b
to_step jumped place to moved (Stops c p) (Stops d q) s = s
to_step jumped place to moved (Stops c p) (Goes home others q) s = s
to_step jumped place to moved (Goes pc regs p) (Stops d q) s = s
to_step jumped place to moved (Goes pc regs p) (Goes home others q) s = (s.2, s.1, s.0)

pub jump_lands : (t : ℕ) (regs : List ℕ) (p : Prog) → t % 4 ≡ 0 → jump_to t regs p ≡ Goes t regs p
jump_lands t regs p a = cond-true (t % 4 == 0) _ _ (eq-eqb (t % 4) 0 a)

-- the tool's jump
pub hop_execs : (w at t h : ℕ) (regs : List ℕ) (p : Prog) → Hops at t w → t % 4 ≡ 0 → exec_of w at h regs p ≡ Goes t regs p
unfolding action perform
hop_execs w at t h regs p k a =
    ap (λ o. exec_decoded o at h regs p) k.is
    ∙ (ap (λ n. jump_to n (with_reg regs 0 (next at)) p) k.leads ∙ (jump_lands t (with_reg regs 0 (next at)) p a ∙ ap (λ rs. Goes t rs p) (with_zero regs (next at))))

-- the program's
pub jal_execs : (rd offset at h : ℕ) (regs : List ℕ) (p : Prog) → wrap (at + offset) % 4 ≡ 0 → exec_decoded (Some (Jal rd offset)) at h regs p ≡ Goes (wrap (at + offset)) (with_reg regs rd (next at)) p
unfolding action perform
jal_execs rd offset at h regs p a = jump_lands (wrap (at + offset)) (with_reg regs rd (next at)) p a

-- a register that is written twice
pub rewritten : (a b : List ℕ) (r u x v : ℕ) → length a ≡ 32 → length b ≡ 32 → Agree a b → ((r == 0) ≡ false → x ≡ v) → Agree (with_reg (with_reg a r u) r x) (with_reg b r v)
rewritten a b r u x v la lb h e q l = ⊎_elim zeros nonzero (cases_Bool (r == 0))
  where
    zeros : (r == 0) ≡ true → reg (with_reg (with_reg a r u) r x) q ≡ reg (with_reg b r v) q
    zeros z =
        let k : r ≡ 0 = eqb-true r 0 z in
        subst (λ i. reg (with_reg (with_reg a i u) i x) q ≡ reg (with_reg b i v) q) (sym k)
        (ap (λ c. reg c q) (with_zero (with_reg a 0 u) x) ∙ (ap (λ c. reg c q) (with_zero a u) ∙ (h q l ∙ ap (λ c. reg c q) (sym (with_zero b v)))))

    same : (r == 0) ≡ false → q ≡ r → reg (with_reg (with_reg a r u) r x) q ≡ reg (with_reg b r v) q
    same z i =
        let size : length (with_reg a r u) ≡ 32 = length_with a r u ∙ la in
        let low : nat_lt r (length (with_reg a r u)) ≡ true = lt-ltb r _ (omega arith) in
        let low' : nat_lt r (length b) ≡ true = lt-ltb r _ (omega arith) in
        ap (λ k. reg (with_reg (with_reg a r u) r x) k) i
        ∙ (read_back (with_reg a r u) r x z low ∙ (e z ∙ (sym (read_back b r v z low') ∙ ap (λ k. reg (with_reg b r v) k) (sym i))))

    other : (q ≡ r → ⊥) → reg (with_reg (with_reg a r u) r x) q ≡ reg (with_reg b r v) q
    other n = read_but (with_reg a r u) r q x n ∙ (read_but a r q u n ∙ (h q l ∙ sym (read_but b r q v n)))

    nonzero : (r == 0) ≡ false → reg (with_reg (with_reg a r u) r x) q ≡ reg (with_reg b r v) q
    nonzero z = ⊎_elim (same z) other (cases_eq q r)

pub movable : (b : Bool) (words moved : List MarkedWord) → cond b (Some words) None ≡ Some moved → (b ≡ true) × (words ≡ moved)
movable true words moved e = (refl, cc e)
movable false words moved e = absurd cc

-- registers of words
pub auipc_low : (w rd imm : ℕ) → decode_of w ≡ Some (Auipc rd imm) → rd < 32
unfolding decode_of
auipc_low w rd imm e = grind (arith, common_steps)

pub jal_low : (w rd offset : ℕ) → decode_of w ≡ Some (Jal rd offset) → rd < 32
unfolding decode_of
jal_low w rd offset e = grind (arith, common_steps)

pub jalr_parts : (w rd rs1 offset : ℕ) → decode_of w ≡ Some (Jalr rd rs1 offset) → (rd < 32) × (rs1 < 32)
unfolding decode_of
jalr_parts w rd rs1 offset e = (grind (arith, common_steps), grind (arith, common_steps))

-- what a word reads as, at its opcode alone
pub jalr_opcode : (w rd rs1 offset : ℕ) → decode_of w ≡ Some (Jalr rd rs1 offset) → opcode_of w ≡ 0x67
unfolding decode_of
jalr_opcode w rd rs1 offset e = grind (arith, common_steps)

pub jalr_at : (w code rd rs1 offset : ℕ) → code ≡ 0x67 → read_by (row code opcodes) w ≡ Some (Jalr rd rs1 offset) → offset ≡ i_imm_of w
jalr_at w code rd rs1 offset c e =
    let f : jalr_of w ≡ Some (Jalr rd rs1 offset) = subst (λ n. read_by (row n opcodes) w ≡ Some (Jalr rd rs1 offset)) c e in
    by (funct3_of w == 0) f
  where
    by : (b : Bool) → cond b (Some (Jalr (rd_of w) (rs1_of w) (i_imm_of w))) None ≡ Some (Jalr rd rs1 offset) → offset ≡ i_imm_of w
    by true f = sym (cc f)
    by false f = absurd cc

pub jalr_is : (w rd rs1 offset : ℕ) → decode_of w ≡ Some (Jalr rd rs1 offset) → offset ≡ i_imm_of w
unfolding decode_of
jalr_is w rd rs1 offset e = jalr_at w (opcode_of w) rd rs1 offset (jalr_opcode w rd rs1 offset e) e

pub jalr_offset : (w : ℕ) → w < 2 ^ 32 → IsExtended 12 (i_imm_of w)
jalr_offset w l = grind (arith, common_steps)

pub branch_low : (w : ℕ) (op : BranchOp) (rs1 rs2 offset : ℕ) → decode_of w ≡ Some (Branch op rs1 rs2 offset) → (rs1 < 32) × (rs2 < 32)
unfolding decode_of
branch_low w op rs1 rs2 offset e = (grind (arith, common_steps), grind (arith, common_steps))

pub branch_reads : (op : BranchOp) (rs1 rs2 : ℕ) → rs1 < 32 → rs2 < 32 → decode_of (word_of (Branch op rs1 rs2 8)) ≡ Some (Branch op rs1 rs2 8)
unfolding decode_of
branch_reads op rs1 rs2 l m = grind (arith, common_steps)

pub jalr_reads : decode_of (word_of (Jalr 0 31 0)) ≡ Some (Jalr 0 31 0)
unfolding decode_of
jalr_reads = refl
