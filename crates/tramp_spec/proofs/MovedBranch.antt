-- The moved words of branches.
use Rattle.std.proofs.Common.{◌≡◌, ◌≢◌, ℕ, zero, suc, ◌+◌, ◌*◌, ◌%◌, ◌<◌, ◌≤◌, List, Option, Some, refl, ap, sym, ◌∙◌, subst, arith, inr}
use Rattle.std.specs.Prelude.{Bool, true, false, cond}
use Rattle.std.proofs.lemmas.Grind.{common_steps}
use Rattle.rv_word.specs.Registers.{reg}
use Rattle.rv_word.specs.Names.{names}
use Rattle.rv_word.specs.Table.{decode_of}
use Rattle.rv_word.specs.Words.{word_of}
use Rattle.rv_word.specs.Values.{wrap, is_branch_taken}
use Rattle.rv_word.specs.Exec.{Prog, Outcome, Goes, action, next, jump_to, perform, exec_decoded, exec_of}
use Rattle.rv_word.specs.declared.instr.BranchOp.{BranchOp}
use Rattle.rv_word.specs.declared.instr.Instr.TheVariants.{Branch}
use Rattle.tramp_spec.specs.Jumps.{jump_word}
use Rattle.tramp_spec.specs.Marks.{jumps}
use Rattle.tramp_spec.specs.MovedWords.{moved_branch, is_target}
use Rattle.tramp_spec.specs.Moves.{Alike, SameStep, MovesBy}
use Rattle.tramp_spec.specs.declared.mark.MarkedWord.{MarkedWord}
use Rattle.tramp_spec.proofs.Hops.{Hops, target_is}
use Rattle.tramp_spec.proofs.Registers.{agree_but}
use Rattle.tramp_spec.proofs.Outcomes.{jump_lands, branch_low, branch_reads}
use Rattle.tramp_spec.proofs.MovedPlaces.{next_point, Leaves, leaves_by, back, target}

module _ (point to : ℕ) (pa : point % 4 ≡ 0) (ta : to % 4 ≡ 0) (lo : point < 0x60000000) (be : point < to) (near : to ≤ point + 1048000) where
  module _ (word : ℕ) (op : BranchOp) (rs1 rs2 offset : ℕ) (e : decode_of word ≡ Some (Branch op rs1 rs2 offset)) (n : names 31 (Branch op rs1 rs2 offset) ≡ false)
      (i : is_target (to + 8) (wrap (point + offset)) ≡ true) where
    abbrev goal_of : ℕ
    goal_of = wrap (point + offset)

    abbrev branch_words : List MarkedWord
    branch_words = moved_branch op rs1 rs2 (wrap (point + offset)) (point + 4) (to + 4) (to + 8)

    to_target : Hops (to + 4 * 2) (wrap (point + offset)) (jump_word (to + 8) (wrap (point + offset))) × (wrap (point + offset) % 4 ≡ 0)
    to_target = target point to pa ta lo be near 2 (wrap (point + offset)) (omega arith) i

    branch_leaves : (j : ℕ) → 0 < j → j < 3 → Leaves to j branch_words
    branch_leaves zero l m = absurd (omega arith)
    branch_leaves (suc zero) l m = leaves_by to 1 (jump_word (to + 4) (point + 4)) (point + 4) branch_words refl (back point to pa ta lo be near 1 (omega arith)) (omega arith)
    branch_leaves (suc (suc zero)) l m = leaves_by to 2 (jump_word (to + 8) (wrap (point + offset))) (wrap (point + offset)) branch_words refl to_target.0 to_target.1
    branch_leaves (suc (suc (suc j))) l m = absurd (omega arith)

    abbrev branches : Bool → ℕ → ℕ → List ℕ → Prog → Outcome
    branches is_branch_taken at target regs p = cond is_branch_taken (jump_to target regs p) (Goes (next at) regs p)

    branch_by : (t : Bool) (regs others : List ℕ) (p : Prog) → Alike regs others
        → SameStep false 0 to branch_words (branches t (to + 4 * 0) (wrap (to + 4 * 0 + 8)) regs p) (branches t point (wrap (point + offset)) others p)
    branch_by true regs others p s =
        let there : wrap (to + 4 * 0 + 8) ≡ to + 4 * 2 = omega arith in
        let al : wrap (to + 4 * 0 + 8) % 4 ≡ 0 = omega arith in
        let same : SameStep false 0 to branch_words (Goes (wrap (to + 4 * 0 + 8)) regs p) (Goes (wrap (point + offset)) others p) =
        (refl, s, inr (refl, 2, jump_word (to + 8) (wrap (point + offset)), omega arith, omega arith, there, refl, target_is (to + 4 * 2) (wrap (point + offset)) (jump_word (to + 8) (wrap (point + offset))) to_target.0)) in
        subst (λ x. SameStep false 0 to branch_words x (jump_to (wrap (point + offset)) others p)) (sym (jump_lands (wrap (to + 4 * 0 + 8)) regs p al))
        (subst (λ x. SameStep false 0 to branch_words (Goes (wrap (to + 4 * 0 + 8)) regs p) x) (sym (jump_lands (wrap (point + offset)) others p to_target.1)) same)
    branch_by false regs others p s =
        let there : next (to + 4 * 0) ≡ to + 4 * 1 = omega arith in
        (refl, s, inr (refl, 1, jump_word (to + 4) (point + 4), omega arith, omega arith, there, refl, target_is (to + 4 * 1) (point + 4) (jump_word (to + 4) (point + 4)) (back point to pa ta lo be near 1 (omega arith)) ∙ ap (λ a. Some a) (sym (next_point point lo))))

    branch_execs : (by at h : ℕ) (regs : List ℕ) (p : Prog) → exec_decoded (Some (Branch op rs1 rs2 by)) at h regs p ≡ branches (is_branch_taken op (reg regs rs1) (reg regs rs2)) at (wrap (at + by)) regs p
    unfolding action perform
    branch_execs by at h regs p = refl

    branch_tick : (regs others : List ℕ) (h : ℕ) (p : Prog) → Alike regs others
        → SameStep false 0 to branch_words (exec_of (word_of (Branch op rs1 rs2 8)) (to + 4 * 0) h regs p) (exec_of word point h others p)
    branch_tick regs others h p s =
        let low = branch_low word op rs1 rs2 offset e in
        let one : rs1 ≢ 31 = grind (arith, common_steps) in
        let two : rs2 ≢ 31 = grind (arith, common_steps) in
        let t : is_branch_taken op (reg regs rs1) (reg regs rs2) ≡ is_branch_taken op (reg others rs1) (reg others rs2) =
        ap (λ a. is_branch_taken op a (reg regs rs2)) (agree_but regs others rs1 s.first s.second s.agree one) ∙ ap (λ b. is_branch_taken op (reg others rs1) b) (agree_but regs others rs2 s.first s.second s.agree two) in
        let x = ap (λ o. exec_decoded o (to + 4 * 0) h regs p) (branch_reads op rs1 rs2 low.0 low.1)
        ∙ (branch_execs 8 (to + 4 * 0) h regs p ∙ ap (λ b. branches b (to + 4 * 0) (wrap (to + 4 * 0 + 8)) regs p) t) in
        let y = ap (λ o. exec_decoded o point h others p) e ∙ branch_execs offset point h others p in
        subst (λ a. SameStep false 0 to branch_words a (exec_of word point h others p)) (sym x)
        (subst (λ b. SameStep false 0 to branch_words (branches (is_branch_taken op (reg others rs1) (reg others rs2)) (to + 4 * 0) (wrap (to + 4 * 0 + 8)) regs p) b) (sym y)
        (branch_by (is_branch_taken op (reg others rs1) (reg others rs2)) regs others p s))

    pub branch_moves : (r : ℕ → Option ℕ) → MovesBy 0 r false word point to branch_words
    branch_moves r =
        record {
          before = λ j regs. regs;
          start = λ regs. refl;
          size = λ j regs l. refl;
          silent = λ j l. absurd (omega arith);
          like = λ j k regs l m o d. refl;
          tick = (word_of (Branch op rs1 rs2 8), refl, ap jumps (let low = branch_low word op rs1 rs2 offset e in branch_reads op rs1 rs2 low.0 low.1), branch_tick);
          leaves = branch_leaves;
        }
