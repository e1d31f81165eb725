-- A word that the jump back follows.
use Rattle.std.proofs.Common.{◌≡◌, ℕ, zero, suc, ◌+◌, ◌*◌, ◌%◌, ◌<◌, ◌≤◌, List, Option, Some, None, refl, ap, sym, ◌∙◌, subst, arith, inr}
use Rattle.std.specs.Prelude.{true, false}
use Rattle.rv_word.specs.Names.{names}
use Rattle.rv_word.specs.Table.{decode_of}
use Rattle.rv_word.specs.Exec.{Prog, action, asked, next, perform, exec_decoded, exec_of}
use Rattle.rv_word.specs.declared.instr.Instr.{Instr}
use Rattle.tramp_spec.specs.Jumps.{jump_word}
use Rattle.tramp_spec.specs.Marks.{jumps, is_jump}
use Rattle.tramp_spec.specs.MovedWords.{moved_plain, rebuilt_decoded}
use Rattle.tramp_spec.specs.Moves.{Alike, LeadsHome, MovesBy}
use Rattle.tramp_spec.proofs.Frame.{SameOutcome, is_straight, straight, asks_same}
use Rattle.tramp_spec.proofs.Hops.{target_is}
use Rattle.tramp_spec.proofs.Outcomes.{to_step}
use Rattle.tramp_spec.proofs.MovedPlaces.{next_point, Leaves, leaves_by, back}

module _ (point to : ℕ) (pa : point % 4 ≡ 0) (ta : to % 4 ≡ 0) (lo : point < 0x60000000) (be : point < to) (near : to ≤ point + 1048000) where
  -- a word that the jump back follows
  module _ (word : ℕ) where
    plain_leaves : (j : ℕ) → 0 < j → j < 2 → Leaves to j (moved_plain word (point + 4) (to + 4))
    plain_leaves zero l m = absurd (omega arith)
    plain_leaves (suc zero) l m = leaves_by to 1 (jump_word (to + 4) (point + 4)) (point + 4) (moved_plain word (point + 4) (to + 4)) refl (back point to pa ta lo be near 1 (omega arith)) (omega arith)
    plain_leaves (suc (suc j)) l m = absurd (omega arith)

    plain_next : LeadsHome false 0 to (moved_plain word (point + 4) (to + 4)) (next (to + 4 * 0)) (next point)
    plain_next =
        let e : next (to + 4 * 0) ≡ to + 4 * 1 = omega arith in
        inr (refl, 1, jump_word (to + 4) (point + 4), omega arith, omega arith, e, refl, target_is (to + 4) (point + 4) (jump_word (to + 4) (point + 4)) (back point to pa ta lo be near 1 (omega arith)) ∙ ap (λ n. Some n) (sym (next_point point lo)))

    plain_by : (r : ℕ → Option ℕ) → is_jump word ≡ false
        → ((regs others : List ℕ) (h : ℕ) (p : Prog) → Alike regs others → SameOutcome (LeadsHome false 0 to (moved_plain word (point + 4) (to + 4))) (exec_of word (to + 4 * 0) h regs p) (exec_of word point h others p))
        → MovesBy 0 r false word point to (moved_plain word (point + 4) (to + 4))
    plain_by r j s =
        record {
          before = λ i regs. regs;
          start = λ regs. refl;
          size = λ i regs l. refl;
          silent = λ i l. absurd (omega arith);
          like = λ i k regs l m n e. refl;
          tick = (word, refl, j, λ regs others h p a. to_step false 0 to (moved_plain word (point + 4) (to + 4)) (exec_of word (to + 4 * 0) h regs p) (exec_of word point h others p) (s regs others h p a));
          leaves = plain_leaves;
        }

    -- an instruction that asks the same at each pc, and leads to the next word
    pub plain_one : (i : Instr) (r : ℕ → Option ℕ) → decode_of word ≡ Some i → names 31 i ≡ false
        → ((pc qc a b : ℕ) → action i pc a b ≡ action i qc a b) → ((pc a b : ℕ) → is_straight (action i pc a b) ≡ true) → jumps (Some i) ≡ false
        → MovesBy 0 r false word point to (moved_plain word (point + 4) (to + 4))
    plain_one i r e n same on j = plain_by r (ap jumps e ∙ j) (λ regs others h p s.
        let R = LeadsHome false 0 to (moved_plain word (point + 4) (to + 4)) in
        let k : SameOutcome R (perform h (asked i point others) (to + 4 * 0) regs p) (perform h (asked i point others) point others p) =
        straight R (to + 4 * 0) point plain_next h (asked i point others) regs others p (on point _ _) s in
        let q : asked i (to + 4 * 0) regs ≡ asked i point others = same (to + 4 * 0) point _ _ ∙ asks_same i point regs others n s in
        let k' : SameOutcome R (exec_decoded (Some i) (to + 4 * 0) h regs p) (exec_decoded (Some i) point h others p) =
        subst (λ a. SameOutcome R (perform h a (to + 4 * 0) regs p) (perform h (asked i point others) point others p)) (sym q) k in
        subst (λ o. SameOutcome R (exec_decoded o (to + 4 * 0) h regs p) (exec_decoded o point h others p)) (sym e) k')

    -- a word that is no instruction
    pub plain_none : decode_of word ≡ None → MovesBy 0 (rebuilt_decoded None) false word point to (moved_plain word (point + 4) (to + 4))
    plain_none e = plain_by (rebuilt_decoded None) (ap jumps e) (λ regs others h p s.
        subst (λ o. SameOutcome (LeadsHome false 0 to (moved_plain word (point + 4) (to + 4))) (exec_decoded o (to + 4 * 0) h regs p) (exec_decoded o point h others p)) (sym e) (refl, refl))
