-- The moved words of auipc.
use Rattle.std.proofs.Common.{◌≡◌, ◌≢◌, ℕ, zero, suc, ◌+◌, ◌*◌, ◌%◌, ◌^◌, ◌<◌, ◌≤◌, List, length, Some, Ok, refl, ap, sym, ◌∙◌, subst, arith, inr}
use Rattle.std.specs.Prelude.{◌==◌, false, slice_get}
use Rattle.std.proofs.lemmas.Grind.{common_steps}
use Rattle.rv_word.specs.Fields.{extended}
use Rattle.rv_word.specs.Registers.{reg, with_reg}
use Rattle.rv_word.specs.Table.{decode_of}
use Rattle.rv_word.specs.Words.{word_of}
use Rattle.rv_word.specs.Values.{wrap, low_word}
use Rattle.rv_word.specs.Exec.{Prog, action, next, perform, exec_decoded, exec_of}
use Rattle.rv_word.specs.declared.instr.Instr.TheVariants.{Lui, Auipc, Addiw}
use Rattle.tramp_spec.specs.Banks.{bank_len}
use Rattle.tramp_spec.specs.Jumps.{jump_word, upper, lower}
use Rattle.tramp_spec.specs.Marks.{tool, jumps}
use Rattle.tramp_spec.specs.MovedWords.{moved_auipc, between}
use Rattle.tramp_spec.specs.Moves.{Alike, LeadsHome, SameStep, MovesBy, bench}
use Rattle.tramp_spec.specs.Steps.{stand, step_on}
use Rattle.tramp_spec.specs.declared.mark.MarkedWord.{MarkedWord}
use Rattle.tramp_spec.proofs.Encodings.{addiw_reads}
use Rattle.tramp_spec.proofs.Hops.{target_is}
use Rattle.tramp_spec.proofs.Registers.{length_with, read_back, read_but}
use Rattle.tramp_spec.proofs.NumberWords.{lower_fits, parts, lui_steps}
use Rattle.tramp_spec.proofs.Outcomes.{rewritten, auipc_low}
use Rattle.tramp_spec.proofs.MovedPlaces.{next_point, Leaves, leaves_by, back}

module _ (point to : ℕ) (pa : point % 4 ≡ 0) (ta : to % 4 ≡ 0) (lo : point < 0x60000000) (be : point < to) (near : to ≤ point + 1048000) where
  module _ (word rd imm : ℕ) (e : decode_of word ≡ Some (Auipc rd imm)) (fits : extended 32 (wrap (point + imm) % 2 ^ 32) ≡ wrap (point + imm)) where
    abbrev auipc_words : List MarkedWord
    auipc_words = moved_auipc rd (wrap (point + imm)) (point + 4) (to + 8)

    abbrev auipc_before : ℕ → List ℕ → List ℕ
    auipc_before zero regs = regs
    auipc_before (suc j) regs = with_reg regs rd (upper (wrap (point + imm)))

    auipc_size : (j : ℕ) (regs : List ℕ) → j ≤ 1 → length (auipc_before j regs) ≡ length regs
    auipc_size zero regs l = refl
    auipc_size (suc j) regs l = length_with regs rd (upper (wrap (point + imm)))

    auipc_silent : (j : ℕ) → j < 1 → (w : ℕ) × (slice_get auipc_words j ≡ Some (tool w))
        × ((regs bank : List ℕ) (ticks : ℕ) → length regs ≡ 32 → step_on bank_len w ticks (to + 4 * j) (bench (auipc_before j regs) bank) ≡ Ok (stand (to + 4 * (j + 1)) (bench (auipc_before (j + 1) regs) bank)))
    auipc_silent zero l =
        let n : next (to + 4 * 0) ≡ to + 4 * (0 + 1) = omega arith in (
          word_of (Lui rd (upper (wrap (point + imm)))),
          refl,
          λ regs bank ticks size.
              lui_steps rd (wrap (point + imm)) ticks (to + 4 * 0) (bench regs bank) (auipc_low word rd imm e) ∙ ap (λ a. Ok (stand a (bench (with_reg regs rd (upper (wrap (point + imm)))) bank))) n,
        )
    auipc_silent (suc j) l = absurd (omega arith)

    auipc_like : (j k : ℕ) (regs : List ℕ) → j ≤ 1 → 0 < k → k < 31 → between 0 1 j rd ≢ Some k → reg (auipc_before j regs) k ≡ reg regs k
    auipc_like zero k regs l m n d = refl
    auipc_like (suc zero) k regs l m n d = read_but regs rd k (upper (wrap (point + imm))) (λ i. d (ap (λ q. Some q) (sym i)))
    auipc_like (suc (suc j)) k regs l m n d = absurd (omega arith)

    auipc_leaves : (j : ℕ) → 1 < j → j < 3 → Leaves to j auipc_words
    auipc_leaves zero l m = absurd (omega arith)
    auipc_leaves (suc zero) l m = absurd (omega arith)
    auipc_leaves (suc (suc zero)) l m = leaves_by to 2 (jump_word (to + 8) (point + 4)) (point + 4) auipc_words refl (back point to pa ta lo be near 2 (omega arith)) (omega arith)
    auipc_leaves (suc (suc (suc j))) l m = absurd (omega arith)

    auipc_lands : LeadsHome false 1 to auipc_words (next (to + 4 * 1)) (next point)
    auipc_lands =
        let n : next (to + 4 * 1) ≡ to + 4 * 2 = omega arith in
        inr (refl, 2, jump_word (to + 8) (point + 4), omega arith, omega arith, n, refl, target_is (to + 8) (point + 4) (jump_word (to + 8) (point + 4)) (back point to pa ta lo be near 2 (omega arith)) ∙ ap (λ n. Some n) (sym (next_point point lo)))

    auipc_tick : (regs others : List ℕ) (h : ℕ) (p : Prog) → Alike regs others
        → SameStep false 1 to auipc_words (exec_of (word_of (Addiw rd rd (lower (wrap (point + imm))))) (to + 4 * 1) h (auipc_before 1 regs) p) (exec_of word point h others p)
    unfolding action perform
    auipc_tick regs others h p s =
        let u = upper (wrap (point + imm)) in
        let l = lower (wrap (point + imm)) in
        let low = auipc_low word rd imm e in
        let is : (rd == 0) ≡ false → low_word (reg (with_reg regs rd u) rd + l) ≡ wrap (point + imm) = λ z.
        ap (λ a. low_word (a + l)) (read_back regs rd u z (grind (arith, common_steps))) ∙ parts (wrap (point + imm)) fits in
        let a : Alike (with_reg (with_reg regs rd u) rd (low_word (reg (with_reg regs rd u) rd + l))) (with_reg others rd (wrap (point + imm))) = record {
          agree = rewritten regs others rd u (low_word (reg (with_reg regs rd u) rd + l)) (wrap (point + imm)) s.first s.second s.agree is;
          first = length_with (with_reg regs rd u) rd _ ∙ (length_with regs rd u ∙ s.first);
          second = length_with others rd _ ∙ s.second;
        } in
        let k : SameStep false 1 to auipc_words (exec_decoded (Some (Addiw rd rd l)) (to + 4 * 1) h (with_reg regs rd u) p) (exec_decoded (Some (Auipc rd imm)) point h others p) = (refl, a, auipc_lands) in
        subst (λ o. SameStep false 1 to auipc_words (exec_decoded o (to + 4 * 1) h (with_reg regs rd u) p) (exec_decoded (decode_of word) point h others p)) (sym (addiw_reads rd rd l low low (lower_fits (wrap (point + imm)))))
        (subst (λ o. SameStep false 1 to auipc_words (exec_decoded (Some (Addiw rd rd l)) (to + 4 * 1) h (with_reg regs rd u) p) (exec_decoded o point h others p)) (sym e) k)

    pub auipc_moves : MovesBy 1 (λ j. between 0 1 j rd) false word point to auipc_words
    auipc_moves =
        record {
          before = auipc_before;
          start = λ regs. refl;
          size = auipc_size;
          silent = auipc_silent;
          like = auipc_like;
          tick = (word_of (Addiw rd rd (lower (wrap (point + imm)))), refl, ap jumps (addiw_reads rd rd (lower (wrap (point + imm))) (auipc_low word rd imm e) (auipc_low word rd imm e) (lower_fits (wrap (point + imm)))), auipc_tick);
          leaves = auipc_leaves;
        }
