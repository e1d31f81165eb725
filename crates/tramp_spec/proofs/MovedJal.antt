-- The moved words of jal.
use Rattle.std.proofs.Common.{◌≡◌, ◌≢◌, ℕ, zero, suc, ◌+◌, ◌*◌, ◌%◌, ◌^◌, ◌<◌, ◌≤◌, List, length, Option, Some, Ok, refl, ap, sym, ◌∙◌, subst, arith, inl}
use Rattle.std.specs.Prelude.{◌==◌, true, false, slice_get}
use Rattle.rv_word.specs.Fields.{extended}
use Rattle.rv_word.specs.Registers.{reg, with_reg}
use Rattle.rv_word.specs.Table.{decode_of}
use Rattle.rv_word.specs.Words.{word_of}
use Rattle.rv_word.specs.Values.{wrap}
use Rattle.rv_word.specs.Exec.{Prog, Goes, next, exec_decoded, exec_of}
use Rattle.rv_word.specs.declared.instr.Instr.TheVariants.{Lui, Jal, Addiw}
use Rattle.tramp_spec.specs.Banks.{bank_len}
use Rattle.tramp_spec.specs.Jumps.{jump_word, upper, lower}
use Rattle.tramp_spec.specs.Marks.{tool, jumps}
use Rattle.tramp_spec.specs.MovedWords.{moved_jump, moved_jal, is_target, between}
use Rattle.tramp_spec.specs.Moves.{Alike, SameStep, MovesBy, bench}
use Rattle.tramp_spec.specs.Steps.{stand, step_on}
use Rattle.tramp_spec.specs.declared.mark.MarkedWord.{MarkedWord}
use Rattle.tramp_spec.proofs.Hops.{Hops}
use Rattle.tramp_spec.proofs.Registers.{length_with, read_but, with_zero}
use Rattle.tramp_spec.proofs.NumberWords.{lui_steps, addiw_steps}
use Rattle.tramp_spec.proofs.Outcomes.{hop_execs, jal_execs, rewritten, jal_low}
use Rattle.tramp_spec.proofs.MovedPlaces.{next_point, target}

module _ (point to : ℕ) (pa : point % 4 ≡ 0) (ta : to % 4 ≡ 0) (lo : point < 0x60000000) (be : point < to) (near : to ≤ point + 1048000) where
  module _ (word rd offset : ℕ) (e : decode_of word ≡ Some (Jal rd offset)) where
    -- the program's step
    jal_program : (others : List ℕ) (h : ℕ) (p : Prog) → wrap (point + offset) % 4 ≡ 0 → exec_of word point h others p ≡ Goes (wrap (point + offset)) (with_reg others rd (next point)) p
    jal_program others h p a = ap (λ o. exec_decoded o point h others p) e ∙ jal_execs rd offset point h others p a

    -- which keeps no address
    pub jump_moves : rd ≡ 0 → (r : ℕ → Option ℕ) → is_target to (wrap (point + offset)) ≡ true → MovesBy 0 r true word point to (moved_jump (wrap (point + offset)) to)
    jump_moves z r i =
        let here : to + 4 * 0 ≡ to = omega arith in
        let t = target point to pa ta lo be near 0 (wrap (point + offset)) (omega arith) (ap (λ a. is_target a (wrap (point + offset))) here ∙ i) in
        let w = jump_word to (wrap (point + offset)) in
        let k : Hops (to + 4 * 0) (wrap (point + offset)) w = subst (λ a. Hops (to + 4 * 0) (wrap (point + offset)) (jump_word a (wrap (point + offset)))) here t.0 in
        record {
          before = λ j regs. regs;
          start = λ regs. refl;
          size = λ j regs l. refl;
          silent = λ j l. absurd (omega arith);
          like = λ j k regs l m n d. refl;
          tick = (
            w,
            refl,
            ap jumps k.is,
            λ regs others h p s.
                let x = hop_execs w (to + 4 * 0) (wrap (point + offset)) h regs p k t.1 in
                let y = jal_program others h p t.1 in
                let o : with_reg others rd (next point) ≡ others = ap (λ q. with_reg others q (next point)) z ∙ with_zero others (next point) in
                let same : SameStep true 0 to (moved_jump (wrap (point + offset)) to) (Goes (wrap (point + offset)) regs p) (Goes (wrap (point + offset)) others p) = (refl, s, inl (refl, refl)) in
                subst (λ a. SameStep true 0 to (moved_jump (wrap (point + offset)) to) a (exec_of word point h others p)) (sym x)
                (subst (λ b. SameStep true 0 to (moved_jump (wrap (point + offset)) to) (Goes (wrap (point + offset)) regs p) b) (sym (y ∙ ap (λ rs. Goes (wrap (point + offset)) rs p) o)) same),
          );
          leaves = λ j l m. absurd (omega arith);
        }

    -- which keeps one
    abbrev jal_words : List MarkedWord
    jal_words = moved_jal rd (wrap (point + offset)) (point + 4) (to + 8)

    abbrev jal_before : ℕ → List ℕ → List ℕ
    jal_before zero regs = regs
    jal_before (suc zero) regs = with_reg regs rd (upper (point + 4))
    jal_before (suc (suc j)) regs = with_reg (with_reg regs rd (upper (point + 4))) rd (point + 4)

    jal_size : (j : ℕ) (regs : List ℕ) → j ≤ 2 → length (jal_before j regs) ≡ length regs
    jal_size zero regs l = refl
    jal_size (suc zero) regs l = length_with regs rd (upper (point + 4))
    jal_size (suc (suc j)) regs l = length_with (with_reg regs rd (upper (point + 4))) rd (point + 4) ∙ length_with regs rd (upper (point + 4))

    point_fits : extended 32 ((point + 4) % 2 ^ 32) ≡ point + 4
    point_fits = omega arith

    jal_silent : (rd == 0) ≡ false → (j : ℕ) → j < 2 → (w : ℕ) × (slice_get jal_words j ≡ Some (tool w))
        × ((regs bank : List ℕ) (ticks : ℕ) → length regs ≡ 32 → step_on bank_len w ticks (to + 4 * j) (bench (jal_before j regs) bank) ≡ Ok (stand (to + 4 * (j + 1)) (bench (jal_before (j + 1) regs) bank)))
    jal_silent z zero l =
        let n : next (to + 4 * 0) ≡ to + 4 * (0 + 1) = omega arith in (
          word_of (Lui rd (upper (point + 4))),
          refl,
          λ regs bank ticks size.
              lui_steps rd (point + 4) ticks (to + 4 * 0) (bench regs bank) (jal_low word rd offset e) ∙ ap (λ a. Ok (stand a (bench (with_reg regs rd (upper (point + 4))) bank))) n,
        )
    jal_silent z (suc zero) l =
        let n : next (to + 4 * 1) ≡ to + 4 * (1 + 1) = omega arith in (
          word_of (Addiw rd rd (lower (point + 4))),
          refl,
          λ regs bank ticks size.
              addiw_steps rd (point + 4) ticks (to + 4 * 1) (bench regs bank) (jal_low word rd offset e) z size point_fits
              ∙ ap (λ a. Ok (stand a (bench (with_reg (with_reg regs rd (upper (point + 4))) rd (point + 4)) bank))) n,
        )
    jal_silent z (suc (suc j)) l = absurd (omega arith)

    jal_like : (j k : ℕ) (regs : List ℕ) → j ≤ 2 → 0 < k → k < 31 → between 0 2 j rd ≢ Some k → reg (jal_before j regs) k ≡ reg regs k
    jal_like zero k regs l m n d = refl
    jal_like (suc zero) k regs l m n d = read_but regs rd k (upper (point + 4)) (λ i. d (ap (λ q. Some q) (sym i)))
    jal_like (suc (suc zero)) k regs l m n d =
        let away : k ≢ rd = λ i. d (ap (λ q. Some q) (sym i)) in
        read_but (with_reg regs rd (upper (point + 4))) rd k (point + 4) away ∙ read_but regs rd k (upper (point + 4)) away
    jal_like (suc (suc (suc j))) k regs l m n d = absurd (omega arith)

    pub jal_moves : (rd == 0) ≡ false → is_target (to + 8) (wrap (point + offset)) ≡ true → MovesBy 2 (λ j. between 0 2 j rd) true word point to jal_words
    jal_moves z i =
        let t = target point to pa ta lo be near 2 (wrap (point + offset)) (omega arith) i in
        let w = jump_word (to + 8) (wrap (point + offset)) in
        record {
          before = jal_before;
          start = λ regs. refl;
          size = jal_size;
          silent = jal_silent z;
          like = jal_like;
          tick = (
            w,
            refl,
            ap jumps (t.0).is,
            λ regs others h p s.
                let u = upper (point + 4) in
                let x = hop_execs w (to + 4 * 2) (wrap (point + offset)) h (jal_before 2 regs) p t.0 t.1 in
                let y = jal_program others h p t.1 in
                let a : Alike (with_reg (with_reg regs rd u) rd (point + 4)) (with_reg others rd (next point)) = record {
                  agree = rewritten regs others rd u (point + 4) (next point) s.first s.second s.agree (λ q. sym (next_point point lo));
                  first = length_with (with_reg regs rd u) rd _ ∙ (length_with regs rd u ∙ s.first);
                  second = length_with others rd _ ∙ s.second;
                } in
                let same : SameStep true 2 to jal_words (Goes (wrap (point + offset)) (jal_before 2 regs) p) (Goes (wrap (point + offset)) (with_reg others rd (next point)) p) = (refl, a, inl (refl, refl)) in
                subst (λ a. SameStep true 2 to jal_words a (exec_of word point h others p)) (sym x)
                (subst (λ b. SameStep true 2 to jal_words (Goes (wrap (point + offset)) (jal_before 2 regs) p) b) (sym y) same),
          );
          leaves = λ j l m. absurd (omega arith);
        }
