-- The moved words of jalr.
use Rattle.std.proofs.Common.{◌≡◌, ◌≢◌, ℕ, zero, suc, ◌+◌, ◌*◌, ◌/◌, ◌%◌, ◌^◌, ◌<◌, ◌≤◌, List, [], ◌∷◌, length, Option, Some, Ok, refl, ap, sym, ◌∙◌, subst, arith, inl}
use Rattle.std.specs.Prelude.{◌==◌, Bool, true, false, cond, slice_get}
use Rattle.std.proofs.lemmas.Grind.{common_steps}
use Rattle.rv_word.specs.Fields.{extended}
use Rattle.rv_word.specs.Registers.{reg, with_reg}
use Rattle.rv_word.specs.Names.{names}
use Rattle.rv_word.specs.Table.{decode_of}
use Rattle.rv_word.specs.Words.{word_of, IsExtended}
use Rattle.rv_word.specs.Values.{wrap}
use Rattle.rv_word.specs.Exec.{Prog, Stops, Goes, action, next, jump_to, perform, exec_decoded, exec_of}
use Rattle.rv_word.specs.declared.outcome.Cause.TheVariants.{Misaligned}
use Rattle.rv_word.specs.declared.instr.ImmOp.TheVariants.{Addi}
use Rattle.rv_word.specs.declared.instr.Instr.TheVariants.{Lui, Jalr, OpImm, Addiw}
use Rattle.tramp_spec.specs.Banks.{bank_len}
use Rattle.tramp_spec.specs.Jumps.{upper, lower}
use Rattle.tramp_spec.specs.Marks.{own, tool, jumps}
use Rattle.tramp_spec.specs.MovedWords.{moved_jalr, between}
use Rattle.tramp_spec.specs.Moves.{Alike, SameStep, MovesBy, bench}
use Rattle.tramp_spec.specs.Steps.{stand, step_on}
use Rattle.tramp_spec.specs.declared.mark.MarkedWord.{MarkedWord}
use Rattle.tramp_spec.proofs.Registers.{length_with, read_back, read_but, agree_but, agree_31, with_zero}
use Rattle.tramp_spec.proofs.NumberWords.{lui_steps, addiw_steps, addi_steps}
use Rattle.tramp_spec.proofs.Outcomes.{rewritten, jalr_parts, jalr_is, jalr_offset, jalr_reads}
use Rattle.tramp_spec.proofs.MovedPlaces.{next_point}

module _ (point to : ℕ) (pa : point % 4 ≡ 0) (ta : to % 4 ≡ 0) (lo : point < 0x60000000) (be : point < to) (near : to ≤ point + 1048000) where
  module _ (word rd rs1 offset : ℕ) (e : decode_of word ≡ Some (Jalr rd rs1 offset)) (n : names 31 (Jalr rd rs1 offset) ≡ false) where
    destination : List ℕ → ℕ
    destination regs = wrap (reg regs rs1 + offset) / 2 * 2

    -- to where the program's word jumps
    jalr_program : (at h : ℕ) (regs : List ℕ) (p : Prog) → exec_of word at h regs p ≡ jump_to (wrap (reg regs rs1 + offset) / 2 * 2) (with_reg regs rd (next at)) p
    unfolding action perform
    jalr_program at h regs p = ap (λ o. exec_decoded o at h regs p) e

    source_other : rs1 ≢ 31
    source_other = grind (arith, common_steps)

    link_other : rd ≢ 31
    link_other = grind (arith, common_steps)

    lands : (place : ℕ) (moved : List MarkedWord) (t : ℕ) (a b : List ℕ) (p : Prog) → Alike a b → SameStep true place to moved (jump_to t a p) (jump_to t b p)
    lands place moved t a b p s = by (t % 4 == 0)
      where
        by : (x : Bool) → SameStep true place to moved (cond x (Goes t a p) (Stops Misaligned p)) (cond x (Goes t b p) (Stops Misaligned p))
        by true = (refl, s, inl (refl, refl))
        by false = (refl, refl)

    -- which keeps no address
    pub return_moves : rd ≡ 0 → (r : ℕ → Option ℕ) → MovesBy 0 r true word point to (own word ∷ [])
    return_moves z r =
        record {
          before = λ j regs. regs;
          start = λ regs. refl;
          size = λ j regs l. refl;
          silent = λ j l. absurd (omega arith);
          like = λ j k regs l m o d. refl;
          tick = (
            word,
            refl,
            ap jumps e,
            λ regs others h p s.
                let o : (rs : List ℕ) (at : ℕ) → with_reg rs rd (next at) ≡ rs = λ rs at. ap (λ q. with_reg rs q (next at)) z ∙ with_zero rs (next at) in
                let t : wrap (reg regs rs1 + offset) / 2 * 2 ≡ wrap (reg others rs1 + offset) / 2 * 2 = ap (λ a. wrap (a + offset) / 2 * 2) (agree_but regs others rs1 s.first s.second s.agree source_other) in
                let x : exec_of word (to + 4 * 0) h regs p ≡ jump_to (wrap (reg others rs1 + offset) / 2 * 2) regs p =
                jalr_program (to + 4 * 0) h regs p ∙ (ap (λ rs. jump_to (wrap (reg regs rs1 + offset) / 2 * 2) rs p) (o regs (to + 4 * 0)) ∙ ap (λ a. jump_to a regs p) t) in
                let y : exec_of word point h others p ≡ jump_to (wrap (reg others rs1 + offset) / 2 * 2) others p =
                jalr_program point h others p ∙ ap (λ rs. jump_to (wrap (reg others rs1 + offset) / 2 * 2) rs p) (o others point) in
                subst (λ a. SameStep true 0 to (own word ∷ []) a (exec_of word point h others p)) (sym x)
                (subst (λ b. SameStep true 0 to (own word ∷ []) (jump_to (wrap (reg others rs1 + offset) / 2 * 2) regs p) b) (sym y)
                (lands 0 (own word ∷ []) (wrap (reg others rs1 + offset) / 2 * 2) regs others p s)),
          );
          leaves = λ j l m. absurd (omega arith);
        }

    -- which keeps one
    abbrev jalr_words : List MarkedWord
    jalr_words = moved_jalr rd rs1 offset (point + 4)

    abbrev jalr_first : List ℕ → List ℕ
    jalr_first regs = with_reg regs 31 (wrap (reg regs rs1 + offset))

    abbrev jalr_before : ℕ → List ℕ → List ℕ
    jalr_before zero regs = regs
    jalr_before (suc zero) regs = jalr_first regs
    jalr_before (suc (suc zero)) regs = with_reg (jalr_first regs) rd (upper (point + 4))
    jalr_before (suc (suc (suc j))) regs = with_reg (with_reg (jalr_first regs) rd (upper (point + 4))) rd (point + 4)

    first_size : (regs : List ℕ) → length (jalr_first regs) ≡ length regs
    first_size regs = length_with regs 31 _

    jalr_size : (j : ℕ) (regs : List ℕ) → j ≤ 3 → length (jalr_before j regs) ≡ length regs
    jalr_size zero regs l = refl
    jalr_size (suc zero) regs l = first_size regs
    jalr_size (suc (suc zero)) regs l = length_with (jalr_first regs) rd (upper (point + 4)) ∙ first_size regs
    jalr_size (suc (suc (suc j))) regs l = length_with (with_reg (jalr_first regs) rd (upper (point + 4))) rd (point + 4) ∙ (length_with (jalr_first regs) rd (upper (point + 4)) ∙ first_size regs)

    link_fits : extended 32 ((point + 4) % 2 ^ 32) ≡ point + 4
    link_fits = omega arith

    jalr_silent : word < 2 ^ 32 → (rd == 0) ≡ false → (j : ℕ) → j < 3 → (w : ℕ) × (slice_get jalr_words j ≡ Some (tool w))
        × ((regs bank : List ℕ) (ticks : ℕ) → length regs ≡ 32 → step_on bank_len w ticks (to + 4 * j) (bench (jalr_before j regs) bank) ≡ Ok (stand (to + 4 * (j + 1)) (bench (jalr_before (j + 1) regs) bank)))
    jalr_silent narrow z zero l =
        let k : next (to + 4 * 0) ≡ to + 4 * (0 + 1) = omega arith in
        let low = jalr_parts word rd rs1 offset e in
        let fits : IsExtended 12 offset = subst (IsExtended 12) (sym (jalr_is word rd rs1 offset e)) (jalr_offset word narrow) in (
          word_of (OpImm Addi 31 rs1 offset),
          refl,
          λ regs bank ticks size.
              addi_steps 31 rs1 offset ticks (to + 4 * 0) (bench regs bank) (omega arith) low.1 fits ∙ ap (λ a. Ok (stand a (bench (jalr_first regs) bank))) k,
        )
    jalr_silent narrow z (suc zero) l =
        let k : next (to + 4 * 1) ≡ to + 4 * (1 + 1) = omega arith in (
          word_of (Lui rd (upper (point + 4))),
          refl,
          λ regs bank ticks size.
              lui_steps rd (point + 4) ticks (to + 4 * 1) (bench (jalr_first regs) bank) (jalr_parts word rd rs1 offset e).0
              ∙ ap (λ a. Ok (stand a (bench (with_reg (jalr_first regs) rd (upper (point + 4))) bank))) k,
        )
    jalr_silent narrow z (suc (suc zero)) l =
        let k : next (to + 4 * 2) ≡ to + 4 * (2 + 1) = omega arith in (
          word_of (Addiw rd rd (lower (point + 4))),
          refl,
          λ regs bank ticks size.
              addiw_steps rd (point + 4) ticks (to + 4 * 2) (bench (jalr_first regs) bank) (jalr_parts word rd rs1 offset e).0 z (first_size regs ∙ size) link_fits
              ∙ ap (λ a. Ok (stand a (bench (with_reg (with_reg (jalr_first regs) rd (upper (point + 4))) rd (point + 4)) bank))) k,
        )
    jalr_silent narrow z (suc (suc (suc j))) l = absurd (omega arith)

    jalr_like : (j k : ℕ) (regs : List ℕ) → j ≤ 3 → 0 < k → k < 31 → between 1 3 j rd ≢ Some k → reg (jalr_before j regs) k ≡ reg regs k
    jalr_like zero k regs l m o d = refl
    jalr_like (suc zero) k regs l m o d = read_but regs 31 k _ (λ i. omega arith)
    jalr_like (suc (suc zero)) k regs l m o d = read_but (jalr_first regs) rd k (upper (point + 4)) (λ i. d (ap (λ q. Some q) (sym i))) ∙ read_but regs 31 k _ (λ i. omega arith)
    jalr_like (suc (suc (suc zero))) k regs l m o d =
        let away : k ≢ rd = λ i. d (ap (λ q. Some q) (sym i)) in
        read_but (with_reg (jalr_first regs) rd (upper (point + 4))) rd k (point + 4) away ∙ (read_but (jalr_first regs) rd k (upper (point + 4)) away ∙ read_but regs 31 k _ (λ i. omega arith))
    jalr_like (suc (suc (suc (suc j)))) k regs l m o d = absurd (omega arith)

    -- the tick: a jump to what stands in x31
    jump_31 : (at h : ℕ) (regs : List ℕ) (p : Prog) → exec_of (word_of (Jalr 0 31 0)) at h regs p ≡ jump_to (wrap (reg regs 31 + 0) / 2 * 2) regs p
    unfolding action perform
    jump_31 at h regs p = ap (λ o. exec_decoded o at h regs p) jalr_reads ∙ ap (λ rs. jump_to (wrap (reg regs 31 + 0) / 2 * 2) rs p) (with_zero regs (next at))

    jalr_tick : (regs others : List ℕ) (h : ℕ) (p : Prog) → Alike regs others
        → SameStep true 3 to jalr_words (exec_of (word_of (Jalr 0 31 0)) (to + 4 * 3) h (jalr_before 3 regs) p) (exec_of word point h others p)
    jalr_tick regs others h p s =
        let u = upper (point + 4) in
        let v = wrap (reg regs rs1 + offset) in
        let stays : reg (jalr_before 3 regs) 31 ≡ v =
        read_but (with_reg (jalr_first regs) rd u) rd 31 (point + 4) (λ i. link_other (sym i))
        ∙ (read_but (jalr_first regs) rd 31 u (λ i. link_other (sym i)) ∙ read_back regs 31 v refl (grind (arith, common_steps, s.first))) in
        let once : wrap (v + 0) ≡ v = omega arith in
        let t : wrap (reg (jalr_before 3 regs) 31 + 0) / 2 * 2 ≡ wrap (reg others rs1 + offset) / 2 * 2 =
        ap (λ a. wrap (a + 0) / 2 * 2) stays ∙ (ap (λ a. a / 2 * 2) once ∙ ap (λ a. wrap (a + offset) / 2 * 2) (agree_but regs others rs1 s.first s.second s.agree source_other)) in
        let a : Alike (jalr_before 3 regs) (with_reg others rd (next point)) = record {
          agree = rewritten (jalr_first regs) others rd u (point + 4) (next point) (first_size regs ∙ s.first) s.second (agree_31 regs others v s.agree) (λ q. sym (next_point point lo));
          first = jalr_size 3 regs (omega arith) ∙ s.first;
          second = length_with others rd _ ∙ s.second;
        } in
        let d = wrap (reg others rs1 + offset) / 2 * 2 in
        subst (λ x. SameStep true 3 to jalr_words x (exec_of word point h others p)) (sym (jump_31 (to + 4 * 3) h (jalr_before 3 regs) p ∙ ap (λ k. jump_to k (jalr_before 3 regs) p) t))
        (subst (λ x. SameStep true 3 to jalr_words (jump_to d (jalr_before 3 regs) p) x) (sym (jalr_program point h others p)) (lands 3 jalr_words d (jalr_before 3 regs) (with_reg others rd (next point)) p a))

    pub jalr_moves : word < 2 ^ 32 → (rd == 0) ≡ false → MovesBy 3 (λ j. between 1 3 j rd) true word point to jalr_words
    jalr_moves narrow z =
        record {
          before = jalr_before;
          start = λ regs. refl;
          size = jalr_size;
          silent = jalr_silent narrow z;
          like = jalr_like;
          tick = (word_of (Jalr 0 31 0), refl, ap jumps jalr_reads, jalr_tick);
          leaves = λ j l m. absurd (omega arith);
        }
