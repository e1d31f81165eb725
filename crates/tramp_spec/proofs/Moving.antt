-- Each word that can be moved does at its new place what it does at its own.
use Rattle.std.proofs.Common.{◌≡◌, ℕ, ◌+◌, ◌%◌, ◌^◌, ◌<◌, ◌≤◌, List, [], ◌∷◌, Option, Some, None, refl, ap, sym, ◌∙◌, subst, arith}
use Rattle.std.specs.Prelude.{◌==◌, Bool, true, false, cond}
use Rattle.std.specs.Option.{option_map_or}
use Rattle.std.proofs.lemmas.Bool.{eqb-true}
use Rattle.rv_word.specs.Names.{names}
use Rattle.rv_word.specs.Table.{decode_of}
use Rattle.rv_word.specs.Values.{wrap}
use Rattle.rv_word.specs.Exec.{action}
use Rattle.rv_word.specs.declared.instr.Instr.{Instr}
use Rattle.rv_word.specs.declared.instr.Instr.TheVariants.{Lui, Auipc, Jal, Jalr, Branch, Load, Store, OpImm, ShiftImm, Addiw, ShiftImm32, Op, Op32, Fence, Ecall, Ebreak, Lr, Sc, Amo}
use Rattle.tramp_spec.specs.Jumps.{is_signed_word}
use Rattle.tramp_spec.specs.Marks.{own, jumps}
use Rattle.tramp_spec.specs.MovedWords.{moved_auipc, moved_jump, moved_jal, moved_jalr, moved_branch, moved_plain, moved_with, moved_decoded, moved_of, is_target, own_place, own_place_decoded, rebuilt, rebuilt_decoded, between}
use Rattle.tramp_spec.specs.Moves.{MovesBy, WordsMove}
use Rattle.tramp_spec.specs.declared.mark.MarkedWord.{MarkedWord}
use Rattle.tramp_spec.proofs.Frame.{is_straight}
use Rattle.tramp_spec.proofs.Outcomes.{movable}
use Rattle.tramp_spec.proofs.MovedPlain.{plain_one, plain_none}
use Rattle.tramp_spec.proofs.MovedAuipc.{auipc_moves}
use Rattle.tramp_spec.proofs.MovedJal.{jump_moves, jal_moves}
use Rattle.tramp_spec.proofs.MovedJalr.{return_moves, jalr_moves}
use Rattle.tramp_spec.proofs.MovedBranch.{branch_moves}

-- below 2^63 no address of the table wraps
pub nothing_wraps : (o : Option Instr) (word point to : ℕ) → point < 2 ^ 63 → to < 2 ^ 63 → moved_decoded o word point to ≡ moved_with o word point (point + 4) to (to + 4) (to + 8)
nothing_wraps o word point to lp lt =
    let next : wrap (point + 4) ≡ point + 4 = omega arith in
    let second : wrap (to + 4) ≡ to + 4 = omega arith in
    let third : wrap (to + 8) ≡ to + 8 = omega arith in
    ap (λ n. moved_with o word point n to (wrap (to + 4)) (wrap (to + 8))) next
    ∙ ap (λ n. moved_with o word point (point + 4) to n (wrap (to + 8))) second
    ∙ ap (λ n. moved_with o word point (point + 4) to (to + 4) n) third

abbrev MovesAs : Option Instr → ℕ → ℕ → ℕ → List MarkedWord → Type 0
MovesAs o = MovesBy (own_place_decoded o) (rebuilt_decoded o) (jumps o)

module _ (point to : ℕ) (pa : point % 4 ≡ 0) (ta : to % 4 ≡ 0) (lo : point < 0x60000000) (be : point < to) (near : to ≤ point + 1048000) where
  -- an instruction of the last kind, whose words are the plain ones
  plain_is : (word : ℕ) (i : Instr) (moved : List MarkedWord) (r : ℕ → Option ℕ) → decode_of word ≡ Some i → names 31 i ≡ false → Some (moved_plain word (point + 4) (to + 4)) ≡ Some moved
      → ((pc qc a b : ℕ) → action i pc a b ≡ action i qc a b) → ((pc a b : ℕ) → is_straight (action i pc a b) ≡ true) → jumps (Some i) ≡ false → MovesBy 0 r false word point to moved
  plain_is word i moved r e n m same on j = let k : moved_plain word (point + 4) (to + 4) ≡ moved = cc in subst (MovesBy 0 r false word point to) k (plain_one point to pa ta lo be near word i r e n same on j)

  jal_by : (b : Bool) (word rd offset : ℕ) (moved : List MarkedWord) → (rd == 0) ≡ b → decode_of word ≡ Some (Jal rd offset)
      → cond b (cond (is_target to (wrap (point + offset))) (Some (moved_jump (wrap (point + offset)) to)) None) (cond (is_target (to + 8) (wrap (point + offset))) (Some (moved_jal rd (wrap (point + offset)) (point + 4) (to + 8))) None) ≡ Some moved
      → MovesBy (cond b 0 2) (λ j. cond b None (between 0 2 j rd)) true word point to moved
  jal_by true word rd offset moved z e m =
      let k = movable (is_target to (wrap (point + offset))) (moved_jump (wrap (point + offset)) to) moved m in
      subst (MovesBy 0 (λ j. None) true word point to) k.1 (jump_moves point to pa ta lo be near word rd offset e (eqb-true rd 0 z) (λ j. None) k.0)
  jal_by false word rd offset moved z e m =
      let k = movable (is_target (to + 8) (wrap (point + offset))) (moved_jal rd (wrap (point + offset)) (point + 4) (to + 8)) moved m in
      subst (MovesBy 2 (λ j. between 0 2 j rd) true word point to) k.1 (jal_moves point to pa ta lo be near word rd offset e z k.0)

  jalr_by : (b : Bool) (word rd rs1 offset : ℕ) (moved : List MarkedWord) → word < 2 ^ 32 → (rd == 0) ≡ b → decode_of word ≡ Some (Jalr rd rs1 offset) → names 31 (Jalr rd rs1 offset) ≡ false
      → cond b (Some (own word ∷ [])) (Some (moved_jalr rd rs1 offset (point + 4))) ≡ Some moved → MovesBy (cond b 0 3) (λ j. cond b None (between 1 3 j rd)) true word point to moved
  jalr_by true word rd rs1 offset moved l z e n m =
      let k : own word ∷ [] ≡ moved = cc in
      subst (MovesBy 0 (λ j. None) true word point to) k (return_moves point to pa ta lo be near word rd rs1 offset e n (eqb-true rd 0 z) (λ j. None))
  jalr_by false word rd rs1 offset moved l z e n m =
      let k : moved_jalr rd rs1 offset (point + 4) ≡ moved = cc in
      subst (MovesBy 3 (λ j. between 1 3 j rd) true word point to) k (jalr_moves point to pa ta lo be near word rd rs1 offset e n l z)

  moves_by : (o : Option Instr) (word : ℕ) (moved : List MarkedWord) → word < 2 ^ 32 → decode_of word ≡ o → option_map_or (names 31) o false ≡ false → moved_with o word point (point + 4) to (to + 4) (to + 8) ≡ Some moved → MovesAs o word point to moved
  unfolding action
  moves_by (Some (Auipc rd imm)) word moved l e n m =
      let k = movable (is_signed_word (wrap (point + imm))) (moved_auipc rd (wrap (point + imm)) (point + 4) (to + 8)) moved m in
      subst (MovesBy 1 (λ j. between 0 1 j rd) false word point to) k.1 (auipc_moves point to pa ta lo be near word rd imm e (eqb-true _ _ k.0))
  moves_by (Some (Jal rd offset)) word moved l e n m = jal_by (rd == 0) word rd offset moved refl e m
  moves_by (Some (Jalr rd rs1 offset)) word moved l e n m = jalr_by (rd == 0) word rd rs1 offset moved l refl e n m
  moves_by (Some (Branch op rs1 rs2 offset)) word moved l e n m =
      let k = movable (is_target (to + 8) (wrap (point + offset))) (moved_branch op rs1 rs2 (wrap (point + offset)) (point + 4) (to + 4) (to + 8)) moved m in
      subst (MovesBy 0 (λ j. None) false word point to) k.1 (branch_moves point to pa ta lo be near word op rs1 rs2 offset e n k.0 (λ j. None))
  moves_by None word moved l e n m = let k : moved_plain word (point + 4) (to + 4) ≡ moved = cc in subst (MovesBy 0 (λ j. None) false word point to) k (plain_none point to pa ta lo be near word e)
  moves_by (Some (Lui rd imm)) word moved l e n m = plain_is word (Lui rd imm) moved (λ j. None) e n m (λ pc qc a b. refl) (λ pc a b. refl) refl
  moves_by (Some (Load op rd rs1 offset)) word moved l e n m = plain_is word (Load op rd rs1 offset) moved (λ j. None) e n m (λ pc qc a b. refl) (λ pc a b. refl) refl
  moves_by (Some (Store op rs1 rs2 offset)) word moved l e n m = plain_is word (Store op rs1 rs2 offset) moved (λ j. None) e n m (λ pc qc a b. refl) (λ pc a b. refl) refl
  moves_by (Some (OpImm op rd rs1 imm)) word moved l e n m = plain_is word (OpImm op rd rs1 imm) moved (λ j. None) e n m (λ pc qc a b. refl) (λ pc a b. refl) refl
  moves_by (Some (ShiftImm op rd rs1 by)) word moved l e n m = plain_is word (ShiftImm op rd rs1 by) moved (λ j. None) e n m (λ pc qc a b. refl) (λ pc a b. refl) refl
  moves_by (Some (Addiw rd rs1 imm)) word moved l e n m = plain_is word (Addiw rd rs1 imm) moved (λ j. None) e n m (λ pc qc a b. refl) (λ pc a b. refl) refl
  moves_by (Some (ShiftImm32 op rd rs1 by)) word moved l e n m = plain_is word (ShiftImm32 op rd rs1 by) moved (λ j. None) e n m (λ pc qc a b. refl) (λ pc a b. refl) refl
  moves_by (Some (Op op rd rs1 rs2)) word moved l e n m = plain_is word (Op op rd rs1 rs2) moved (λ j. None) e n m (λ pc qc a b. refl) (λ pc a b. refl) refl
  moves_by (Some (Op32 op rd rs1 rs2)) word moved l e n m = plain_is word (Op32 op rd rs1 rs2) moved (λ j. None) e n m (λ pc qc a b. refl) (λ pc a b. refl) refl
  moves_by (Some (Fence rd rs1 high)) word moved l e n m = plain_is word (Fence rd rs1 high) moved (λ j. None) e n m (λ pc qc a b. refl) (λ pc a b. refl) refl
  moves_by (Some Ecall) word moved l e n m = plain_is word Ecall moved (λ j. None) e n m (λ pc qc a b. refl) (λ pc a b. refl) refl
  moves_by (Some Ebreak) word moved l e n m = plain_is word Ebreak moved (λ j. None) e n m (λ pc qc a b. refl) (λ pc a b. refl) refl
  moves_by (Some (Lr width rd rs1 order)) word moved l e n m = plain_is word (Lr width rd rs1 order) moved (λ j. None) e n m (λ pc qc a b. refl) (λ pc a b. refl) refl
  moves_by (Some (Sc width rd rs1 rs2 order)) word moved l e n m = plain_is word (Sc width rd rs1 rs2 order) moved (λ j. None) e n m (λ pc qc a b. refl) (λ pc a b. refl) refl
  moves_by (Some (Amo op width rd rs1 rs2 order)) word moved l e n m = plain_is word (Amo op width rd rs1 rs2 order) moved (λ j. None) e n m (λ pc qc a b. refl) (λ pc a b. refl) refl

pub words_move : WordsMove
unfolding moved_of own_place rebuilt
words_move word point to moved n l pa ta lo be near m =
    moves_by point to pa ta lo be near (decode_of word) word moved l refl n (sym (nothing_wraps (decode_of word) word point to (omega arith) (omega arith)) ∙ m)
