-- How many words a moved word has.
use Rattle.std.proofs.Common.{◌≡◌, ℕ, List, length, Option, Some, None, sym, ap}
use Rattle.std.specs.Prelude.{Bool, true, false, cond, ◌==◌}
use Rattle.rv_word.specs.Table.{decode_of}
use Rattle.rv_word.specs.declared.instr.Instr.{Instr}
use Rattle.rv_word.specs.declared.instr.Instr.TheVariants.{Lui, Auipc, Jal, Jalr, Branch, Load, Store, OpImm, ShiftImm, Addiw, ShiftImm32, Op, Op32, Fence, Ecall, Ebreak, Lr, Sc, Amo}
use Rattle.tramp_spec.specs.MovedWords.{moved_decoded, moved_of, moved_count, if_movable}
use Rattle.tramp_spec.specs.declared.mark.MarkedWord.{MarkedWord}

some_len : (ws moved : List MarkedWord) → Some ws ≡ Some moved → length moved ≡ length ws
some_len ws moved e = let z : ws ≡ moved = cc in ap length (sym z)

movable_len : (b : Bool) (ws moved : List MarkedWord) → if_movable b ws ≡ Some moved → length moved ≡ length ws
movable_len true ws moved e = some_len ws moved e
movable_len false ws moved e = absurd cc

either : (b : Bool) (x y : Option (List MarkedWord)) (m n : ℕ) (moved : List MarkedWord) → cond b x y ≡ Some moved → (x ≡ Some moved → length moved ≡ m) → (y ≡ Some moved → length moved ≡ n) → length moved ≡ cond b m n
either true x y m n moved e f g = f e
either false x y m n moved e f g = g e

decoded_len : (o : Option Instr) (word p to : ℕ) (moved : List MarkedWord) → moved_decoded o word p to ≡ Some moved → length moved ≡ moved_count o
decoded_len (Some (Jal rd offset)) word p to moved e = either (rd == 0) _ _ 1 3 moved e (λ i. movable_len _ _ moved i) (λ i. movable_len _ _ moved i)
decoded_len (Some (Jalr rd rs1 offset)) word p to moved e = either (rd == 0) _ _ 1 4 moved e (λ i. some_len _ moved i) (λ i. some_len _ moved i)
decoded_len (Some (Branch op rs1 rs2 offset)) word p to moved e = movable_len _ _ moved e
decoded_len (Some (Auipc rd imm)) word p to moved e = movable_len _ _ moved e
decoded_len (Some (Lui rd imm)) word p to moved e = some_len _ moved e
decoded_len (Some (Load op rd rs1 offset)) word p to moved e = some_len _ moved e
decoded_len (Some (Store op rs1 rs2 offset)) word p to moved e = some_len _ moved e
decoded_len (Some (OpImm op rd rs1 imm)) word p to moved e = some_len _ moved e
decoded_len (Some (ShiftImm op rd rs1 by)) word p to moved e = some_len _ moved e
decoded_len (Some (Addiw rd rs1 imm)) word p to moved e = some_len _ moved e
decoded_len (Some (ShiftImm32 op rd rs1 by)) word p to moved e = some_len _ moved e
decoded_len (Some (Op op rd rs1 rs2)) word p to moved e = some_len _ moved e
decoded_len (Some (Op32 op rd rs1 rs2)) word p to moved e = some_len _ moved e
decoded_len (Some (Fence rd rs1 high)) word p to moved e = some_len _ moved e
decoded_len (Some Ecall) word p to moved e = some_len _ moved e
decoded_len (Some Ebreak) word p to moved e = some_len _ moved e
decoded_len (Some (Lr width rd rs1 order)) word p to moved e = some_len _ moved e
decoded_len (Some (Sc width rd rs1 rs2 order)) word p to moved e = some_len _ moved e
decoded_len (Some (Amo op width rd rs1 rs2 order)) word p to moved e = some_len _ moved e
decoded_len None word p to moved e = some_len _ moved e

pub moved_len : (word p to : ℕ) (moved : List MarkedWord) → moved_of word p to ≡ Some moved → length moved ≡ moved_count (decode_of word)
unfolding moved_of
moved_len word p to moved e = decoded_len (decode_of word) word p to moved e
