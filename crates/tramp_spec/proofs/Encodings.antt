-- The words of the tool's instructions are read as these instructions.
use Rattle.std.proofs.Common.{◌≡◌, ℕ, ◌+◌, ◌*◌, ◌/◌, ◌%◌, ◌^◌, ◌<◌, Some, refl, arith}
use Rattle.std.proofs.lemmas.Grind.{common_steps}
use Rattle.rv_word.specs.Fields.{extended}
use Rattle.rv_word.specs.Table.{decode_of}
use Rattle.rv_word.specs.Words.{word_of, IsExtended, IsJump}
use Rattle.tramp_spec.specs.Jumps.{distance, jump_word}
use Rattle.rv_word.specs.declared.instr.Instr.TheVariants.{Lui, Addiw, Jal, Branch, Load, Store, OpImm}
use Rattle.rv_word.specs.declared.instr.LoadOp.TheVariants.{Ld}
use Rattle.rv_word.specs.declared.instr.StoreOp.TheVariants.{Sd}
use Rattle.rv_word.specs.declared.instr.ImmOp.TheVariants.{Addi}
use Rattle.rv_word.specs.declared.instr.BranchOp.TheVariants.{Beq, Bgeu}

pub jal_reads : (d : ℕ) → IsJump 21 d → decode_of (word_of (Jal 0 d)) ≡ Some (Jal 0 d)
unfolding decode_of
jal_reads d h = grind (arith, common_steps)

pub lui_reads : (r n : ℕ) → r < 32 → IsExtended 32 n → n % 4096 ≡ 0 → decode_of (word_of (Lui r n)) ≡ Some (Lui r n)
unfolding decode_of
lui_reads r n l h e = grind (arith, common_steps)

pub addiw_reads : (r q n : ℕ) → r < 32 → q < 32 → IsExtended 12 n → decode_of (word_of (Addiw r q n)) ≡ Some (Addiw r q n)
unfolding decode_of
addiw_reads r q n l m h = grind (arith, common_steps)

pub addi_reads : (r q n : ℕ) → r < 32 → q < 32 → IsExtended 12 n → decode_of (word_of (OpImm Addi r q n)) ≡ Some (OpImm Addi r q n)
unfolding decode_of
addi_reads r q n l m h = grind (arith, common_steps)

pub ld_reads : (r q n : ℕ) → r < 32 → q < 32 → IsExtended 12 n → decode_of (word_of (Load Ld r q n)) ≡ Some (Load Ld r q n)
unfolding decode_of
ld_reads r q n l m h = grind (arith, common_steps)

pub sd_reads : (r q n : ℕ) → r < 32 → q < 32 → IsExtended 12 n → decode_of (word_of (Store Sd r q n)) ≡ Some (Store Sd r q n)
unfolding decode_of
sd_reads r q n l m h = grind (arith, common_steps)

pub beq_reads : (r q n : ℕ) → r < 32 → q < 32 → IsJump 13 n → decode_of (word_of (Branch Beq r q n)) ≡ Some (Branch Beq r q n)
unfolding decode_of
beq_reads r q n l m h = grind (arith, common_steps)

pub bgeu_reads : (r q n : ℕ) → r < 32 → q < 32 → IsJump 13 n → decode_of (word_of (Branch Bgeu r q n)) ≡ Some (Branch Bgeu r q n)
unfolding decode_of
bgeu_reads r q n l m h = grind (arith, common_steps)

-- a jump leads somewhere, whatever it was made for
pub jump_reads : (from to : ℕ) → (n : ℕ) × (offset : ℕ) × (decode_of (jump_word from to) ≡ Some (Jal 0 offset)) × ((from + offset) % 2 ^ 64 ≡ n)
unfolding decode_of
jump_reads from to =
    let offset = extended 21 (distance from to % 2 ^ 21 / 2 * 2) in
    let is : decode_of (word_of (Jal 0 (distance from to))) ≡ Some (Jal 0 offset) = jal_is (distance from to) in
    ((from + offset) % 2 ^ 64, offset, is, refl)
  where
    jal_is : (d : ℕ) → decode_of (word_of (Jal 0 d)) ≡ Some (Jal 0 (extended 21 (d % 2 ^ 21 / 2 * 2)))
    jal_is d = grind (arith, common_steps)
