-- The words of the tool's code are read as its instructions.
use Rattle.std.proofs.Common.{◌≡◌, ℕ, ◌+◌, ◌*◌, ◌%◌, ◌^◌, ◌<◌, Some, arith}
use Rattle.std.proofs.lemmas.Grind.{common_steps}
use Rattle.rv_word.specs.Table.{decode_of}
use Rattle.rv_word.specs.Words.{word_of, IsExtended, IsJump}
use Rattle.rv_word.specs.declared.instr.Instr.TheVariants.{Branch, Op}
use Rattle.rv_word.specs.declared.instr.RegOp.TheVariants.{Add, Sub}
use Rattle.rv_word.specs.declared.instr.BranchOp.TheVariants.{Bne, Bltu}
use Rattle.tramp_spec.specs.Statements.{high_part, low_part, minus_one}

pub add_reads : decode_of (word_of (Op Add 5 31 5)) ≡ Some (Op Add 5 31 5)
unfolding decode_of
add_reads = grind (arith, common_steps)

pub sub_reads : decode_of (word_of (Op Sub 5 31 5)) ≡ Some (Op Sub 5 31 5)
unfolding decode_of
sub_reads = grind (arith, common_steps)

pub bne_reads : (r q n : ℕ) → r < 32 → q < 32 → IsJump 13 n → decode_of (word_of (Branch Bne r q n)) ≡ Some (Branch Bne r q n)
unfolding decode_of
bne_reads r q n l m h = grind (arith, common_steps)

pub bltu_reads : (r q n : ℕ) → r < 32 → q < 32 → IsJump 13 n → decode_of (word_of (Branch Bltu r q n)) ≡ Some (Branch Bltu r q n)
unfolding decode_of
bltu_reads r q n l m h = grind (arith, common_steps)

-- numbers of these words
pub high_fits : (s : ℕ) → s < 4096 → IsExtended 32 (high_part s)
high_fits s h = grind (arith, common_steps)

pub high_even : (s : ℕ) → high_part s % 4096 ≡ 0
high_even s = omega arith

pub low_fits : (s : ℕ) → IsExtended 12 (low_part s)
low_fits s = grind (arith, common_steps)

pub minus_fits : IsExtended 12 minus_one
minus_fits = omega arith

pub over_fits : (n : ℕ) → n < 1024 → IsJump 13 (4 * n)
over_fits n h = (omega arith, omega arith)

-- the two parts of a slot's address
pub at_slot : (s : ℕ) → s < 4096 → (high_part s + low_part s) % 2 ^ 64 ≡ 8 * s
at_slot s h = omega arith
