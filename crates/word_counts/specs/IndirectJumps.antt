-- The indirect jumps of a run that lead into the middle of a block. Where there are none, and all blocks are counted, all ticks are told.
use Rattle.std.specs.Prelude.{ℕ, ◌&&◌, not, Bool, List, is_some}
use Rattle.std.specs.Option.{option_and_then}
use Rattle.pn_types.specs.declared.code.Proc.{Proc}
use Rattle.pn_types.specs.declared.image.Image.{Image}
use Rattle.rv_word.specs.Plain.{PlainHart, program_word}
use Rattle.rv_word.specs.Table.{decode_of}
use Rattle.rv_mem.specs.Start.{program_of}
use Rattle.rv_exec.specs.Start.{start}
use Rattle.block_count.specs.Heads.{begins}
use Rattle.word_flow.specs.Transfers.{count_turns, is_indirect_jump}

-- the hart, which was x and is y after its turn, was at an indirect jump, and goes on at a word of the text at which no block begins
abbrev pub is_jump_into_block : Image → List Proc → PlainHart → PlainHart → Bool
is_jump_into_block image procs x y =
    not (is_some y.stop) && is_indirect_jump (option_and_then decode_of (program_word (program_of image) x.pc))
    && is_some (program_word (program_of image) y.pc) && not (begins image procs y.pc)

-- how many turns of a run are such jumps
abbrev pub run_jumps_into_blocks : Image → List Proc → ℕ → List ℕ → ℕ
run_jumps_into_blocks image procs n turns = count_turns (is_jump_into_block image procs) (program_of image) turns (start image n)
