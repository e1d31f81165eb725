-- The counters of a program's blocks, one for each that can be counted, and where each stands in the tool text.
use Rattle.std.specs.Prelude.{ℕ, ◌+◌, Option, Some, None, List, [], ◌∷◌}
use Rattle.std.specs.Option.{option_and_then, option_map}
use Rattle.pn_types.specs.declared.code.Proc.{Proc}
use Rattle.pn_types.specs.declared.image.Image.{Image}
use Rattle.rv_word.specs.Plain.{Words, program_word}
use Rattle.rv_mem.specs.Start.{program_of}
use Rattle.tramp_spec.specs.Banks.{first_slot}
use Rattle.tramp_spec.specs.Blocks.{moved_at}
use Rattle.tramp_spec.specs.Codes.{tool_at}
use Rattle.tramp_spec.specs.MovedWords.{moved_of}
use Rattle.tramp_spec.specs.declared.mark.MarkedWord.{MarkedWord}
use Rattle.block_count.specs.declared.block_head.BlockHead.{BlockHead}
use Rattle.block_count.specs.declared.counted_block.CountedBlock.{CountedBlock}
use Rattle.block_count.specs.Counters.{Counter, counter_at, end_of}
use Rattle.block_count.specs.Heads.{heads_of}

-- the words that do what the program's word does, in a base block at an address; none where it can't be moved there
abbrev pub moved_to : Words → ℕ → ℕ → Option (List MarkedWord)
moved_to program point at = option_and_then (λ word. moved_of word point (moved_at at)) (program_word program point)

-- the counter of a block's first word, on a slot and with its base block at an address
abbrev pub counter_for : Words → ℕ → ℕ → ℕ → Option Counter
counter_for program slot at point = option_map (counter_at point slot at) (moved_to program point at)

-- Each block's counter in turn, from a slot and an address of the tool text on, which may go past its end. A block whose first word
-- can't be moved to there has none, and takes no slot and no word.
abbrev pub counted_from : Words → ℕ → ℕ → List BlockHead → List CountedBlock
counted_from program slot at [] = []
counted_from program slot at (h ∷ heads) = elim (counter_for program slot at h.at) [
  | None ↦ record { head = h; counter = None } ∷ counted_from program slot at heads
  | Some c ↦ record { head = h; counter = Some c } ∷ counted_from program (slot + 1) (end_of c) heads
]

-- The blocks of a program with their counters.
abbrev pub counted_blocks_of : Image → List Proc → List CountedBlock
counted_blocks_of image procs = counted_from (program_of image) first_slot (tool_at (program_of image)) (heads_of image procs)

-- the counters among them
abbrev pub counters_in : List CountedBlock → List Counter
counters_in [] = []
counters_in (s ∷ blocks) = elim (s.counter) [
  | None ↦ counters_in blocks
  | Some c ↦ c ∷ counters_in blocks
]

abbrev pub counters_of : Image → List Proc → List Counter
counters_of image procs = counters_in (counted_blocks_of image procs)
