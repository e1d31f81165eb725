-- The memory and the words that a program starts with.
use Rattle.std.specs.Prelude.{ℕ, zero, suc, ◌+◌, ◌-◌, ◌*◌, List, [], ◌∷◌, ◌++◌, length, replicate}
use Rattle.rv_word.specs.Memory.{Memory, memory_of}
use Rattle.rv_word.specs.Plain.{Words, words_from}
use Rattle.pn_types.specs.declared.image.Segment.{Segment}
use Rattle.pn_types.specs.declared.image.Image.{Image}
use Rattle.pn_types.specs.Images.{text_of}

-- the words of the image's text
abbrev pub program_of : Image → Words
program_of image = words_from image.text_at (text_of image)

-- the first address of the heap
abbrev pub heap_at : ℕ
heap_at = 0x60000000

-- the length of the heap in bytes; no proof counts up to it
unfoldable pub heap_len : ℕ
heap_len = 1048576

-- the first address of the stack of hart h
abbrev pub stack_at : ℕ → ℕ
stack_at h = 0x70000000 + h * 0x20000

-- the length of a stack in bytes; no proof counts up to it
unfoldable pub stack_len : ℕ
stack_len = 65536

-- a segment as a part of memory, its address and the bytes from there: its own, then zeros to its size
abbrev pub segment_part : Segment → ℕ × List ℕ
segment_part s = (s.at, s.bytes ++ replicate (s.size - length s.bytes) 0)

-- the segments as parts of memory
abbrev pub segment_parts : List Segment → List (ℕ × List ℕ)
segment_parts [] = []
segment_parts (s ∷ ss) = segment_part s ∷ segment_parts ss

-- the heap, all zeros
abbrev pub heap_part : ℕ × List ℕ
heap_part = (heap_at, replicate heap_len 0)

-- the stack of hart h, all zeros
abbrev pub stack_part : ℕ → ℕ × List ℕ
stack_part h = (stack_at h, replicate stack_len 0)

-- the stacks of n harts from number h
abbrev pub stack_parts : ℕ → ℕ → List (ℕ × List ℕ)
stack_parts zero h = []
stack_parts (suc n) h = stack_part h ∷ stack_parts n (h + 1)

-- all parts of the memory: the image's segments, the heap, and a stack for each hart
abbrev pub start_parts : Image → ℕ → List (ℕ × List ℕ)
start_parts image harts = segment_parts image.segments ++ heap_part ∷ stack_parts harts 0

-- the memory in which this number of harts starts the image
abbrev pub start_memory : Image → ℕ → Memory
start_memory image harts = memory_of image.text_at image.text_len (start_parts image harts)
