-- Where the basic blocks of a program begin, and how many words they have.
use Rattle.std.specs.Prelude.{ℕ, ◌+◌, ◌==◌, ◌&&◌, ◌||◌, not, if◌then◌else◌, Bool, true, false, Option, Some, None, is_some, List, [], ◌∷◌}
use Rattle.std.specs.List.{list_any}
use Rattle.std.specs.Option.{option_map_or}
use Rattle.pn_types.specs.declared.code.Proc.{Proc}
use Rattle.pn_types.specs.declared.image.Image.{Image}
use Rattle.rv_word.specs.Names.{ends_block, jump_of}
use Rattle.rv_word.specs.Table.{decode_of}
use Rattle.rv_mem.specs.Start.{program_of}
use Rattle.block_count.specs.declared.block_head.BlockHead.{BlockHead}

abbrev pub is_instr : ℕ → Bool
is_instr w = is_some (decode_of w)

-- the word at b jumps or branches to a, or a block ends with it and a is the address that follows
abbrev pub opens : ℕ → ℕ → ℕ → Bool
opens w b a = option_map_or (λ target. target == a) (jump_of (decode_of w) b) false || ((b + 4 == a) && ends_block (decode_of w))

-- one of these words does, the first of which stands at b
abbrev pub is_opened : List ℕ → ℕ → ℕ → Bool
is_opened [] b a = false
is_opened (w ∷ ws) b a = opens w b a || is_opened ws (b + 4) a

-- A block begins at an address, where a word that decodes stands there: at the entry, at the start of a procedure, where a word of
-- the text leads, and after one with which a block ends.
abbrev pub begins : Image → List Proc → ℕ → Bool
begins image procs a = (image.entry == a) || (list_any (λ p. p.start == a) procs || is_opened (program_of image).words image.text_at a)

-- how many of these words, the first of which stands at a, belong to the block before them
abbrev pub words_behind : (ℕ → Bool) → List ℕ → ℕ → ℕ
words_behind begin [] a = 0
words_behind begin (w ∷ ws) a = if is_instr w && not (begin a) then 1 + words_behind begin ws (a + 4) else 0

-- the blocks that begin among these words
abbrev pub heads_in : (ℕ → Bool) → List ℕ → ℕ → List BlockHead
heads_in begin [] a = []
heads_in begin (w ∷ ws) a =
    if is_instr w && begin a
    then record { at = a; words = 1 + words_behind begin ws (a + 4) } ∷ heads_in begin ws (a + 4)
    else heads_in begin ws (a + 4)

-- The basic blocks of a program, by ascending address.
abbrev pub heads_of : Image → List Proc → List BlockHead
heads_of image procs = heads_in (begins image procs) (program_of image).words image.text_at
