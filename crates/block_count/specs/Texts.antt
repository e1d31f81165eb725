-- The text of counted blocks: a line of numbers, the lines of the harts, a line for each block, and how many blocks were covered.
use Rattle.std.specs.Prelude.{ℕ, ◌==◌, not, Bool, false, Option, Some, None, is_some, is_none, List, ◌++◌, length, codes, count_by, flat_map, map, sum}
use Rattle.std.specs.List.{zip}
use Rattle.std.specs.Fmt.{decimal}
use Rattle.block_count.specs.declared.block_head.BlockHead.{BlockHead}
use Rattle.block_count.specs.declared.counts.Counts.{Counts}
use Rattle.block_count.specs.declared.counts.HartStop.{HartStop}
use Rattle.pn_types.specs.Texts.{address}
use Rattle.report.specs.Text.{hart_lines}
use Rattle.report.specs.declared.parts.HartPart.{HartPart}

-- the numbers of blocks, of harts, of their ticks together, and of the blocks whose first word can't be moved
abbrev pub numbers_line : ℕ → ℕ → ℕ → ℕ → List ℕ
numbers_line blocks harts ticks unmovable =
    codes "blocks " ++ decimal blocks
    ++ codes " harts " ++ decimal harts ++ codes " ticks " ++ decimal ticks ++ codes " unmovable " ++ decimal unmovable ++ codes "\n"

-- what a report says of a hart with its ticks and how it ended
abbrev pub part_of : ℕ × HartStop → HartPart
part_of p = record { ticks = p.0; stop = p.1.stop; pc = p.1.pc }

abbrev pub parts_of : Counts → List HartPart
parts_of r = map part_of (zip r.ticks r.stops)

-- how often a block was executed; nothing is known where its first word can't be moved
abbrev pub count_text : Option ℕ → List ℕ
count_text None = codes " unmovable\n"
count_text (Some n) = codes " count " ++ decimal n ++ codes "\n"

-- the line of a block: its address, how many words it has, and how often it was executed
abbrev pub block_line : BlockHead × Option ℕ → List ℕ
block_line b = codes "block " ++ address b.0.at ++ codes " words " ++ decimal b.0.words ++ count_text b.1

-- a block was executed
abbrev pub is_covered : Option ℕ → Bool
is_covered None = false
is_covered (Some n) = not (n == 0)

-- how many blocks were executed, of those that are counted
abbrev pub covered_line : List (Option ℕ) → List ℕ
covered_line counts =
    codes "covered " ++ decimal (count_by is_covered counts) ++ codes " of " ++ decimal (count_by is_some counts) ++ codes "\n"

-- The text of the blocks that begin at these heads, and of what was counted of them.
abbrev pub blocks_text : List BlockHead → Counts → List ℕ
blocks_text heads r =
    numbers_line (length heads) (length r.ticks) (sum r.ticks) (count_by is_none r.counts)
    ++ hart_lines 0 (parts_of r) ++ flat_map block_line (zip heads r.counts) ++ covered_line r.counts
