-- Where a hart stands among the blocks.
use Rattle.std.specs.Prelude.{ℕ, ◌-◌, ◌*◌, ◌/◌, ◌==◌, ◌&&◌, if◌then◌else◌, Bool, false, Option, Some, None, List, find}
use Rattle.std.specs.FinMap.{get}
use Rattle.rv_word.specs.Memory.{in_range}
use Rattle.rv_word.specs.Plain.{Words, program_word}
use Rattle.rv_word.specs.Registers.{reg}
use Rattle.tramp_spec.specs.Codes.{Code}
use Rattle.tramp_spec.specs.Banks.{saved_x5}
use Rattle.tramp_spec.specs.Blocks.{is_saved, rebuilding, home_by}
use Rattle.tramp_spec.specs.Harts.{Hart}
use Rattle.tramp_spec.specs.declared.mark.MarkedWord.{MarkedWord}
use Rattle.machine.specs.Cores.{Row}

-- an address is in a block
abbrev pub holds : Row → ℕ → Bool
holds r a = in_range r.at (4 * r.len) a

-- the block at an address
abbrev pub block_at : List Row → ℕ → Option Row
block_at rows a = find (λ r. holds r a) rows

-- the number of the word at an address in its block
abbrev pub word_no : Row → ℕ → ℕ
word_no r a = (a - r.at) / 4

-- ---- homes

abbrev pub home_of_word : Option MarkedWord → ℕ → ℕ → ℕ
home_of_word None a point = point
home_of_word (Some w) a point = home_by w a point

abbrev pub home_in : Option Row → Code → ℕ → ℕ
home_in None code a = a
home_in (Some r) code a = home_of_word (get code a) a r.point

-- The home of an address: where the unpatched program stands.
abbrev pub home_of : Code → List Row → ℕ → ℕ
home_of code rows a = home_in (block_at rows a) code a

-- the pc of the unpatched program's hart
abbrev pub program_pc : Code → List Row → Hart → ℕ
program_pc code rows x = if x.inside then home_of code rows x.pc else x.pc

-- ---- registers

abbrev pub saved_in : Option Row → ℕ → Bool
saved_in None a = false
saved_in (Some r) a = is_saved r.base (word_no r a)

-- x5 of the hart stands saved in its bank
abbrev pub has_saved : List Row → Hart → Bool
has_saved rows x = x.inside && saved_in (block_at rows x.pc) x.pc

abbrev pub rebuilding_by : Option ℕ → Row → ℕ → Option ℕ
rebuilding_by None r a = None
rebuilding_by (Some word) r a = rebuilding r.base word (word_no r a)

abbrev pub rebuilding_in : Option Row → Words → ℕ → Option ℕ
rebuilding_in None program a = None
rebuilding_in (Some r) program a = rebuilding_by (program_word program r.point) r a

-- the register of the hart that is being rebuilt
abbrev pub rebuilding_of : Words → List Row → Hart → Option ℕ
rebuilding_of program rows x = if x.inside then rebuilding_in (block_at rows x.pc) program x.pc else None

-- register r of the hart, as the program has it
abbrev pub program_register : List Row → Hart → ℕ → ℕ
program_register rows x r = if has_saved rows x && (r == 5) then saved_x5 x.bank else reg x.regs r
