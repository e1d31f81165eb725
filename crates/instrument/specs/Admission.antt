-- How the sites of a plan are placed: by ascending address, each with the lowest rooms, up to the first that has none.
use Rattle.std.specs.Prelude.{ℕ, ◌+◌, if◌then◌else◌, true, false, Option, Some, None, Result, Ok, Err, List, [], ◌∷◌, ◌++◌, length, find, sum_by}
use Rattle.pn_types.specs.declared.plan.Site.{Site}
use Rattle.pn_types.specs.declared.plan.Var.{Var}
use Rattle.rv_word.specs.Plain.{Words, program_word}
use Rattle.rv_word.specs.Table.{decode_of}
use Rattle.tramp_spec.specs.Blocks.{base_words, mini_words, tail_of, moved_at}
use Rattle.tramp_spec.specs.MovedWords.{moved_of, moved_count}
use Rattle.tramp_spec.specs.Statements.{body_of}
use Rattle.tramp_spec.specs.declared.block.Block.{Block}
use Rattle.tramp_spec.specs.declared.mark.MarkedWord.{MarkedWord}
use Rattle.instrument.specs.Books.{Book, base_room, is_base_of, with_blocks}
use Rattle.instrument.specs.Fits.{room_for}
use Rattle.instrument.specs.declared.number.Refused.{Refused}
use Rattle.instrument.specs.declared.number.Refused.TheVariants.{NoRoom, Unmovable}
use Rattle.instrument.specs.declared.room.Room.{Room}

-- ---- costs

-- a base block has three words and those of the moved word
abbrev pub base_len : ℕ → ℕ
base_len word = 3 + moved_count (decode_of word)

-- ---- slots: the variables' follow each other, a counter having one and a timer two

abbrev pub slots_of_var : Var → ℕ
slots_of_var v = if v.timer then 2 else 1

abbrev pub slot_count : List Var → ℕ
slot_count vars = sum_by slots_of_var vars

abbrev pub slots_from : ℕ → List Var → List ℕ
slots_from slot [] = []
slots_from slot (v ∷ vars) = slot ∷ slots_from (slot + slots_of_var v) vars

-- ---- blocks

abbrev pub a_base : ℕ → ℕ → List MarkedWord → Block
a_base point at moved = record { point = point; at = at; words = base_words at (tail_of at) moved; base = true }

-- where it leads on to is set when it is written; until then this is its own address
abbrev pub a_mini : ℕ → ℕ → List MarkedWord → Block
a_mini point at body = record { point = point; at = at; words = mini_words at body at; base = false }

-- ---- a site

abbrev pub rooms_with : Option Block → List Room → List Room
rooms_with None rooms = rooms
rooms_with (Some b) rooms = rooms ++ base_room b ∷ []

-- the mini block, after the base block
abbrev pub with_mini_at : Option ℕ → ℕ → ℕ → List MarkedWord → Option Block → Book → Result Book Refused
with_mini_at None owner point body base book = Err (NoRoom (length body + 1))
with_mini_at (Some at) owner point body base book = Ok (with_blocks owner (record { base = base; mini = a_mini point at body }) book)

abbrev pub with_mini : Words → ℕ → ℕ → List MarkedWord → Option Block → Book → Result Book Refused
with_mini program owner point body base book =
    with_mini_at (room_for program (rooms_with base book.rooms) (length body + 1)) owner point body base book

-- the base block, of the program's word
abbrev pub with_moved : Option (List MarkedWord) → Words → ℕ → ℕ → ℕ → List MarkedWord → Book → Result Book Refused
with_moved None program at owner point body book = Err (Unmovable point)
with_moved (Some moved) program at owner point body book = with_mini program owner point body (Some (a_base point at moved)) book

abbrev pub with_base_at : Option ℕ → Words → ℕ → ℕ → ℕ → List MarkedWord → Book → Result Book Refused
with_base_at None program word owner point body book = Err (NoRoom (base_len word))
with_base_at (Some at) program word owner point body book = with_moved (moved_of word point (moved_at at)) program at owner point body book

abbrev pub with_base : Option ℕ → Words → ℕ → ℕ → List MarkedWord → Book → Result Book Refused
with_base None program owner point body book = Err (Unmovable point)
with_base (Some word) program owner point body book =
    with_base_at (room_for program book.rooms (base_len word)) program word owner point body book

-- a base block is placed where the point has none
abbrev pub with_site_by : Option Room → Words → ℕ → ℕ → List MarkedWord → Book → Result Book Refused
with_site_by (Some base) program owner point body book = with_mini program owner point body None book
with_site_by None program owner point body book = with_base (program_word program point) program owner point body book

abbrev pub with_site : Words → ℕ → List ℕ → Site → Book → Result Book Refused
with_site program owner slots s book = with_site_by (find (is_base_of s.at) book.rooms) program owner s.at (body_of slots s.stmts) book

-- ---- all sites

abbrev pub and_then : Result Book Refused → (Book → Result Book Refused) → Result Book Refused
and_then (Err refused) more = Err refused
and_then (Ok book) more = more book

-- Each site in turn; where one is refused, all are.
abbrev pub with_sites : Words → ℕ → List ℕ → List Site → Book → Result Book Refused
with_sites program owner slots [] book = Ok book
with_sites program owner slots (s ∷ sites) book = and_then (with_site program owner slots s book) (with_sites program owner slots sites)
