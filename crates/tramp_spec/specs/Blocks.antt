-- The shapes of blocks, and what is known of a hart that stands in one.
use Rattle.std.specs.Prelude.{◌≡◌, ℕ, ◌+◌, ◌-◌, ◌*◌, ◌%◌, ◌==◌, ◌||◌, nat_le, if◌then◌else◌, Bool, true, false, Option, Some, None, List, [], ◌∷◌, ◌++◌, length}
use Rattle.rv_word.specs.Names.{jump_of}
use Rattle.rv_word.specs.Table.{decode_of}
use Rattle.rv_word.specs.Words.{word_of}
use Rattle.rv_word.specs.Plain.{Words, program_word}
use Rattle.rv_word.specs.declared.instr.Instr.TheVariants.{Load, Store}
use Rattle.rv_word.specs.declared.instr.LoadOp.TheVariants.{Ld}
use Rattle.rv_word.specs.declared.instr.StoreOp.TheVariants.{Sd}
use Rattle.tramp_spec.specs.Marks.{tool, is_leave}
use Rattle.tramp_spec.specs.Jumps.{jump_word, reaches}
use Rattle.tramp_spec.specs.MovedWords.{moved_of, rebuilt}
use Rattle.tramp_spec.specs.Bodies.{Harmless}
use Rattle.tramp_spec.specs.declared.mark.MarkedWord.{MarkedWord}

-- ---- the words of blocks

-- the address of a base block's tail, to which a jump, a head or a chain leads at its end
abbrev pub tail_of : ℕ → ℕ
tail_of at = at + 8

-- the address of its moved words
abbrev pub moved_at : ℕ → ℕ
moved_at at = at + 12

-- a base block: x5 is saved, its head leads to the newest mini block or to the tail, x5 is restored there, and the moved words
-- follow
abbrev pub base_words : ℕ → ℕ → List MarkedWord → List MarkedWord
base_words at head moved = tool (word_of (Store Sd 0 5 8)) ∷ tool (jump_word (at + 4) head) ∷ tool (word_of (Load Ld 5 0 8)) ∷ moved

-- a mini block: its body, and a jump to the next older mini block or to the tail
abbrev pub mini_words : ℕ → List MarkedWord → ℕ → List MarkedWord
mini_words at body next = body ++ tool (jump_word (at + 4 * length body) next) ∷ []

-- ---- shapes

-- these words are a base block at `at`, for the program's word at a point; its head is free
pub record IsBase (program : Words) (point at head : ℕ) (words : List MarkedWord) : Type 0 where
  pub aligned : at % 4 ≡ 0
  pub word : ℕ
  pub here : program_word program point ≡ Some word
  pub moved : List MarkedWord
  pub movable : moved_of word point (moved_at at) ≡ Some moved
  pub reached : reaches (at + 4) head ≡ true
  pub is : words ≡ base_words at head moved

-- these words are a mini block at `at`; its body is harmless, and its next is free
pub record IsMini (at next : ℕ) (words : List MarkedWord) : Type 0 where
  pub aligned : at % 4 ≡ 0
  pub body : List MarkedWord
  pub harmless : Harmless body
  pub reached : reaches (at + 4 * length body) next ≡ true
  pub is : words ≡ mini_words at body next

-- ---- a hart in a block, at its word number i

-- x5 stands saved in the bank, and not in its register
abbrev pub is_saved : Bool → ℕ → Bool
is_saved true i = (i == 1) || (i == 2)
is_saved false i = true

-- the register that is being rebuilt, `word` being the program's
abbrev pub rebuilding : Bool → ℕ → ℕ → Option ℕ
rebuilding true word i = if nat_le 3 i then rebuilt word (i - 3) else None
rebuilding false word i = None

abbrev pub target_or : Option ℕ → ℕ → ℕ
target_or None point = point
target_or (Some target) point = target

-- the home of a place where this word stands in a block of a point: the point, but for a Leave word its target
abbrev pub home_by : MarkedWord → ℕ → ℕ → ℕ
home_by w at point = if is_leave w.mark then target_or (jump_of (decode_of w.word) at) point else point
