-- For proofs alone: all that a proof about patched programs needs of moved words.
use Rattle.std.specs.Prelude.{◌≡◌, ◌≢◌, ℕ, ◌+◌, ◌*◌, ◌%◌, ◌^◌, ◌<◌, ◌≤◌, ◌⊎◌, Bool, true, false, Option, Some, List, length, Ok, slice_get}
use Rattle.rv_word.specs.Registers.{reg}
use Rattle.rv_word.specs.Names.{jump_of, has_scratch}
use Rattle.rv_word.specs.Table.{decode_of}
use Rattle.rv_word.specs.Exec.{Prog, Outcome, Stops, Goes, exec_of}
use Rattle.tramp_spec.specs.Marks.{own, tool, leave, is_jump}
use Rattle.tramp_spec.specs.Banks.{bank_len}
use Rattle.tramp_spec.specs.Steps.{Bench, stand, step_on}
use Rattle.tramp_spec.specs.MovedWords.{moved_of, own_place, rebuilt}
use Rattle.tramp_spec.specs.declared.mark.MarkedWord.{MarkedWord}

-- registers that the program can't tell apart: x31 is the tool's
abbrev pub Agree : List ℕ → List ℕ → Type 0
Agree a b = (r : ℕ) → r < 31 → reg a r ≡ reg b r

pub record Alike (a b : List ℕ) : Type 0 where
  pub agree : Agree a b
  pub first : length a ≡ 32
  pub second : length b ≡ 32

-- After the tick, which is the moved word of number `place`, the moved words lead to where the word itself leads: at once where
-- the tick jumps, else by a Leave word.
abbrev pub LeadsHome : Bool → ℕ → ℕ → List MarkedWord → ℕ → ℕ → Type 0
LeadsHome jumped place to moved pc home =
    ((jumped ≡ true) × (pc ≡ home))
    ⊎ ((jumped ≡ false) × (j : ℕ) × (left : ℕ) × (place < j) × (j < length moved) × (pc ≡ to + 4 * j)
    × (slice_get moved j ≡ Some (leave left)) × (jump_of (decode_of left) (to + 4 * j) ≡ Some home))

-- the tick at its place, and the program's word at its own, lead to the same
abbrev pub SameStep : Bool → ℕ → ℕ → List MarkedWord → Outcome → Outcome → Type 0
SameStep jumped place to moved (Stops c p) (Stops d q) = (c ≡ d) × (p ≡ q)
SameStep jumped place to moved (Goes pc regs p) (Goes home others q) = (p ≡ q) × Alike regs others × LeadsHome jumped place to moved pc home
SameStep jumped place to moved (Stops c p) (Goes home others q) = ⊥
SameStep jumped place to moved (Goes pc regs p) (Stops d q) = ⊥

abbrev pub bench : List ℕ → List ℕ → Bench
bench regs bank = record { regs = regs; bank = bank }

-- the moved words of the word at a point, from `to` on: at `place` the tick, with what is rebuilt at each place, and whether it jumps
pub record MovesBy (place : ℕ) (rebuilds : ℕ → Option ℕ) (jumped : Bool) (word point to : ℕ) (moved : List MarkedWord) : Type 0 where
  -- the registers at moved word j, from those at the first
  pub before : ℕ → List ℕ → List ℕ
  pub start : (regs : List ℕ) → before 0 regs ≡ regs
  pub size : (j : ℕ) (regs : List ℕ) → j ≤ place → length (before j regs) ≡ length regs
  -- the words before the tick are the tool's, and change registers alone
  pub silent : (j : ℕ) → j < place → (w : ℕ) × (slice_get moved j ≡ Some (tool w))
      × ((regs bank : List ℕ) (ticks : ℕ) → length regs ≡ 32
      → step_on bank_len w ticks (to + 4 * j) (bench (before j regs) bank)
      ≡ Ok (stand (to + 4 * (j + 1)) (bench (before (j + 1) regs) bank)))
  pub like : (j k : ℕ) (regs : List ℕ) → j ≤ place → 0 < k → k < 31 → rebuilds j ≢ Some k → reg (before j regs) k ≡ reg regs k
  -- the tick does what the program's word does
  pub tick : (w : ℕ) × (slice_get moved place ≡ Some (own w)) × (is_jump w ≡ jumped)
      × ((regs others : List ℕ) (h : ℕ) (p : Prog) → Alike regs others
      → SameStep jumped place to moved (exec_of w (to + 4 * place) h (before place regs) p) (exec_of word point h others p))
  -- the words after it are jumps back to the program
  pub leaves : (j : ℕ) → place < j → j < length moved
      → (w home : ℕ) × (slice_get moved j ≡ Some (leave w)) × (jump_of (decode_of w) (to + 4 * j) ≡ Some home)
      × ((x : Bench) (ticks : ℕ) → step_on 0 w ticks (to + 4 * j) x ≡ Ok (stand home x))

abbrev pub Moves : ℕ → ℕ → ℕ → List MarkedWord → Type 0
Moves word = MovesBy (own_place word) (rebuilt word) (is_jump word) word

-- Each word of 32 bits that doesn't name x31 moves, from the text to the tool text after it, where it can be moved at all.
abbrev pub WordsMove : Type 0
WordsMove =
    (word point to : ℕ) (moved : List MarkedWord) → has_scratch word ≡ false → word < 2 ^ 32 → point % 4 ≡ 0 → to % 4 ≡ 0
    → point < 0x60000000 → point < to → to ≤ point + 1048000
    → moved_of word point to ≡ Some moved → Moves word point to moved
