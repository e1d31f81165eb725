-- When numbers tell all ticks of a run: where harts come to each word that isn't counted from the word before alone.
use Rattle.std.specs.Prelude.{ℕ, ◌≡◌, ◌+◌, ◌*◌, ◌^◌, ◌<◌, ◌==◌, ◌&&◌, ◌⊎◌, not, if◌then◌else◌, Bool, true, false, Option, Some, None, is_some, List, [], ◌∷◌, length, slice_get, count_by}
use Rattle.std.specs.Option.{option_map_or}
use Rattle.pn_types.specs.declared.image.Image.{Image}
use Rattle.rv_word.specs.Names.{ends_block}
use Rattle.rv_word.specs.Plain.{Words, PlainHart, Plain, plain, program_word}
use Rattle.rv_word.specs.Table.{decode_of}
use Rattle.rv_word.specs.declared.instr.Instr.{Instr}
use Rattle.rv_word.specs.declared.instr.Instr.TheVariants.{Jalr}
use Rattle.rv_mem.specs.Start.{program_of}
use Rattle.rv_exec.specs.Run.{executions, trace, IsLegal}
use Rattle.rv_exec.specs.Start.{start}
use Rattle.word_flow.specs.Executions.{run_ticks}
use Rattle.word_flow.specs.Laws.{run_told_ticks}

-- ---- turns

-- 1 where the hart that takes a turn passes a test, with what it is before and after it, and else 0
abbrev pub count_turn : (PlainHart → PlainHart → Bool) → Option PlainHart → Option PlainHart → ℕ
count_turn p (Some x) (Some y) = if p x y then 1 else 0
count_turn p (Some x) None = 0
count_turn p None y = 0

-- how many of these turns pass a test
abbrev pub count_turns : (PlainHart → PlainHart → Bool) → Words → List ℕ → Plain → ℕ
count_turns p t [] s = 0
count_turns p t (h ∷ hs) s = count_turn p (slice_get s.harts h) (slice_get (plain t h s).harts h) + count_turns p t hs (plain t h s)

-- ---- transfers of control

-- a jump to an address that a register holds
abbrev pub is_indirect_jump : Option Instr → Bool
is_indirect_jump None = false
is_indirect_jump (Some (Jalr rd rs1 offset)) = true
is_indirect_jump (Some i) = false

-- the hart is at the word before a, and no block ends with that word
abbrev pub falls_through_to : Words → ℕ → PlainHart → Bool
falls_through_to t a x = option_map_or (λ w. not (ends_block (decode_of w))) (program_word t x.pc) false && (x.pc + 4 == a)

-- the hart, which was x and is y after its turn, goes on at a, and didn't fall through to it
abbrev pub is_transfer_to : Words → ℕ → PlainHart → PlainHart → Bool
is_transfer_to t a x y = not (is_some y.stop) && (y.pc == a) && not (falls_through_to t a x)

-- how many turns of a run transfer control to a
abbrev pub run_transfers : Image → ℕ → List ℕ → ℕ → ℕ
run_transfers image n turns a = count_turns (is_transfer_to (program_of image) a) (program_of image) turns (start image n)

-- how many of n harts start at a
abbrev pub harts_starting_at : Image → ℕ → ℕ → ℕ
harts_starting_at image n a = count_by (λ x. x.pc == a) (start image n).harts

-- ---- the law

-- the executions of the word w at a are known: they were counted, or w is no instruction, or harts only fall through to a
abbrev pub IsWordKnown : Image → ℕ → List ℕ → Option ℕ → ℕ → ℕ → Type 0
IsWordKnown image n turns (Some c) w a = c ≡ executions a (trace image n turns)
IsWordKnown image n turns None w a = (decode_of w ≡ None) ⊎ ((harts_starting_at image n a ≡ 0) × (run_transfers image n turns a ≡ 0))

-- so are those of each of these words, the first of which stands at a
abbrev pub AreWordsKnown : Image → ℕ → List ℕ → List (Option ℕ) → List ℕ → ℕ → Type 0
AreWordsKnown image n turns [] [] a = Unit {0}
AreWordsKnown image n turns [] (w ∷ ws) a = ⊥
AreWordsKnown image n turns (c ∷ cs) [] a = ⊥
AreWordsKnown image n turns (c ∷ cs) (w ∷ ws) a = IsWordKnown image n turns c w a × AreWordsKnown image n turns cs ws (a + 4)

-- Where the executions of each word are known, the numbers tell all ticks.
abbrev pub KnownWordsTellAll : Type 0
KnownWordsTellAll =
    (image : Image) (n budget : ℕ) (turns : List ℕ) (counts : List (Option ℕ))
    → (program_of image).at + 4 * length (program_of image).words < 2 ^ 64
    → IsLegal image n budget turns → AreWordsKnown image n turns counts (program_of image).words (program_of image).at
    → run_told_ticks image n turns counts ≡ run_ticks image n turns
