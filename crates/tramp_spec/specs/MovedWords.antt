-- The words that do at another place what a word of the program does at its own: those of the word at p, from the address
-- `to` on. One of them is a tick.
use Rattle.std.specs.Prelude.{ℕ, ◌+◌, ◌%◌, ◌^◌, ◌==◌, ◌&&◌, nat_le, nat_lt, if◌then◌else◌, Bool, Option, Some, None, List, [], ◌∷◌, ◌++◌, map}
use Rattle.rv_word.specs.Table.{decode_of}
use Rattle.rv_word.specs.Values.{wrap}
use Rattle.rv_word.specs.Words.{word_of}
use Rattle.rv_word.specs.declared.instr.Instr.{Instr}
use Rattle.rv_word.specs.declared.instr.Instr.TheVariants.{Lui, Auipc, Jal, Jalr, Branch, OpImm, Addiw}
use Rattle.rv_word.specs.declared.instr.ImmOp.TheVariants.{Addi}
use Rattle.rv_word.specs.declared.instr.BranchOp.{BranchOp}
use Rattle.tramp_spec.specs.Marks.{own, tool, leave}
use Rattle.tramp_spec.specs.Jumps.{jump_word, reaches, upper, lower, is_signed_word, put_number}
use Rattle.tramp_spec.specs.declared.mark.MarkedWord.{MarkedWord}

abbrev pub tools : List Instr → List MarkedWord
tools is = map (λ i. tool (word_of i)) is

-- ---- the table: the words of each kind of instruction. `next` is the address of the program's next word; `to`, `second` and
-- `third` are those of the first three moved words

-- auipc, whose value is v
abbrev pub moved_auipc : ℕ → ℕ → ℕ → ℕ → List MarkedWord
moved_auipc rd v next third = tool (word_of (Lui rd (upper v))) ∷ own (word_of (Addiw rd rd (lower v))) ∷ leave (jump_word third next) ∷ []

-- jal that keeps no address
abbrev pub moved_jump : ℕ → ℕ → List MarkedWord
moved_jump target to = own (jump_word to target) ∷ []

-- jal that keeps the next word's address in rd
abbrev pub moved_jal : ℕ → ℕ → ℕ → ℕ → List MarkedWord
moved_jal rd target next third = tools (put_number rd next) ++ own (jump_word third target) ∷ []

-- jalr that keeps the next word's address in rd: the target is computed first, since rd may be rs1
abbrev pub moved_jalr : ℕ → ℕ → ℕ → ℕ → List MarkedWord
moved_jalr rd rs1 offset next = tools (OpImm Addi 31 rs1 offset ∷ put_number rd next) ++ own (word_of (Jalr 0 31 0)) ∷ []

-- a branch
abbrev pub moved_branch : BranchOp → (rs1 rs2 target next second third : ℕ) → List MarkedWord
moved_branch op rs1 rs2 target next second third =
    own (word_of (Branch op rs1 rs2 8)) ∷ leave (jump_word second next) ∷ leave (jump_word third target) ∷ []

-- any other word, also one that is no instruction
abbrev pub moved_plain : ℕ → ℕ → ℕ → List MarkedWord
moved_plain word next second = own word ∷ leave (jump_word second next) ∷ []

-- ---- which words can be moved

-- a jump at `from` can have the target
abbrev pub is_target : ℕ → ℕ → Bool
is_target from target = (target % 4 == 0) && (nat_lt target (2 ^ 31) && reaches from target)

abbrev pub if_movable : Bool → List MarkedWord → Option (List MarkedWord)
if_movable test words = if test then Some words else None

-- the word at p, by its instruction
abbrev pub moved_with : Option Instr → (word p next to second third : ℕ) → Option (List MarkedWord)
moved_with (Some (Auipc rd imm)) word p next to second third =
    if_movable (is_signed_word (wrap (p + imm))) (moved_auipc rd (wrap (p + imm)) next third)
moved_with (Some (Jal rd offset)) word p next to second third =
    if rd == 0 then if_movable (is_target to (wrap (p + offset))) (moved_jump (wrap (p + offset)) to)
    else if_movable (is_target third (wrap (p + offset))) (moved_jal rd (wrap (p + offset)) next third)
moved_with (Some (Jalr rd rs1 offset)) word p next to second third =
    if rd == 0 then Some (own word ∷ []) else Some (moved_jalr rd rs1 offset next)
moved_with (Some (Branch op rs1 rs2 offset)) word p next to second third =
    if_movable (is_target third (wrap (p + offset))) (moved_branch op rs1 rs2 (wrap (p + offset)) next second third)
moved_with (Some i) word p next to second third = Some (moved_plain word next second)
moved_with None word p next to second third = Some (moved_plain word next second)

-- addresses have 64 bits
abbrev pub moved_decoded : Option Instr → (word p to : ℕ) → Option (List MarkedWord)
moved_decoded o word p to = moved_with o word p (wrap (p + 4)) to (wrap (to + 4)) (wrap (to + 8))

-- The moved words; none where the word can't be moved.
unfoldable pub moved_of : ℕ → ℕ → ℕ → Option (List MarkedWord)
moved_of word p to = moved_decoded (decode_of word) word p to

-- how many they are, whatever the addresses
abbrev pub moved_count : Option Instr → ℕ
moved_count (Some (Auipc rd imm)) = 3
moved_count (Some (Jal rd offset)) = if rd == 0 then 1 else 3
moved_count (Some (Jalr rd rs1 offset)) = if rd == 0 then 1 else 4
moved_count (Some (Branch op rs1 rs2 offset)) = 3
moved_count (Some i) = 2
moved_count None = 2

-- ---- places among them

abbrev pub own_place_decoded : Option Instr → ℕ
own_place_decoded (Some (Auipc rd imm)) = 1
own_place_decoded (Some (Jal rd offset)) = if rd == 0 then 0 else 2
own_place_decoded (Some (Jalr rd rs1 offset)) = if rd == 0 then 0 else 3
own_place_decoded (Some i) = 0
own_place_decoded None = 0

-- The place of the tick among the moved words.
unfoldable pub own_place : ℕ → ℕ
own_place word = own_place_decoded (decode_of word)

-- the register, while the hart stands at a place from `first` to `last`
abbrev pub between : ℕ → ℕ → ℕ → ℕ → Option ℕ
between first last j rd = if nat_le first j && nat_le j last then Some rd else None

abbrev pub rebuilt_decoded : Option Instr → ℕ → Option ℕ
rebuilt_decoded (Some (Auipc rd imm)) j = between 0 1 j rd
rebuilt_decoded (Some (Jal rd offset)) j = if rd == 0 then None else between 0 2 j rd
rebuilt_decoded (Some (Jalr rd rs1 offset)) j = if rd == 0 then None else between 1 3 j rd
rebuilt_decoded (Some i) j = None
rebuilt_decoded None j = None

-- The register that is being rebuilt where a hart stands at moved word j: rd, from its lui to the tick.
unfoldable pub rebuilt : ℕ → ℕ → Option ℕ
rebuilt word j = rebuilt_decoded (decode_of word) j
