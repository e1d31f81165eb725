-- The assembler reads the text of a word as this word again.
use Rattle.std.specs.Prelude.{ℕ, ◌≡◌, ◌<◌, ◌^◌, Bool, false, IsSomeAnd, IfSome, IsOk, Some, Ok, List, [], ◌++◌}
use Rattle.rv_word.specs.Names.{has_scratch}
use Rattle.rv_asm.specs.FirstPass.{Placed, blank_draft, judged_line}
use Rattle.rv_asm.specs.Parsing.{LineParts, body_of, line_of}
use Rattle.rv_asm.specs.Registers.{named}
use Rattle.rv_asm.specs.SecondPass.{code_by, word_bytes}
use Rattle.disassembler.specs.Operands.{label_of}
use Rattle.disassembler.specs.Texts.{instruction_text, named_target, word_text}

-- the line's statement, with this number and at this address
abbrev pub placed : ℕ → ℕ → LineParts → Placed
placed number at line = record { line = number; at = at; statement = line.statement; text = line.text }

-- the line has no labels, and at the address its statement has the bytes of the word
abbrev pub IsLineOf : List (List ℕ × ℕ) → ℕ → ℕ → ℕ → LineParts → Type 0
IsLineOf labels number at word line =
    (line.labels ≡ []) × (code_by labels (placed number at line) line.statement ≡ Ok (word_bytes word))

-- a name that stands in the word's text for an address stands for it among the labels
abbrev pub HasTarget : List (List ℕ × ℕ) → ℕ → ℕ → Type 0
HasTarget labels at word = IfSome (named_target at word) (λ address. named (label_of address) labels ≡ Some address)

-- nothing but blanks stands before the comment, if there is one
abbrev pub HasNoCode : List ℕ → Type 0
HasNoCode bytes = body_of bytes ≡ []

-- The text of a word, with nothing but blanks and a comment behind it, is a line of the assembler, whose bytes are those of the word.
abbrev pub LinesAssemble : Type 0
LinesAssemble =
    (labels : List (List ℕ × ℕ)) (number at word : ℕ) (behind : List ℕ)
    → at < 2 ^ 64 → word < 2 ^ 32 → HasTarget labels at word → HasNoCode behind
    → IsSomeAnd (line_of (instruction_text at word ++ behind)) (IsLineOf labels number at word)

-- So it is of the text with the comment on an order.
abbrev pub WordsAssemble : Type 0
WordsAssemble =
    (labels : List (List ℕ × ℕ)) (number at word : ℕ) (behind : List ℕ)
    → at < 2 ^ 64 → word < 2 ^ 32 → HasTarget labels at word → HasNoCode behind
    → IsSomeAnd (line_of (word_text at word ++ behind)) (IsLineOf labels number at word)

-- If the word doesn't name x31, this line may stand in the text, where every program begins, be a procedure open or not.
abbrev pub LinesStandInTexts : Type 0
LinesStandInTexts =
    (number at word : ℕ) (behind : List ℕ) (inside : Bool)
    → word < 2 ^ 32 → has_scratch word ≡ false → HasNoCode behind
    → IsOk (judged_line number blank_draft.section inside (instruction_text at word ++ behind))
