-- What the four marks of words mean.
use Rattle.std.specs.Prelude.{ℕ, ◌&&◌, not, Bool, true, false, Option, Some, None}
use Rattle.rv_word.specs.Table.{decode_of}
use Rattle.rv_word.specs.declared.instr.Instr.{Instr}
use Rattle.rv_word.specs.declared.instr.Instr.TheVariants.{Jal, Jalr}
use Rattle.tramp_spec.specs.declared.mark.Mark.{Mark}
use Rattle.tramp_spec.specs.declared.mark.Mark.TheVariants.{Own, Enter, Tool, Leave}
use Rattle.tramp_spec.specs.declared.mark.MarkedWord.{MarkedWord}

abbrev pub own : ℕ → MarkedWord
own word = record { word = word; mark = Own }

abbrev pub enter : ℕ → MarkedWord
enter word = record { word = word; mark = Enter }

abbrev pub tool : ℕ → MarkedWord
tool word = record { word = word; mark = Tool }

abbrev pub leave : ℕ → MarkedWord
leave word = record { word = word; mark = Leave }

-- The words of the program are ticks, and no others.
abbrev pub is_own : Mark → Bool
is_own Own = true
is_own Enter = false
is_own Tool = false
is_own Leave = false

abbrev pub is_leave : Mark → Bool
is_leave Leave = true
is_leave Own = false
is_leave Enter = false
is_leave Tool = false

abbrev pub jumps : Option Instr → Bool
jumps (Some (Jal rd offset)) = true
jumps (Some (Jalr rd rs1 offset)) = true
jumps (Some i) = false
jumps None = false

-- a word is a jump: jal or jalr
abbrev pub is_jump : ℕ → Bool
is_jump word = jumps (decode_of word)

-- Whether a hart is inside after the word: a jump of the program leaves, Enter enters, Tool stays, Leave leaves.
abbrev pub inside_after : Mark → ℕ → Bool → Bool
inside_after Own word inside = inside && not (is_jump word)
inside_after Enter word inside = true
inside_after Tool word inside = inside
inside_after Leave word inside = false
