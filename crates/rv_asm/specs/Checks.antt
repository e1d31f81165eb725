-- Where a statement stands, which numbers fit, and what names x31.
use Rattle.std.specs.Prelude.{◌-◌, ◌%◌, ◌^◌, ◌&&◌, not, Bool, true, false}
use Rattle.rv_word.specs.declared.instr.Instr.{Instr}
use Rattle.rv_word.specs.declared.instr.Instr.TheVariants.{Lui, Auipc, ShiftImm, ShiftImm32}
use Rattle.rv_word.specs.Names.{has_scratch}
use Rattle.rv_word.specs.Words.{word_of as coded}
use Rattle.rv_asm.specs.Numbers.{within, wrapped}
use Rattle.rv_asm.specs.declared.number.Number.{Number}
use Rattle.rv_asm.specs.declared.statement.Section.{Section}
use Rattle.rv_asm.specs.declared.statement.Section.TheVariants as section
use Rattle.rv_asm.specs.declared.statement.ValueWidth.{ValueWidth}
use Rattle.rv_asm.specs.declared.statement.ValueWidth.TheVariants as width
use Rattle.rv_asm.specs.declared.statement.Statement.{Statement}
use Rattle.rv_asm.specs.declared.statement.Statement.TheVariants as the

abbrev pub in_text : Section → Bool
in_text section.Text = true
in_text section.Data = false

-- a value stands in the data, and one of four bytes in the text too
abbrev pub value_stands : ValueWidth → Section → Bool
value_stands width.Word s = true
value_stands width.Byte s = not (in_text s)
value_stands width.Half s = not (in_text s)
value_stands width.Doubleword s = not (in_text s)

-- whether the statement stands in the section, a procedure being open or not
unfoldable pub may_stand : Section → Bool → Statement → Bool
may_stand s inside the.Empty = true
may_stand s inside the.Text = true
may_stand s inside the.Data = true
may_stand s inside the.Procedure = in_text s && not inside
may_stand s inside the.End = in_text s && inside
may_stand s inside (the.Object n) = not (in_text s)
may_stand s inside the.Module = true
may_stand s inside (the.Value w n) = value_stands w s
may_stand s inside (the.Zeros n) = not (in_text s)
may_stand s inside (the.Align n) = not (in_text s)
may_stand s inside the.Ascii = not (in_text s)
may_stand s inside instruction = in_text s

-- the number of b bits, with or without a sign
abbrev pub value_fits : ValueWidth → Number → Bool
value_fits width.Byte n = within (2 ^ 7) (2 ^ 8 - 1) n
value_fits width.Half n = within (2 ^ 15) (2 ^ 16 - 1) n
value_fits width.Word n = within (2 ^ 31) (2 ^ 32 - 1) n
value_fits width.Doubleword n = within (2 ^ 63) (2 ^ 64 - 1) n

-- the number fits its place in the instruction: 20 bits without a sign, the bits of a shift, or 12 bits with a sign
abbrev pub immediate_fits : Instr → Number → Bool
immediate_fits (Lui rd imm) n = within 0 0xfffff n
immediate_fits (Auipc rd imm) n = within 0 0xfffff n
immediate_fits (ShiftImm op rd rs1 by) n = within 0 63 n
immediate_fits (ShiftImm32 op rd rs1 by) n = within 0 31 n
immediate_fits i n = within 2048 2047 n

-- the numbers of the statement fit their places
unfoldable pub numbers_fit : Statement → Bool
numbers_fit (the.Object n) = within 0 (2 ^ 64 - 1) n
numbers_fit (the.Value w n) = value_fits w n
numbers_fit (the.Zeros n) = within 0 (2 ^ 64 - 1) n
numbers_fit (the.Align n) = within 0 12 n
numbers_fit (the.Numbered i n) = immediate_fits i n
numbers_fit (the.LoadNumber rd n) = within (2 ^ 31) (2 ^ 31 - 1) n
numbers_fit s = true

-- a value in the text is a word that names x31
abbrev pub value_has_x31 : ValueWidth → Section → Number → Bool
value_has_x31 width.Word s n = in_text s && has_scratch (wrapped n % 2 ^ 32)
value_has_x31 w s n = false

-- the statement names x31 in the text: its word does, and of `li` and `la` a `lui` of their register
unfoldable pub has_x31 : Section → Statement → Bool
has_x31 s (the.Value w n) = value_has_x31 w s n
has_x31 s (the.Instruction i) = has_scratch (coded i)
has_x31 s (the.Numbered i n) = has_scratch (coded i)
has_x31 s (the.Jump i) = has_scratch (coded i)
has_x31 s (the.LoadNumber rd n) = has_scratch (coded (Lui rd 0))
has_x31 s (the.LoadAddress rd) = has_scratch (coded (Lui rd 0))
has_x31 s other = false
