-- How many bytes a statement has, and which bytes of the data.
use Rattle.std.specs.Prelude.{ℕ, ◌-◌, ◌%◌, ◌^◌, ◌==◌, min, if◌then◌else◌, Bool, true, false, List, [], ◌∷◌, length, take, replicate}
use Rattle.std.specs.Int.{w64, to_le_bytes}
use Rattle.rv_asm.specs.Numbers.{within, wrapped}
use Rattle.rv_asm.specs.declared.number.Number.{Number}
use Rattle.rv_asm.specs.declared.statement.ValueWidth.{ValueWidth}
use Rattle.rv_asm.specs.declared.statement.ValueWidth.TheVariants as width
use Rattle.rv_asm.specs.declared.statement.Statement.{Statement}
use Rattle.rv_asm.specs.declared.statement.Statement.TheVariants as the

abbrev pub width_len : ValueWidth → ℕ
width_len width.Byte = 1
width_len width.Half = 2
width_len width.Word = 4
width_len width.Doubleword = 8

-- a power of 2, of which the statement has one up to 2^12
abbrev pub unit_of : ℕ → ℕ
unit_of n = 2 ^ min n 12

-- how many bytes lead from an address to a multiple of 2^n
unfoldable pub padding : ℕ → ℕ → ℕ
padding n at = (unit_of n - at % unit_of n) % unit_of n

-- what an escape's letter stands for
abbrev pub escaped_byte : ℕ → ℕ
escaped_byte byte = if byte == 110 then 10 else if byte == 48 then 0 else byte

-- the bytes of a string, of what is written between its quotes, the next byte being an escape's letter or not
abbrev pub unescaped : Bool → List ℕ → List ℕ
unescaped escaped [] = []
unescaped true (byte ∷ bytes) = escaped_byte byte ∷ unescaped false bytes
unescaped false (byte ∷ bytes) = if byte == 92 then unescaped true bytes else byte ∷ unescaped false bytes

-- `li` is one word where its number has 12 bits with a sign
abbrev pub is_short : Number → Bool
is_short n = within 2048 2047 n

-- how many bytes a statement has at an address
unfoldable pub len_of : ℕ → Statement → List ℕ → ℕ
len_of at (the.Value w n) text = width_len w
len_of at (the.Zeros n) text = n.size
len_of at (the.Align n) text = padding n.size at
len_of at the.Ascii text = length (unescaped false text)
len_of at (the.Instruction i) text = 4
len_of at (the.Numbered i n) text = 4
len_of at (the.Jump i) text = 4
len_of at (the.LoadNumber rd n) text = if is_short n then 4 else 8
len_of at (the.LoadAddress rd) text = 8
len_of at other text = 0

-- the low bytes of a number, the lowest first
unfoldable pub value_bytes : ValueWidth → ℕ → List ℕ
value_bytes w value = take (width_len w) (to_le_bytes w64 value)

-- the bytes of a statement of the data at an address
unfoldable pub data_of : ℕ → Statement → List ℕ → List ℕ
data_of at (the.Value w n) text = value_bytes w (wrapped n)
data_of at (the.Zeros n) text = replicate n.size 0
data_of at (the.Align n) text = replicate (padding n.size at) 0
data_of at the.Ascii text = unescaped false text
data_of at other text = []
