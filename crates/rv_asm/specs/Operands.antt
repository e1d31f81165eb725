-- The operands of a statement, after which nothing stands.
use Rattle.std.specs.Prelude.{ℕ, if◌then◌else◌, Option, Some, None, List}
use Rattle.rv_asm.specs.Tokens.{◌>>=◌, register_at, number_at, name_at, pointer_at, string_at, sign_at, ends}
use Rattle.rv_asm.specs.declared.number.Number.{Number}

-- the value, if nothing is left
abbrev pub alone : {A : Type 0} → A → List ℕ → Option A
alone value rest = if ends rest then Some value else None

-- a comma and a register
unfoldable pub and_register_at : List ℕ → Option (ℕ × List ℕ)
and_register_at text = do
  rest ← sign_at 44 text
  register_at rest

-- a comma and a number
unfoldable pub and_number_at : List ℕ → Option (Number × List ℕ)
and_number_at text = do
  rest ← sign_at 44 text
  number_at rest

-- a comma and a name, with which the operands end
unfoldable pub and_last_name : List ℕ → Option (List ℕ)
and_last_name text = do
  rest ← sign_at 44 text
  name ← name_at rest
  alone name.0 name.1

-- a comma and a pointer, with which the operands end
unfoldable pub and_last_pointer : List ℕ → Option ℕ
and_last_pointer text = do
  rest ← sign_at 44 text
  base ← pointer_at rest
  alone base.0 base.1

-- `rs`
unfoldable pub one_register : List ℕ → Option ℕ
one_register text = do
  a ← register_at text
  alone a.0 a.1

-- `rd, rs`
unfoldable pub two_registers : List ℕ → Option (ℕ × ℕ)
two_registers text = do
  a ← register_at text
  b ← and_register_at a.1
  alone (a.0, b.0) b.1

-- `rd, rs1, rs2`
unfoldable pub three_registers : List ℕ → Option (ℕ × ℕ × ℕ)
three_registers text = do
  a ← register_at text
  b ← and_register_at a.1
  c ← and_register_at b.1
  alone (a.0, b.0, c.0) c.1

-- `rd, N`
unfoldable pub register_number : List ℕ → Option (ℕ × Number)
register_number text = do
  a ← register_at text
  n ← and_number_at a.1
  alone (a.0, n.0) n.1

-- `rd, rs1, N`
unfoldable pub registers_number : List ℕ → Option (ℕ × ℕ × Number)
registers_number text = do
  a ← register_at text
  b ← and_register_at a.1
  n ← and_number_at b.1
  alone (a.0, b.0, n.0) n.1

-- `rd, N(rs1)`
unfoldable pub register_memory : List ℕ → Option (ℕ × Number × ℕ)
register_memory text = do
  a ← register_at text
  n ← and_number_at a.1
  base ← pointer_at n.1
  alone (a.0, n.0, base.0) base.1

-- `rd, (rs1)`
unfoldable pub register_pointer : List ℕ → Option (ℕ × ℕ)
register_pointer text = do
  a ← register_at text
  base ← and_last_pointer a.1
  Some (a.0, base)

-- `rd, rs2, (rs1)`
unfoldable pub registers_pointer : List ℕ → Option (ℕ × ℕ × ℕ)
registers_pointer text = do
  a ← register_at text
  b ← and_register_at a.1
  base ← and_last_pointer b.1
  Some (a.0, b.0, base)

-- `rs, NAME`
unfoldable pub register_name : List ℕ → Option (ℕ × List ℕ)
register_name text = do
  a ← register_at text
  name ← and_last_name a.1
  Some (a.0, name)

-- `rs1, rs2, NAME`
unfoldable pub registers_name : List ℕ → Option (ℕ × ℕ × List ℕ)
registers_name text = do
  a ← register_at text
  b ← and_register_at a.1
  name ← and_last_name b.1
  Some (a.0, b.0, name)

-- `N`
unfoldable pub one_number : List ℕ → Option Number
one_number text = do
  n ← number_at text
  alone n.0 n.1

-- `NAME`
unfoldable pub one_name : List ℕ → Option (List ℕ)
one_name text = do
  name ← name_at text
  alone name.0 name.1

-- `NAME N`
unfoldable pub name_number : List ℕ → Option (List ℕ × Number)
name_number text = do
  name ← name_at text
  n ← number_at name.1
  alone (name.0, n.0) n.1

-- a string
unfoldable pub one_string : List ℕ → Option (List ℕ)
one_string text = do
  bytes ← string_at text
  alone bytes.0 bytes.1
