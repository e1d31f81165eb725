-- A row of the table, and its text.
use Rattle.std.specs.Prelude.{ℕ, Option, Some, None, List, [], ◌∷◌, codes, flat_map}
use Rattle.std.specs.Fmt.{decimal, signed_decimal}
use Rattle.std.specs.Int.{cast_signed, w64}
use Rattle.csv.specs.Writing.{default_writer, row_text}

-- what a row has in the columns; a kind of rows has no use for some of them
pub record Cells : Type 0 where
  pub kind : List ℕ
  pub number : List ℕ
  pub name : List ℕ
  pub focus : List ℕ
  pub units : List ℕ
  pub phase : List ℕ
  pub parent : List ℕ
  pub state : List ℕ
  pub samples : List ℕ
  pub from : List ℕ
  pub to : List ℕ
  pub value : List ℕ
  pub ticks : List ℕ
  pub pc : List ℕ
  pub text : List ℕ

abbrev pub blank : Cells
blank = record {
  kind = [];
  number = [];
  name = [];
  focus = [];
  units = [];
  phase = [];
  parent = [];
  state = [];
  samples = [];
  from = [];
  to = [];
  value = [];
  ticks = [];
  pc = [];
  text = [];
}

-- the cells in the order of the columns
abbrev pub row : Cells → List (List ℕ)
row c =
    c.kind ∷ c.number ∷ c.name ∷ c.focus ∷ c.units ∷ c.phase ∷ c.parent ∷ c.state ∷ c.samples ∷ c.from ∷ c.to ∷ c.value ∷ c.ticks ∷ c.pc
    ∷ c.text ∷ []

-- the names of the columns
abbrev pub names : List (List ℕ)
names =
    codes "record" ∷ codes "number" ∷ codes "name" ∷ codes "focus" ∷ codes "units" ∷ codes "phase" ∷ codes "parent" ∷ codes "state"
    ∷ codes "samples" ∷ codes "from" ∷ codes "to" ∷ codes "value" ∷ codes "ticks" ∷ codes "pc" ∷ codes "text" ∷ []

-- a row as csv writes it: quoted where a cell needs it, and with an LF
unfoldable pub line : List (List ℕ) → List ℕ
line cells = row_text default_writer cells

abbrev pub lines : List (List (List ℕ)) → List ℕ
lines rows = flat_map line rows

-- ---- cells

abbrev pub optional : Option ℕ → List ℕ
optional None = []
optional (Some n) = decimal n

-- a value of 64 bits of which the upper half are negative numbers
abbrev pub signed : ℕ → List ℕ
signed n = signed_decimal (cast_signed w64 n)
