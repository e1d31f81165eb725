-- What a line says.
use Rattle.std.specs.Prelude.{ℕ, zero, suc, ◌+◌, ◌==◌, if◌then◌else◌, Bool, true, false, Option, Some, None, List, [], ◌∷◌, take, length}
use Rattle.rv_asm.specs.Bytes.{is_blank, is_name, skip_blanks, word_of, after_name}
use Rattle.rv_asm.specs.Tokens.{◌>>=◌, after_sign}
use Rattle.rv_asm.specs.Statements.{operation}
use Rattle.rv_asm.specs.declared.line.Quoting.{Quoting}
use Rattle.rv_asm.specs.declared.line.Quoting.TheVariants.{Outside, Quoted, Escaped}
use Rattle.rv_asm.specs.declared.statement.Statement.{Statement}
use Rattle.rv_asm.specs.declared.statement.Statement.TheVariants as the

-- ---- comments

-- what holds after a byte: in a string a `\` takes the next byte with it
abbrev pub quoting_after : Quoting → ℕ → Quoting
quoting_after Outside byte = if byte == 34 then Quoted else Outside
quoting_after Quoted byte = if byte == 34 then Outside else if byte == 92 then Escaped else Quoted
quoting_after Escaped byte = Quoted

-- a `#` outside a string
abbrev pub starts_comment : Quoting → ℕ → Bool
starts_comment Outside byte = byte == 35
starts_comment Quoted byte = false
starts_comment Escaped byte = false

-- how many bytes stand before the comment
abbrev pub code_len : Quoting → List ℕ → ℕ
code_len quoting [] = 0
code_len quoting (byte ∷ bytes) = if starts_comment quoting byte then 0 else code_len (quoting_after quoting byte) bytes + 1

-- ---- labels

-- a name and a colon directly after it, and what stands after them and blanks
unfoldable pub label_at : List ℕ → Option (List ℕ × List ℕ)
label_at text = do
  rest ← after_sign 58 (after_name text)
  if is_name (word_of text) then Some (word_of text, skip_blanks rest) else None

abbrev pub more_labels : (List ℕ → List (List ℕ) × List ℕ) → List ℕ → Option (List ℕ × List ℕ) → List (List ℕ) × List ℕ
more_labels others text None = ([], text)
more_labels others text (Some label) = (label.0 ∷ (others label.1).0, (others label.1).1)

-- up to n labels, and what stands after them
abbrev pub labels_in : ℕ → List ℕ → List (List ℕ) × List ℕ
labels_in zero text = ([], text)
labels_in (suc n) text = more_labels (labels_in n) text (label_at text)

-- the labels, of which there are fewer than bytes, and what stands after them
unfoldable pub labels_of : List ℕ → List (List ℕ) × List ℕ
labels_of text = labels_in (length text) text

-- ---- the line

-- nothing, or a blank first
abbrev pub is_parted : List ℕ → Bool
is_parted [] = true
is_parted (byte ∷ bytes) = is_blank byte

-- what stands after the labels
unfoldable pub statement_at : List ℕ → Option (Statement × List ℕ)
statement_at text =
    if length text == 0 then Some (the.Empty, [])
    else if is_parted (after_name text) then operation (word_of text) (after_name text)
    else None

-- a line: its labels, and its statement with the name or the string that it has
pub record LineParts : Type 0 where
  pub labels : List (List ℕ)
  pub statement : Statement
  pub text : List ℕ

-- the bytes before the comment, without blanks first
unfoldable pub body_of : List ℕ → List ℕ
body_of bytes = skip_blanks (take (code_len Outside bytes) bytes)

-- the line that these bytes are, if they have a form
unfoldable pub line_of : List ℕ → Option LineParts
line_of bytes = do
  statement ← statement_at (labels_of (body_of bytes)).1
  Some (record { labels = (labels_of (body_of bytes)).0; statement = statement.0; text = statement.1 })
