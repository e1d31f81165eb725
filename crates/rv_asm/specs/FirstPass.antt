-- The first pass: the lines in order, each with its place, and the first that is faulty.
use Rattle.std.specs.Prelude.{ℕ, ◌+◌, not, if◌then◌else◌, Bool, Option, Some, None, is_some, Result, Ok, Err, List, [], ◌∷◌, ◌++◌}
use Rattle.std.specs.List.{sum_by}
use Rattle.pn_types.specs.GoodNames.{is_good_name, program_module}
use Rattle.rv_asm.specs.declared.fault.AsmFault.{AsmFault}
use Rattle.rv_asm.specs.declared.fault.AsmFault.TheVariants.{BadLine, BadNumber, UsesScratch, TwiceNamed}
use Rattle.rv_asm.specs.declared.draft.DeclarationKind.{DeclarationKind}
use Rattle.rv_asm.specs.declared.draft.DeclarationKind.TheVariants as kind
use Rattle.rv_asm.specs.declared.statement.Section.{Section}
use Rattle.rv_asm.specs.declared.statement.Section.TheVariants as section
use Rattle.rv_asm.specs.declared.statement.Statement.{Statement}
use Rattle.rv_asm.specs.declared.statement.Statement.TheVariants as the
use Rattle.rv_asm.specs.Registers.{named}
use Rattle.rv_asm.specs.Parsing.{LineParts, line_of}
use Rattle.rv_asm.specs.Checks.{in_text, may_stand, numbers_fit, has_x31}
use Rattle.rv_asm.specs.Layout.{len_of}

infixl 10 ◌>>=◌
abbrev pub ◌>>=◌ : {A B : Type 0} → Result A AsmFault → (A → Result B AsmFault) → Result B AsmFault
(Ok a) >>= f = f a
(Err fault) >>= f = Err fault

-- ---- what the pass knows

-- a statement, its line and its address, with the name or the string that it has
pub record Placed : Type 0 where
  pub line : ℕ
  pub at : ℕ
  pub statement : Statement
  pub text : List ℕ

-- the declaration of a procedure or an object that begins at an address
pub record Declaration : Type 0 where
  pub name : List ℕ
  pub kind : DeclarationKind
  pub at : ℕ
  pub «module» : List ℕ

-- what the lines so far make: the line of the open procedure, the names and their addresses, the declarations, where the
-- procedures end, and the statements of each section
pub record Draft : Type 0 where
  pub section : Section
  pub opened : Option ℕ
  pub «module» : List ℕ
  pub labels : List (List ℕ × ℕ)
  pub declarations : List Declaration
  pub ends : List ℕ
  pub text_part : List Placed
  pub data_part : List Placed

abbrev pub text_start : ℕ
text_start = 0x10000

abbrev pub data_start : ℕ
data_start = 0x1000000

-- before the first line
abbrev pub blank_draft : Draft
blank_draft = record {
  section = section.Text;
  opened = None;
  «module» = program_module;
  labels = [];
  declarations = [];
  ends = [];
  text_part = [];
  data_part = [];
}

-- how many bytes statements have, each at its address
abbrev pub len_all : List Placed → ℕ
len_all part = sum_by (λ p. len_of p.at p.statement p.text) part

-- where a section ends: after its start by the lengths of what stands in it
abbrev pub text_end : Draft → ℕ
text_end d = text_start + len_all d.text_part

abbrev pub data_end : Draft → ℕ
data_end d = data_start + len_all d.data_part

-- the next address of the section
abbrev pub here : Draft → ℕ
here d = if in_text d.section then text_end d else data_end d

-- ---- faults of one line, in their order

abbrev pub faultless : ℕ → Section → Bool → LineParts → Result LineParts AsmFault
faultless n s inside line =
    if not (may_stand s inside line.statement) then Err (BadLine n)
    else if not (numbers_fit line.statement) then Err (BadNumber n)
    else if has_x31 s line.statement then Err (UsesScratch n)
    else Ok line

abbrev pub judged_form : ℕ → Section → Bool → Option LineParts → Result LineParts AsmFault
judged_form n s inside None = Err (BadLine n)
judged_form n s inside (Some line) = faultless n s inside line

-- the line with this number, if it has a form, stands there, its numbers fit and it doesn't name x31
unfoldable pub judged_line : ℕ → Section → Bool → List ℕ → Result LineParts AsmFault
judged_line n s inside bytes = judged_form n s inside (line_of bytes)

-- a name that is new
abbrev pub define : ℕ → ℕ → List ℕ → List (List ℕ × ℕ) → Result (List (List ℕ × ℕ)) AsmFault
define n at name labels = if is_some (named name labels) then Err (TwiceNamed n) else Ok (labels ++ ((name, at) ∷ []))

abbrev pub define_all : ℕ → ℕ → List (List ℕ) → List (List ℕ × ℕ) → Result (List (List ℕ × ℕ)) AsmFault
define_all n at [] labels = Ok labels
define_all n at (name ∷ names) labels = do
  more ← define n at name labels
  define_all n at names more

-- a procedure and an object define their names too
abbrev pub define_own : ℕ → ℕ → Statement → List ℕ → List (List ℕ × ℕ) → Result (List (List ℕ × ℕ)) AsmFault
define_own n at the.Procedure name labels = define n at name labels
define_own n at (the.Object size) name labels = define n at name labels
define_own n at other name labels = Ok labels

-- ---- what a line adds

-- the module of a name, which is `program` where the name isn't good
abbrev pub good_module : List ℕ → List ℕ
good_module name = if is_good_name name then name else program_module

-- the statement stands at the end of its section
abbrev pub placed_after : ℕ → Draft → Statement → List ℕ → Draft
placed_after n d statement text =
    if in_text d.section
    then record d { text_part = d.text_part ++ (record { line = n; at = text_end d; statement = statement; text = text } ∷ []) }
    else record d { data_part = d.data_part ++ (record { line = n; at = data_end d; statement = statement; text = text } ∷ []) }

-- a declaration more
abbrev pub declaring : Draft → List ℕ → DeclarationKind → ℕ → Draft
declaring d name what at = record d {
  declarations = d.declarations ++ (record { name = name; kind = what; at = at; «module» = d.module } ∷ []);
}

-- the open procedure ends
abbrev pub draft_ended : Draft → Draft
draft_ended d = record d { opened = None; ends = d.ends ++ (text_end d ∷ []) }

unfoldable pub draft_after_statement : ℕ → Draft → Statement → List ℕ → Draft
draft_after_statement n d the.Empty text = d
draft_after_statement n d the.Text text = record d { section = section.Text }
draft_after_statement n d the.Data text = record d { section = section.Data }
draft_after_statement n d the.Procedure name = record (declaring d name kind.Procedure (text_end d)) { opened = Some n }
draft_after_statement n d the.End text = draft_ended d
draft_after_statement n d (the.Object size) name = declaring d name (kind.Object size.size) (data_end d)
draft_after_statement n d the.Module name = record d { «module» = good_module name }
draft_after_statement n d other text = placed_after n d other text

-- the line with this number
unfoldable pub stepped : ℕ → Draft → List ℕ → Result Draft AsmFault
stepped n d bytes = do
  line ← judged_line n d.section (is_some d.opened) bytes
  labels ← define_all n (here d) line.labels d.labels
  all ← define_own n (here d) line.statement line.text labels
  Ok (draft_after_statement n (record d { labels = all }) line.statement line.text)

-- the lines from the one with this number on
abbrev pub draft_after_lines : ℕ → Draft → List (List ℕ) → Result Draft AsmFault
draft_after_lines n d [] = Ok d
draft_after_lines n d (line ∷ lines) = do
  more ← stepped n d line
  draft_after_lines (n + 1) more lines
