-- The program that a text stands for, or why it is none.
use Rattle.std.specs.Prelude.{ℕ, ◌+◌, ◌-◌, ◌==◌, nat_lt, not, if◌then◌else◌, Bool, true, false, Option, Some, None, Result, Ok, Err, List, [], ◌∷◌, ◌++◌, length, drop, filter, sum_by, codes, bytes_eq}
use Rattle.pn_types.specs.GoodNames.{program_module}
use Rattle.pn_types.specs.declared.limits.TheConstants.{MAX_TEXT_LEN}
use Rattle.pn_types.specs.declared.image.Image.{Image}
use Rattle.pn_types.specs.declared.image.Segment.{Segment}
use Rattle.pn_types.specs.declared.image.Symbol.{Symbol}
use Rattle.pn_types.specs.declared.image.SymKind.{SymKind}
use Rattle.pn_types.specs.declared.image.SymKind.TheVariants.{Func, Object}
use Rattle.pn_text.specs.Lines.{lines}
use Rattle.rv_word.specs.Values.{wrap}
use Rattle.rv_asm.specs.declared.fault.AsmFault.{AsmFault}
use Rattle.rv_asm.specs.declared.fault.AsmFault.TheVariants.{BadLine, NoText, TextTooLong, DataTooLong}
use Rattle.rv_asm.specs.declared.draft.DeclarationKind.{DeclarationKind}
use Rattle.rv_asm.specs.declared.draft.DeclarationKind.TheVariants as kind
use Rattle.rv_asm.specs.Registers.{named}
use Rattle.rv_asm.specs.Layout.{data_of}
use Rattle.rv_asm.specs.FirstPass.{◌>>=◌, Placed, Declaration, Draft, blank_draft, draft_after_lines, len_all, text_start, data_start}
use Rattle.rv_asm.specs.SecondPass.{code}

-- ---- symbols

-- a procedure takes the next end
abbrev pub ends_after : DeclarationKind → List ℕ → List ℕ
ends_after kind.Procedure ends = drop 1 ends
ends_after (kind.Object size) ends = ends

abbrev pub first_or : ℕ → List ℕ → ℕ
first_or at [] = at
first_or at (end ∷ ends) = end

abbrev pub symbol_kind : DeclarationKind → SymKind
symbol_kind kind.Procedure = Func
symbol_kind (kind.Object size) = Object

-- a procedure that begins at an address goes to the first of the ends
abbrev pub symbol_size : ℕ → DeclarationKind → List ℕ → ℕ
symbol_size at kind.Procedure ends = first_or at ends - at
symbol_size at (kind.Object size) ends = size

-- the symbol of a declaration, if the next procedure ends at the first of these; addresses and sizes have 64 bits
unfoldable pub symbol_of : Declaration → List ℕ → Symbol
symbol_of m ends =
    record { name = m.name; kind = symbol_kind m.kind; at = wrap m.at; size = wrap (symbol_size m.at m.kind ends); «module» = m.«module» }

-- the symbols of the declarations in their order
abbrev pub symbols_from : List ℕ → List Declaration → List Symbol
symbols_from ends [] = []
symbols_from ends (m ∷ ms) = symbol_of m ends ∷ symbols_from (ends_after m.kind ends) ms

-- whether a module is the program's own
abbrev pub is_own : List ℕ → Bool
is_own name = bytes_eq name program_module

abbrev pub belongs : Bool → List ℕ → Bool
belongs true name = is_own name
belongs false name = not (is_own name)

-- the symbols of the program itself, or of other modules
abbrev pub belonging : Bool → List Symbol → List Symbol
belonging own symbols = filter (λ s. belongs own s.«module») symbols

-- the symbols of other modules, and then those of the program
abbrev pub symbols_of : Draft → List Symbol
symbols_of d = belonging false (symbols_from d.ends d.declarations) ++ belonging true (symbols_from d.ends d.declarations)

-- how many bytes the names of symbols and of their modules have together, each with one more for its end
abbrev pub name_room : Symbol → ℕ
name_room s = length s.name + length s.module + 2

abbrev pub names_room : List Symbol → ℕ
names_room symbols = sum_by name_room symbols

-- ---- the image

-- the bytes of the data
abbrev pub data_bytes : List Placed → List ℕ
data_bytes [] = []
data_bytes (p ∷ ps) = data_of p.at p.statement p.text ++ data_bytes ps

abbrev pub segment : ℕ → List ℕ → Segment
segment at bytes = record { at = at; bytes = bytes; size = length bytes }

-- the text, and the data where there is some
abbrev pub segments_of : List ℕ → List ℕ → List Segment
segments_of text bytes = segment text_start text ∷ (if length bytes == 0 then [] else segment data_start bytes ∷ [])

-- the label `_start` in the text, else the text's start; the data of a program begins after its text
abbrev pub entry_at : Option ℕ → ℕ
entry_at None = text_start
entry_at (Some at) = if nat_lt at data_start then at else text_start

unfoldable pub image_of : Draft → List ℕ → Image
image_of d text =
    record {
      segments = segments_of text (data_bytes d.data_part);
      text_at = text_start;
      text_len = length text;
      entry = entry_at (named (codes "_start") d.labels);
      symbols = symbols_of d;
    }

-- ---- the whole

abbrev pub closed_by : Draft → Option ℕ → Result Draft AsmFault
closed_by d None = Ok d
closed_by d (Some line) = Err (BadLine line)

-- no procedure is open
abbrev pub draft_closed : Draft → Result Draft AsmFault
draft_closed d = closed_by d d.opened

-- the text is there, and neither it nor the data, of at most 16,777,216 bytes, is too long
unfoldable pub sized : Draft → List ℕ → Result Image AsmFault
sized d text =
    if length text == 0 then Err NoText
    else if nat_lt MAX_TEXT_LEN (length text) then Err (TextTooLong (length text))
    else if nat_lt 16777216 (len_all d.data_part) then Err (DataTooLong (len_all d.data_part))
    else Ok (image_of d text)

-- the program of what the lines make
abbrev pub completed : Draft → Result Image AsmFault
completed d = do
  whole ← draft_closed d
  bytes ← code whole.labels whole.text_part
  sized whole bytes

-- the program of a text, or the first fault
unfoldable pub assembled : List ℕ → Result Image AsmFault
assembled text = do
  d ← draft_after_lines 1 blank_draft (lines text)
  completed d
