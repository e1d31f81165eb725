-- What the lines of a profile say. A line is without its LF.
use Rattle.std.specs.Prelude.{ℕ, ◌+◌, ◌*◌, ◌%◌, ◌^◌, ◌==◌, ◌||◌, Bool, List, [], ◌∷◌, ◌++◌, codes, drop, filter, flat_map, length, map, position, take, unwrap_or}
use Rattle.std.specs.List.{find, slice_split}
use Rattle.pn_text.specs.Bytes.{begins_with}
use Rattle.pn_text.specs.Lines.{is_lf}
use Rattle.advice.specs.Words.{number_at, word_at}
use Rattle.report.specs.declared.parts.HartPart.{HartPart}
use Rattle.report_lines.specs.Lines.{hart_of_line}
use Rattle.report_lines.specs.Words.{address_at}
use Rattle.profile_reader.specs.declared.profile.ReadProcedure.{ReadProcedure}

abbrev pub lines_of : List ℕ → List (List ℕ)
lines_of bytes = slice_split is_lf bytes

-- those lines that begin with a text
abbrev pub lines_with : List ℕ → List (List ℕ) → List (List ℕ)
lines_with text lines = filter (begins_with text) lines

-- the first line that begins with a text; empty where there is none
abbrev pub first_with : List ℕ → List (List ℕ) → List ℕ
first_with text lines = unwrap_or (find (begins_with text) lines) []

-- the harts that lines tell, of which the first 32 count
abbrev pub harts_of : List (List ℕ) → List HartPart
harts_of lines = take 32 (map hart_of_line lines)

-- ---- procedures

abbrev pub is_slash : ℕ → Bool
is_slash byte = byte == 47

-- where the name of a module ends: at the first slash
abbrev pub module_len : List ℕ → ℕ
module_len path = unwrap_or (position is_slash path) (length path)

-- `procedure MODULE/NAME at ADDRESS words W entered E ticks T`
abbrev pub procedure_of_line : List ℕ → ReadProcedure
procedure_of_line line = record {
  proc = record {
    name = drop (module_len (word_at 1 line) + 1) (word_at 1 line);
    «module» = take (module_len (word_at 1 line)) (word_at 1 line);
    start = address_at 3 line;
    len = number_at 5 line * 4 % 2 ^ 64;
  };
  entered = number_at 7 line;
  ticks = number_at 9 line;
}

-- ---- calls, loops and words

abbrev pub is_other : List ℕ → Bool
is_other line = begins_with (codes "call ") line || begins_with (codes "loop ") line || begins_with (codes "word ") line

-- their lines as they are, each with its LF
abbrev pub other_lines : List (List ℕ) → List ℕ
other_lines lines = flat_map (λ line. line ++ 10 ∷ []) (filter is_other lines)
