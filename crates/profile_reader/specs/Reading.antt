-- The profile that bytes are, or the place of their first fault. Each line is read leniently; then the text of all that was read has to be
-- these bytes.
use Rattle.std.specs.Prelude.{ℕ, ◌+◌, ◌==◌, ◌&&◌, ◌≡◌, if◌then◌else◌, bytes_eq, Bool, Result, Ok, Err, MatchResult, List, [], ◌∷◌, ◌++◌, codes, flat_map, length, map, sum_by}
use Rattle.advice.specs.Reading.{ReportRefuses}
use Rattle.advice.specs.Words.{number_at}
use Rattle.advice.specs.declared.fault.ReportError.{ReportError}
use Rattle.advice.specs.declared.fault.ReportFault.{ReportFault}
use Rattle.advice.specs.declared.fault.ReportFault.TheVariants.{BadReport}
use Rattle.profile_text.specs.Lines.{procedure_line, rest_line, run_ticks, run_untold}
use Rattle.profile_text.specs.Rows.{Row}
use Rattle.report.specs.Text.{hart_lines}
use Rattle.profile_reader.specs.Lines.{first_with, harts_of, lines_of, lines_with, other_lines, procedure_of_line}
use Rattle.profile_reader.specs.declared.profile.ReadProcedure.{ReadProcedure}
use Rattle.profile_reader.specs.declared.profile.ReadProfile.{ReadProfile}

-- ---- what lines say

abbrev pub run_line : List (List ℕ) → List ℕ
run_line lines = first_with (codes "profile ") lines

abbrev pub rest_in : List (List ℕ) → List ℕ
rest_in lines = first_with (codes "rest ") lines

-- `profile harts N ticks T untold U outside O`, the harts, the procedures, `rest words W ticks T`, and the other lines
unfoldable pub profile_of_lines : List (List ℕ) → ReadProfile
profile_of_lines lines = record {
  ticks = number_at 4 (run_line lines);
  untold = number_at 6 (run_line lines);
  outside = number_at 8 (run_line lines);
  harts = harts_of (lines_with (codes "hart ") lines);
  procedures = map procedure_of_line (lines_with (codes "procedure ") lines);
  rest_words = number_at 2 (rest_in lines);
  rest_ticks = number_at 4 (rest_in lines);
  others = other_lines lines;
}

-- ---- the text of a profile that was read

abbrev pub row_of : ReadProcedure → Row
row_of x = record { proc = x.proc; entered = x.entered; ticks = x.ticks }

abbrev pub read_run_line : ReadProfile → List ℕ
read_run_line p = run_ticks (length p.harts) p.ticks ++ run_untold p.untold p.outside

unfoldable pub profile_spelling : ReadProfile → List ℕ
profile_spelling p =
    read_run_line p ++ hart_lines 0 p.harts ++ flat_map (λ x. procedure_line (row_of x)) p.procedures ++ rest_line p.rest_words p.rest_ticks
    ++ p.others

-- ---- reading

-- how many bytes two texts have in common from their beginnings on
abbrev pub common_len : List ℕ → List ℕ → ℕ
common_len [] bytes = 0
common_len (x ∷ xs) [] = 0
common_len (x ∷ xs) (y ∷ ys) = if x == y then 1 + common_len xs ys else 0

-- the ticks of the harts are those that the first line tells
abbrev pub adds_up : ReadProfile → Bool
adds_up p = sum_by (λ part. part.ticks) p.harts == p.ticks

-- its text is these bytes
abbrev pub is_spelled : List ℕ → ReadProfile → Bool
is_spelled bytes p = bytes_eq (profile_spelling p) bytes && adds_up p

-- a profile whose text is these bytes; the fault is at the first byte that isn't as in that text, or at the end where the ticks don't add up
abbrev pub if_spelled : List ℕ → ReadProfile → Result ReadProfile ReportFault
if_spelled bytes p = if is_spelled bytes p then Ok p else Err (BadReport (common_len (profile_spelling p) bytes))

abbrev pub profile_in : List ℕ → Result ReadProfile ReportFault
profile_in bytes = if_spelled bytes (profile_of_lines (lines_of bytes))

-- the result is what the bytes tell, unless memory runs out
abbrev pub ReadsProfile : Result ReadProfile ReportError → Result ReadProfile ReportFault → Type 0
ReadsProfile result told = MatchResult result (λ profile. told ≡ Ok profile) (λ e. ReportRefuses e (λ fault. told ≡ Err fault))
