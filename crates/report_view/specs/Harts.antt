-- The run: its ticks, how its harts ended, and what the program wrote.
use Rattle.std.specs.Prelude.{ℕ, ◌+◌, ◌-◌, ◌==◌, ◌&&◌, nat_le, nat_lt, if◌then◌else◌, List, [], ◌∷◌, ◌++◌, codes, flat_map, length, replicate, sum_by, take}
use Rattle.std.specs.Fmt.{decimal}
use Rattle.pn_text.specs.Lines.{is_none}
use Rattle.pn_types.specs.Texts.{address, stop_text}
use Rattle.pn_types.specs.declared.stop.StopText.{StopText}
use Rattle.pn_types.specs.declared.stop.StopText.TheVariants.{Exit, Illegal, Break, Misaligned, Access, TextAccess, FetchOutside, Budget, Cut}
use Rattle.report.specs.declared.parts.HartPart.{HartPart}
use Rattle.report.specs.declared.parts.ReportParts.{ReportParts}

-- a text with spaces in front, up to a width
abbrev pub aligned : ℕ → List ℕ → List ℕ
aligned width text = replicate (width - length text) 32 ++ text

-- a number of things, of which one has a name and more have another
abbrev pub amount_text : ℕ → List ℕ → List ℕ → List ℕ
amount_text n one more = if n == 1 then codes "1 " ++ one else decimal n ++ codes " " ++ more

-- what an end means
abbrev pub meaning_of_end : StopText → List ℕ
meaning_of_end (Exit status) = if status == 0 then [] else codes ": it ended itself, and told that something failed"
meaning_of_end Illegal = codes ": what stands there is no instruction"
meaning_of_end Break = codes ": an ebreak stands there"
meaning_of_end Misaligned = codes ": an address wasn't aligned"
meaning_of_end (Access at) = codes ": it touched memory that isn't there"
meaning_of_end (TextAccess at) = codes ": it touched the program's own text"
meaning_of_end FetchOutside = codes ": it left the program's text"
meaning_of_end Budget = codes ": its budget was spent"
meaning_of_end Cut = codes ": the run was cut off"

-- a hart's number, its ticks, how and where it ended, and what that means
abbrev pub hart_view_line : ℕ → HartPart → List ℕ
hart_view_line n part =
    codes "  hart " ++ decimal n ++ aligned 14 (decimal part.ticks) ++ codes " ticks, " ++ stop_text part.stop ++ codes " at " ++ address part.pc
    ++ meaning_of_end part.stop ++ codes "\n"

abbrev pub hart_view_lines : ℕ → List HartPart → List ℕ
hart_view_lines n [] = []
hart_view_lines n (part ∷ parts) = hart_view_line n part ++ hart_view_lines (n + 1) parts

unfoldable pub run_line : ReportParts → List ℕ
run_line parts =
    codes "ticks " ++ decimal (sum_by (λ part. part.ticks) parts.harts) ++ codes " on "
    ++ amount_text (length parts.harts) (codes "hart") (codes "harts") ++ codes ", "
    ++ amount_text parts.samples (codes "sample") (codes "samples") ++ codes "\n"

-- ---- what the program wrote

-- the bytes of it that are shown
abbrev pub most_output : ℕ
most_output = 1000

-- a byte that can be printed as it is; a line's end goes on behind a margin, and a dot stands for any other
abbrev pub shown_byte : ℕ → List ℕ
shown_byte byte = if byte == 10 then codes "\n  | " else if nat_le 32 byte && nat_le byte 126 then byte ∷ [] else codes "."

abbrev pub more_output : ℕ → List ℕ
more_output length = if nat_lt most_output length then codes "  and " ++ decimal (length - most_output) ++ codes " bytes more\n" else []

-- without an LF at the end
abbrev pub without_last_lf : List ℕ → List ℕ
without_last_lf [] = []
without_last_lf (byte ∷ bytes) = if (byte == 10) && is_none bytes then [] else byte ∷ without_last_lf bytes

abbrev pub some_output : List ℕ → List ℕ
some_output bytes =
    codes "output " ++ amount_text (length bytes) (codes "byte") (codes "bytes") ++ codes "\n  | "
    ++ flat_map shown_byte (without_last_lf (take most_output bytes)) ++ codes "\n" ++ more_output (length bytes)

unfoldable pub output_view : List ℕ → List ℕ
output_view bytes = if length bytes == 0 then codes "no output\n" else some_output bytes

-- the run
abbrev pub run_view : ReportParts → List ℕ
run_view parts = run_line parts ++ hart_view_lines 0 parts.harts ++ output_view parts.output
