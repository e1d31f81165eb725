-- The report that bytes are, or the place of their first fault.
use Rattle.std.specs.Prelude.{ℕ, zero, suc, ◌+◌, ◌==◌, ◌≡◌, if◌then◌else◌, Bool, true, false, Option, Result, Ok, Err, MatchResult, List, [], ◌∷◌, length, sum_by}
use Rattle.std.specs.Option.{option_and_then, option_map, option_map_or, unwrap_or}
use Rattle.advice.specs.Lines.{to_lf, to_lf_at}
use Rattle.advice.specs.Reading.{ReportRefuses}
use Rattle.advice.specs.declared.fault.ReportError.{ReportError}
use Rattle.advice.specs.declared.fault.ReportFault.{ReportFault}
use Rattle.advice.specs.declared.fault.ReportFault.TheVariants.{BadReport}
use Rattle.report.specs.declared.parts.ReportParts.{ReportParts}
use Rattle.report.specs.declared.parts.SearchPart.{SearchPart}
use Rattle.report_reader.specs.Drafts.{after, blank}
use Rattle.report_reader.specs.declared.draft.Draft.{Draft}
use Rattle.report_reader.specs.declared.draft.SearchDraft.{SearchDraft}
use Rattle.report_reader.specs.declared.due.Due.{Due}
use Rattle.report_reader.specs.declared.due.Due.TheVariants.{Output, Shown, Nodes}
use Rattle.report_reader.specs.declared.whole_report.Report.{Report}

-- ---- what was read

abbrev pub search_of : SearchDraft → SearchPart
search_of s = record { full = s.full; window = unwrap_or s.window 0; nodes = s.nodes }

abbrev pub draft_parts : Draft → ReportParts
draft_parts d = record {
  harts = d.harts;
  samples = d.samples;
  output = d.output;
  refused = d.refused;
  shown = d.shown;
  search = option_map search_of d.search;
}

abbrev pub draft_report : Draft → Report
draft_report d = record { parts = draft_parts d; skipped = d.skipped }

-- ---- the end

-- a report may end where this is due
abbrev pub may_end : Due → Bool
may_end Shown = true
may_end (Nodes n) = n == 0
may_end due = false

-- the ticks of the harts are those that the second line tells
abbrev pub adds_up : Draft → Bool
adds_up d = sum_by (λ part. part.ticks) d.harts == d.ticks

-- The report that ends at a place. Where the harts' ticks don't add up, the second line is wrong, which begins behind 17 bytes.
abbrev pub report_at_end : Draft → ℕ → Result Report ReportFault
report_at_end d at =
    if may_end d.due then if adds_up d then Ok (draft_report d) else Err (BadReport 17)
    else Err (BadReport at)

-- ---- line by line

-- the first line of these bytes, without its LF; None where that is missing. What a program wrote is one line, whatever stands in it.
abbrev pub first_due_line : Due → List ℕ → Option (List ℕ)
first_due_line (Output n) bytes = to_lf_at n bytes
first_due_line due bytes = to_lf bytes

-- a right line: its length without the LF, and the draft behind it
pub record ReadStep : Type 0 where
  pub length : ℕ
  pub next : Draft

abbrev pub draft_step_on : Draft → List ℕ → Option ReadStep
draft_step_on d line = option_map (λ next. record { length = length line; next = next }) (after d line)

abbrev pub read_step : Draft → List ℕ → Option ReadStep
read_step d bytes = option_and_then (draft_step_on d) (first_due_line d.due bytes)

-- What bytes give that begin at a place of a report; the second number says how many of them belong to a line that was read, and are
-- passed. The fault is where a line begins that has no LF or isn't right, or at the end if it is too early.
abbrev pub report_from : Draft → ℕ → ℕ → List ℕ → Result Report ReportFault
report_from d at passed [] = report_at_end d at
report_from d at (suc passed) (byte ∷ bytes) = report_from d (at + 1) passed bytes
report_from d at zero (byte ∷ bytes) =
    option_map_or (λ s. report_from s.next (at + 1) s.length bytes) (read_step d (byte ∷ bytes)) (Err (BadReport at))

-- the report that bytes are, or their first fault
abbrev pub report_in : List ℕ → Result Report ReportFault
report_in bytes = report_from blank 0 0 bytes

-- the result is what the bytes tell, unless memory runs out
abbrev pub ReadsReport : Result Report ReportError → Result Report ReportFault → Type 0
ReadsReport result told = MatchResult result (λ report. told ≡ Ok report) (λ e. ReportRefuses e (λ fault. told ≡ Err fault))
