-- What is read from a line on.
use Rattle.std.proofs.Common.{◌≡◌, ℕ, zero, suc, ◌+◌, ◌<◌, ◌≤◌, Option, Some, None, Result, Err, List, [], ◌∷◌, length, drop, refl, ap, ◌∙◌, arith, add-one}
use Rattle.std.specs.Option.{option_and_then, option_map, option_map_or}
use Rattle.advice.specs.declared.fault.ReportFault.{ReportFault}
use Rattle.advice.specs.declared.fault.ReportFault.TheVariants.{BadReport}
use Rattle.report_reader.specs.Drafts.{after}
use Rattle.report_reader.specs.Reading.{ReadStep, report_at_end, first_due_line, report_from, read_step, draft_step_on}
use Rattle.report_reader.specs.declared.draft.Draft.{Draft}
use Rattle.report_reader.specs.declared.whole_report.Report.{Report}

-- the bytes of a line that was read are passed
pub passing : (d : Draft) (at k : ℕ) (bytes : List ℕ) → k ≤ length bytes → report_from d at k bytes ≡ report_from d (at + k) 0 (drop k bytes)
passing d at zero bytes h = let same : at ≡ at + 0 = omega arith in ap (λ (n : ℕ). report_from d n 0 bytes) same
passing d at (suc k) [] h = absurd (omega arith)
passing d at (suc k) (byte ∷ bytes) h =
    let same : at + 1 + k ≡ at + suc k = omega arith in
    passing d (at + 1) k bytes (omega arith) ∙ ap (λ (n : ℕ). report_from d n 0 (drop k bytes)) same

-- what is read behind a byte, where this line began
abbrev behind : ℕ → List ℕ → Option ReadStep → Result Report ReportFault
behind at bytes o = option_map_or (λ s. report_from s.next (at + 1) s.length bytes) o (Err (BadReport at))

-- the step of a line of which this is the draft behind it
abbrev step_of : List ℕ → Option Draft → Option ReadStep
step_of line o = option_map (λ next. record { length = length line; next = next }) o

-- ---- a right line

stepped : (d next : Draft) (bytes line : List ℕ) → first_due_line d.due bytes ≡ Some line → after d line ≡ Some next → read_step d bytes ≡ Some (record { length = length line; next = next })
stepped d next bytes line first said = ap (option_and_then (draft_step_on d)) first ∙ ap (step_of line) said

pub line_step : (d next : Draft) (at : ℕ) (bytes line : List ℕ) → length line < length bytes → first_due_line d.due bytes ≡ Some line → after d line ≡ Some next → report_from d at 0 bytes ≡ report_from next (at + (length line + 1)) 0 (drop (length line + 1) bytes)
line_step d next at [] line h first said = absurd (omega arith)
line_step d next at (byte ∷ bytes) line h first said =
    let place : at + 1 + length line ≡ at + (length line + 1) = omega arith in
    ap (behind at bytes) (stepped d next (byte ∷ bytes) line first said)
    ∙ passing next (at + 1) (length line) bytes (omega arith)
    ∙ ap (λ (n : ℕ). report_from next n 0 (drop (length line) bytes)) place
    ∙ rw add-one refl

-- ---- a line that isn't right

pub fault_step : (d : Draft) (at : ℕ) (bytes line : List ℕ) → 0 < length bytes → first_due_line d.due bytes ≡ Some line → after d line ≡ None → report_from d at 0 bytes ≡ Err (BadReport at)
fault_step d at [] line h first wrong = absurd (omega arith)
fault_step d at (byte ∷ bytes) line h first wrong =
    ap (behind at bytes) (ap (option_and_then (draft_step_on d)) first ∙ ap (step_of line) wrong)

-- a line without its LF
pub cut_step : (d : Draft) (at : ℕ) (bytes : List ℕ) → 0 < length bytes → first_due_line d.due bytes ≡ None → report_from d at 0 bytes ≡ Err (BadReport at)
cut_step d at [] h cut = absurd (omega arith)
cut_step d at (byte ∷ bytes) h cut = ap (behind at bytes) (ap (option_and_then (draft_step_on d)) cut)

-- the end
pub end_step : (d : Draft) (at : ℕ) (bytes : List ℕ) → length bytes ≡ 0 → report_from d at 0 bytes ≡ report_at_end d at
end_step d at [] h = refl
end_step d at (byte ∷ bytes) h = absurd (omega arith)
