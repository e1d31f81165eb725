-- The verdicts of a report, or the place of its first fault.
use Rattle.std.specs.Prelude.{ℕ, zero, suc, ◌+◌, ◌≡◌, if◌then◌else◌, Option, Result, Ok, Err, MatchResult, List, [], ◌∷◌, ◌++◌, length}
use Rattle.std.specs.Global.{Vec}
use Rattle.std.specs.Option.{option_and_then, option_map, option_map_or, option_to_list}
use Rattle.advice.specs.Lines.{due_after, first_line, may_end, told_in}
use Rattle.advice.specs.declared.due.Due.{Due}
use Rattle.advice.specs.declared.due.Due.TheVariants.{Title}
use Rattle.advice.specs.declared.fault.ReportFault.{ReportFault}
use Rattle.advice.specs.declared.fault.ReportFault.TheVariants.{BadReport}
use Rattle.advice.specs.declared.fault.ReportError.{ReportError}
use Rattle.advice.specs.declared.fault.ReportError.TheVariants as error
use Rattle.advice.specs.declared.verdict.Verdict.{Verdict}

-- these verdicts, and then those of a rest
abbrev pub onto : List Verdict → Result (List Verdict) ReportFault → Result (List Verdict) ReportFault
onto vs (Ok rest) = Ok (vs ++ rest)
onto vs (Err fault) = Err fault

-- a line of the form that is due: its length without the LF, the verdict that it tells, and what is due after it
pub record Step : Type 0 where
  pub length : ℕ
  pub told : Option Verdict
  pub next : Due

abbrev pub step_on : Due → List ℕ → Option Step
step_on due line = option_map (λ next. record { length = length line; told = told_in due line; next = next }) (due_after due line)

-- the first line of bytes
abbrev pub step : Due → List ℕ → Option Step
step due bytes = option_and_then (step_on due) (first_line due bytes)

-- The verdicts of bytes that begin at a place of a report, where this is due; the second number says how many of them belong to a
-- line that was read, and are passed. The fault is where a line begins that has no LF or not the form, or at the end if it is too early.
abbrev pub verdicts_from : Due → ℕ → ℕ → List ℕ → Result (List Verdict) ReportFault
verdicts_from due at passed [] = if may_end due then Ok [] else Err (BadReport at)
verdicts_from due at (suc passed) (byte ∷ bytes) = verdicts_from due (at + 1) passed bytes
verdicts_from due at zero (byte ∷ bytes) =
    option_map_or (λ s. onto (option_to_list s.told) (verdicts_from s.next (at + 1) s.length bytes))
    (step due (byte ∷ bytes)) (Err (BadReport at))

-- the verdicts of a report in the order of their lines, or its first fault
abbrev pub verdicts_of : List ℕ → Result (List Verdict) ReportFault
verdicts_of report = verdicts_from Title 0 0 report

-- why a call was refused; running out of memory is always allowed
abbrev pub ReportRefuses : ReportError → (ReportFault → Type 0) → Type 0
ReportRefuses (error.Fault fault) why = why fault
ReportRefuses error.NoMemory why = Unit {0}

-- the result is what the bytes tell, unless memory runs out
abbrev pub ReadsAs : Result (Vec Verdict) ReportError → Result (List Verdict) ReportFault → Type 0
ReadsAs result told = MatchResult result (λ vs. told ≡ Ok vs.items) (λ e. ReportRefuses e (λ fault. told ≡ Err fault))
