-- What is due for `advise`.
use Rattle.std.specs.Prelude.{◌≡◌, ℕ, List, Result, Ok, Err}
use Rattle.advice.specs.Directives.{advice}
use Rattle.advice.specs.Reading.{verdicts_of}
use Rattle.advice.specs.declared.fault.ReportFault.{ReportFault}
use Rattle.advice.specs.declared.fault.ReportFault.TheVariants as fault
use Rattle.advice.specs.declared.verdict.Verdict.{Verdict}
use Rattle.refusals.specs.Refusals.{Step, Then}
use Rattle.refusals.specs.declared.fault.Fault.{Fault}
use Rattle.refusals.specs.declared.fault.Fault.TheVariants.{BadReport}
use Rattle.commands.specs.Output.{output}
use Rattle.commands.specs.FileReadings.{FileReading, IsContent}
use Rattle.commands.specs.declared.texts.Texts.{Texts}

-- what the verdicts of a report advise, or its first fault
abbrev pub advice_texts : Result (List Verdict) ReportFault → Result Texts Fault
advice_texts (Ok verdicts) = Ok (output (advice verdicts))
advice_texts (Err (fault.BadReport place)) = Err (BadReport place)

-- what a report's file has, at most 33,554,432 bytes
abbrev pub IsReportContent : FileReading → List ℕ → Step (List ℕ)
IsReportContent sees = IsContent sees 33554432 (BadReport 33554432)

-- what the report of a name advises
abbrev pub IsAdviseDue : List ℕ → FileReading → Step Texts
IsAdviseDue name sees = Then (IsReportContent sees name) (λ bytes texts. texts ≡ advice_texts (verdicts_of bytes))
