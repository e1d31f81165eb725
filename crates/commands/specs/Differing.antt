-- What is due for `diff`.
use Rattle.std.specs.Prelude.{◌≡◌, ℕ, if◌then◌else◌, Bool, true, false, not, List, Result, Ok, Err, codes}
use Rattle.advice.specs.declared.fault.ReportFault.{ReportFault}
use Rattle.advice.specs.declared.fault.ReportFault.TheVariants as fault
use Rattle.command_words.specs.Requests.{DiffRequest}
use Rattle.pn_text.specs.Bytes.{begins_with}
use Rattle.profile_reader.specs.Pairs.{profile_parts}
use Rattle.profile_reader.specs.Reading.{profile_in}
use Rattle.profile_reader.specs.declared.profile.ReadProfile.{ReadProfile}
use Rattle.refusals.specs.Refusals.{Step, Then}
use Rattle.refusals.specs.declared.fault.Fault.{Fault}
use Rattle.refusals.specs.declared.fault.Fault.TheVariants.{BadReport, BadNewReport}
use Rattle.report.specs.declared.parts.ReportParts.{ReportParts}
use Rattle.report_diff.specs.Diff.{diff_text}
use Rattle.report_reader.specs.Reading.{report_in}
use Rattle.report_reader.specs.declared.whole_report.Report.{Report}
use Rattle.commands.specs.FileReadings.{FileReading, IsContent}
use Rattle.commands.specs.Output.{output}
use Rattle.commands.specs.declared.differing.ComparedFile.{ComparedFile}
use Rattle.commands.specs.declared.texts.Texts.{Texts}

-- ---- one of two files

-- what is compared of a report and of a profile, or this fault at the place of its first
abbrev pub compared_report : (ℕ → Fault) → Result Report ReportFault → Result ComparedFile Fault
compared_report bad (Ok r) = Ok (record { is_profile = false; parts = r.parts })
compared_report bad (Err (fault.BadReport place)) = Err (bad place)

abbrev pub compared_profile : (ℕ → Fault) → Result ReadProfile ReportFault → Result ComparedFile Fault
compared_profile bad (Ok p) = Ok (record { is_profile = true; parts = profile_parts p })
compared_profile bad (Err (fault.BadReport place)) = Err (bad place)

-- bytes that begin so are a profile, and others a report
abbrev pub begins_profile : List ℕ → Bool
begins_profile bytes = begins_with (codes "profile ") bytes

abbrev pub compared_file : (ℕ → Fault) → List ℕ → Result ComparedFile Fault
compared_file bad bytes = if begins_profile bytes then compared_profile bad (profile_in bytes) else compared_report bad (report_in bytes)

-- the report or the profile of a name, which has at most 33,554,432 bytes
abbrev pub IsComparedFile : (ℕ → Fault) → FileReading → List ℕ → Step ComparedFile
IsComparedFile bad sees name = Then (IsContent sees 33554432 (bad 33554432) name) (λ bytes compared. compared ≡ compared_file bad bytes)

-- ---- both

-- both are profiles, or both are reports
abbrev pub are_alike : ComparedFile → ComparedFile → Bool
are_alike old new = if old.is_profile then new.is_profile else not new.is_profile

-- what differs between two reports or two profiles; one of each aren't compared
abbrev pub diff_of : ComparedFile → ComparedFile → Result Texts Fault
diff_of old new = if are_alike old new then Ok (output (diff_text old.parts new.parts)) else Err (BadNewReport 0)

-- first the file of before, then the one of after
abbrev pub IsDiffDue : DiffRequest → FileReading → Step Texts
IsDiffDue q sees =
    Then (IsComparedFile BadReport sees q.old)
    (λ old. Then (IsComparedFile BadNewReport sees q.new) (λ new texts. texts ≡ diff_of old new))
