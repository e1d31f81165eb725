-- What is due for `show`.
use Rattle.std.specs.Prelude.{◌≡◌, ℕ, Bool, true, false, List, Result, Ok, Err}
use Rattle.advice.specs.declared.fault.ReportFault.{ReportFault}
use Rattle.advice.specs.declared.fault.ReportFault.TheVariants as fault
use Rattle.command_words.specs.Requests.{ShowRequest}
use Rattle.command_words.specs.declared.requests.ViewFormat.{ViewFormat}
use Rattle.command_words.specs.declared.requests.ViewFormat.TheVariants.{Ascii, Blocks, Json, Csv, Svg, Html}
use Rattle.refusals.specs.Refusals.{Step, Then}
use Rattle.refusals.specs.declared.fault.Fault.{Fault}
use Rattle.refusals.specs.declared.fault.Fault.TheVariants.{BadReport}
use Rattle.report_csv.specs.Report.{report_csv}
use Rattle.report_json.specs.Report.{report_json}
use Rattle.report_picture.specs.Html.{report_html}
use Rattle.report_picture.specs.Svg.{report_svg}
use Rattle.report_reader.specs.Reading.{report_in}
use Rattle.report_reader.specs.declared.whole_report.Report.{Report}
use Rattle.report_view.specs.View.{report_view}
use Rattle.commands.specs.Advising.{IsReportContent}
use Rattle.commands.specs.FileReadings.{FileReading}
use Rattle.commands.specs.Output.{output}
use Rattle.commands.specs.declared.texts.Texts.{Texts}

-- how a report is shown in a format
abbrev pub view_in : ViewFormat → ℕ → Report → List ℕ
view_in Blocks columns r = report_view false columns r.parts
view_in Ascii columns r = report_view true columns r.parts
view_in Json columns r = report_json r.skipped r.parts
view_in Csv columns r = report_csv r.skipped r.parts
view_in Svg columns r = report_svg r.parts
view_in Html columns r = report_html r.parts

abbrev pub view_of : ShowRequest → Report → List ℕ
view_of q r = view_in q.format q.columns r

-- what was read is shown, or its first fault
abbrev pub report_view_texts : ShowRequest → Result Report ReportFault → Result Texts Fault
report_view_texts q (Ok r) = Ok (output (view_of q r))
report_view_texts q (Err (fault.BadReport place)) = Err (BadReport place)

-- what the report of a name shows
abbrev pub IsShowDue : ShowRequest → FileReading → Step Texts
IsShowDue q sees = Then (IsReportContent sees q.report) (λ bytes texts. texts ≡ report_view_texts q (report_in bytes))
