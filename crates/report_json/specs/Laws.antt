-- What holds of the text.
use Rattle.std.specs.Prelude.{ℕ, ◌≡◌, Some}
use Rattle.json.specs.Json.{document}
use Rattle.report.specs.declared.parts.ReportParts.{ReportParts}
use Rattle.report_json.specs.Report.{report_line, report_value}

-- Before its LF, the text is JSON, and reads back as the report's value.
abbrev pub IsRead : ℕ → ReportParts → Type 0
IsRead skipped parts = document (report_line skipped parts) ≡ Some (report_value skipped parts)
