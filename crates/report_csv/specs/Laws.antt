-- What holds of the table.
use Rattle.std.specs.Prelude.{ℕ}
use Rattle.csv.specs.Reading.{AreRecords, default_config}
use Rattle.csv.specs.declared.parser.State.TheVariants as st
use Rattle.report.specs.declared.parts.ReportParts.{ReportParts}
use Rattle.report_csv.specs.Report.{report_csv, report_rows}

-- Its text is read by csv as its rows, all of them and no other.
abbrev pub RowsAreRead : Type 0
RowsAreRead = (skipped : ℕ) (parts : ReportParts) → AreRecords default_config st.StartRecord (report_csv skipped parts) (report_rows skipped parts)
