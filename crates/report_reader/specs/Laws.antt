-- Reading is the inverse of writing.
use Rattle.std.specs.Prelude.{ℕ, ◌≡◌, Ok, Option, None, List, [], ◌∷◌, map}
use Rattle.std.specs.Option.{option_map, option_or, unwrap_or}
use Rattle.report.specs.Text.{report_text}
use Rattle.report.specs.declared.parts.NodePart.{NodePart}
use Rattle.report.specs.declared.parts.ReportParts.{ReportParts}
use Rattle.report.specs.declared.parts.SearchPart.{SearchPart}
use Rattle.report_lines.specs.Laws.{printed_node, told_window}
use Rattle.report_reader.specs.Readable.{IsWritten}
use Rattle.report_reader.specs.Reading.{report_in}
use Rattle.report_reader.specs.declared.whole_report.Report.{Report}

-- Bytes from which a report is read are that report's text.
abbrev pub ReportIsSpelled : Type 0
ReportIsSpelled = (bytes : List ℕ) (r : Report) → report_in bytes ≡ Ok r → report_text r.parts r.skipped ≡ bytes

-- the window that the lines of nodes tell, if one of them tells it
abbrev pub window_told : ℕ → List NodePart → Option ℕ
window_told window [] = None
window_told window (part ∷ parts) = option_or (told_window window part.node.state) (window_told window parts)

-- what is printed of a search
abbrev pub printed_search : SearchPart → SearchPart
printed_search s = record { full = s.full; window = unwrap_or (window_told s.window s.nodes) 0; nodes = map printed_node s.nodes }

-- what is printed of a run: all but what a report doesn't say of nodes
abbrev pub printed : ReportParts → ReportParts
printed parts = record parts { search = option_map printed_search parts.search }

-- From the text of a report just what it prints is read.
abbrev pub WrittenIsRead : Type 0
WrittenIsRead = (parts : ReportParts) (skipped : ℕ) → IsWritten parts skipped
    → report_in (report_text parts skipped) ≡ Ok (record { parts = printed parts; skipped = skipped })
