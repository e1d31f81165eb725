-- What differs between two reports.
use Rattle.std.specs.Prelude.{ℕ, if◌then◌else◌, List, [], ◌++◌, codes}
use Rattle.std.specs.Option.{option_map_or}
use Rattle.pn_text.specs.Lines.{is_none}
use Rattle.report.specs.declared.parts.NodePart.{NodePart}
use Rattle.report.specs.declared.parts.ReportParts.{ReportParts}
use Rattle.report_diff.specs.Runs.{harts_diff, output_diff}
use Rattle.report_diff.specs.Sums.{histograms_diff}
use Rattle.report_diff.specs.Verdicts.{nodes_diff}
use Rattle.report_diff.specs.Wishes.{wishes_diff}

-- the nodes of the search, if there was one
abbrev pub nodes_of : ReportParts → List NodePart
nodes_of parts = option_map_or (λ search. search.nodes) parts.search []

-- the harts, the output, the histograms, the wishes that were refused, and the search
unfoldable pub differences : ReportParts → ReportParts → List ℕ
differences old new =
    harts_diff old.harts new.harts ++ output_diff old.output new.output ++ histograms_diff old.shown new.shown
    ++ wishes_diff old.refused new.refused ++ nodes_diff (nodes_of old) (nodes_of new)

-- these, or that there are none
unfoldable pub diff_text : ReportParts → ReportParts → List ℕ
diff_text old new = if is_none (differences old new) then codes "nothing differs\n" else differences old new
