-- A report as a person looks at it.
use Rattle.std.specs.Prelude.{ℕ, Bool, None, List, [], ◌++◌}
use Rattle.std.specs.Option.{option_map_or}
use Rattle.report.specs.declared.parts.ReportParts.{ReportParts}
use Rattle.report.specs.declared.parts.SearchPart.{SearchPart}
use Rattle.report_view.specs.Causes.{causes_lines}
use Rattle.report_view.specs.Harts.{run_view}
use Rattle.report_view.specs.Histograms.{histograms_view}
use Rattle.report_view.specs.Searches.{counts_lines, tree_lines}
use Rattle.report_view.specs.Trees.{truth_tree}

-- how many nodes came to what, the causes, and the tree of what was true
abbrev pub search_view : SearchPart → List ℕ
search_view s = counts_lines s ++ causes_lines s.nodes (truth_tree s.nodes) ++ tree_lines s.nodes None (truth_tree s.nodes)

-- the run, what was refused and shown, and the search, in so many columns, with bars of ASCII signs or of Unicode's blocks
abbrev pub report_view : Bool → ℕ → ReportParts → List ℕ
report_view ascii columns parts = run_view parts ++ histograms_view ascii columns parts ++ option_map_or search_view parts.search []
