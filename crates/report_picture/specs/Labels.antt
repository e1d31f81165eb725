-- What is said of harts, histograms and nodes.
use Rattle.std.specs.Prelude.{ℕ, List, ◌++◌, codes, length, take}
use Rattle.std.specs.Fmt.{decimal}
use Rattle.fold_hist.specs.Bins.{hist_of, Histogram}
use Rattle.pn_types.specs.Texts.{address, stop_text}
use Rattle.report.specs.declared.parts.HartPart.{HartPart}
use Rattle.report.specs.declared.parts.NodePart.{NodePart}
use Rattle.report.specs.declared.parts.ShownPart.{ShownPart}
use Rattle.report_view.specs.Bars.{bin_values, most_bins}
use Rattle.report_view.specs.Foci.{short_focus}
use Rattle.report_view.specs.Searches.{hypothesis_text}
use Rattle.report_view.specs.Signed.{greatest, signed_number, sum_of}

-- how and where a hart ended
unfoldable pub hart_name : ℕ → HartPart → List ℕ
hart_name n part =
    codes "hart " ++ decimal n ++ codes ": " ++ decimal part.ticks ++ codes " ticks, " ++ stop_text part.stop ++ codes " at " ++ address part.pc

-- ---- histograms

-- the metric, its units and the focus
unfoldable pub histogram_name : ShownPart → List ℕ
histogram_name s = s.metric ++ codes " in " ++ s.units ++ codes ", " ++ short_focus s.focus

-- the steps that are drawn of bins: which are joined, each two of them, each four, and so on, until there are at most 512
unfoldable pub steps_of : ShownPart → Histogram
steps_of s = hist_of 512 (take most_bins s.bins)

-- the sum of values, and the greatest
unfoldable pub value_sums : List ℕ → List ℕ
value_sums values = codes "sum " ++ signed_number (sum_of values) ++ codes ", greatest bin " ++ signed_number (greatest values)

-- how many bins there are, and how many of them a step joins
unfoldable pub bin_counts : ℕ → ℕ → List ℕ
bin_counts width count = codes ", bins " ++ decimal count ++ codes ", bins in a step " ++ decimal width

unfoldable pub histogram_sums : ℕ → ShownPart → List ℕ
histogram_sums width s = value_sums (bin_values s.bins) ++ bin_counts width (length s.bins)

-- ---- nodes

-- the hypothesis, at a root, and the focus
unfoldable pub node_name : ℕ → NodePart → List ℕ
node_name depth part = hypothesis_text depth part ++ short_focus part.focus

-- from when to when it was tested
unfoldable pub node_window : NodePart → List ℕ
node_window part = codes ", ticks " ++ decimal part.node.from ++ codes " to " ++ decimal part.node.to
