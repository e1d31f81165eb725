-- A report as a table.
use Rattle.std.specs.Prelude.{ℕ, ◌+◌, if◌then◌else◌, Option, Some, None, List, [], ◌∷◌, ◌++◌, codes}
use Rattle.std.specs.Fmt.{decimal}
use Rattle.pn_types.specs.Texts.{cause_text, stop_text}
use Rattle.pn_types.specs.declared.pick.PickCause.{PickCause}
use Rattle.fold_hist.specs.declared.bin.Bin.{Bin}
use Rattle.report.specs.declared.parts.HartPart.{HartPart}
use Rattle.report.specs.declared.parts.NodePart.{NodePart}
use Rattle.report.specs.declared.parts.RefusedPart.{RefusedPart}
use Rattle.report.specs.declared.parts.ReportParts.{ReportParts}
use Rattle.report.specs.declared.parts.SearchPart.{SearchPart}
use Rattle.report.specs.declared.parts.ShownPart.{ShownPart}
use Rattle.report_json.specs.Fields.{bar_cause, of_verdict, seen_by, state_word, stop_code}
use Rattle.report_csv.specs.Cells.{Cells, blank, lines, names, optional, row, signed}

-- ---- the run

abbrev pub format_row : Cells
format_row = record blank { kind = codes "format"; number = codes "1"; name = codes "paradyn report" }

abbrev pub skipped_row : ℕ → Cells
skipped_row skipped = record blank { kind = codes "skipped"; value = decimal skipped }

abbrev pub samples_row : ℕ → Cells
samples_row samples = record blank { kind = codes "samples"; samples = decimal samples }

abbrev pub hart_row : ℕ → HartPart → Cells
hart_row n hart = record blank {
  kind = codes "hart";
  number = decimal n;
  state = stop_text hart.stop;
  value = optional (stop_code hart.stop);
  ticks = decimal hart.ticks;
  pc = decimal hart.pc;
}

-- the harts that are numbered from n on
abbrev pub hart_rows : ℕ → List HartPart → List (List (List ℕ))
hart_rows n [] = []
hart_rows n (hart ∷ harts) = row (hart_row n hart) ∷ hart_rows (n + 1) harts

abbrev pub output_row : List ℕ → Cells
output_row output = record blank { kind = codes "output"; text = output }

abbrev pub run_rows : ℕ → ReportParts → List (List (List ℕ))
run_rows skipped parts =
    row format_row ∷ row (skipped_row skipped) ∷ row (samples_row parts.samples) ∷ hart_rows 0 parts.harts ++ row (output_row parts.output) ∷ []

-- ---- wishes and histograms

abbrev pub refused_row : ℕ → RefusedPart → Cells
refused_row n wish = record blank {
  kind = codes "refused";
  number = decimal n;
  name = wish.metric;
  focus = wish.focus;
  state = (if wish.show then codes "show" else codes "drop");
  from = decimal wish.at;
  text = cause_text wish.cause;
}

abbrev pub refused_rows : ℕ → List RefusedPart → List (List (List ℕ))
refused_rows n [] = []
refused_rows n (wish ∷ wishes) = row (refused_row n wish) ∷ refused_rows (n + 1) wishes

abbrev pub shown_row : ℕ → ShownPart → Cells
shown_row n shown = record blank {
  kind = codes "shown";
  number = decimal n;
  name = shown.metric;
  focus = shown.focus;
  units = shown.units;
  samples = decimal shown.width;
  from = optional shown.from;
}

-- bin number n of a histogram
abbrev pub bin_row : ℕ → ℕ → Bin → Cells
bin_row histogram n bin = record blank {
  kind = codes "bin";
  number = decimal n;
  parent = decimal histogram;
  from = decimal bin.from;
  to = decimal bin.to;
  value = signed bin.sum;
}

abbrev pub bin_rows : ℕ → ℕ → List Bin → List (List (List ℕ))
bin_rows histogram n [] = []
bin_rows histogram n (bin ∷ bins) = row (bin_row histogram n bin) ∷ bin_rows histogram (n + 1) bins

-- each histogram, and its bins
abbrev pub shown_rows : ℕ → List ShownPart → List (List (List ℕ))
shown_rows n [] = []
shown_rows n (shown ∷ more) = row (shown_row n shown) ∷ bin_rows n 0 shown.bins ++ shown_rows (n + 1) more

-- ---- the search

abbrev pub search_row : SearchPart → Cells
search_row search = record blank { kind = codes "search"; state = (if search.full then codes "full" else []); samples = decimal search.window }

abbrev pub optional_cause : Option PickCause → List ℕ
optional_cause None = []
optional_cause (Some cause) = cause_text cause

abbrev pub node_row : ℕ → NodePart → Cells
node_row n part = record blank {
  kind = codes "node";
  number = decimal n;
  name = part.hypothesis;
  focus = part.focus;
  phase = part.phase;
  parent = optional part.node.parent;
  state = state_word part.node.state;
  samples = optional (seen_by part.node.state part.node.seen);
  from = optional (of_verdict part.node.state part.node.from);
  to = optional (of_verdict part.node.state part.node.to);
  value = optional (of_verdict part.node.state part.node.value);
  ticks = optional (of_verdict part.node.state part.node.ticks);
  text = optional_cause (bar_cause part.node.state);
}

abbrev pub node_rows : ℕ → List NodePart → List (List (List ℕ))
node_rows n [] = []
node_rows n (part ∷ parts) = row (node_row n part) ∷ node_rows (n + 1) parts

abbrev pub search_rows : Option SearchPart → List (List (List ℕ))
search_rows None = []
search_rows (Some search) = row (search_row search) ∷ node_rows 0 search.nodes

-- ---- all

-- the names, and all rows, of a program with so many function symbols that are no procedures
abbrev pub report_rows : ℕ → ReportParts → List (List (List ℕ))
report_rows skipped parts =
    names ∷ run_rows skipped parts ++ refused_rows 0 parts.refused ++ shown_rows 0 parts.shown ++ search_rows parts.search

unfoldable pub report_csv : ℕ → ReportParts → List ℕ
report_csv skipped parts = lines (report_rows skipped parts)
