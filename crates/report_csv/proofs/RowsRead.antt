-- The rows of a report are read back.
use Rattle.std.proofs.Common.{◌≡◌, ℕ, ◌+◌, List, [], ◌∷◌, ◌++◌, Option, Some, None, refl, sym}
use Rattle.std.specs.List.{AllByRecursion}
use Rattle.csv.specs.Machine.{next_record}
use Rattle.csv.specs.Reading.{AreRecords, Reached, default_config}
use Rattle.csv.specs.Writing.{read_back}
use Rattle.csv.specs.declared.parser.State.TheVariants as st
use Rattle.csv.proofs.RoundTrip.{read-write}
use Rattle.fold_hist.specs.declared.bin.Bin.{Bin}
use Rattle.report.specs.declared.parts.HartPart.{HartPart}
use Rattle.report.specs.declared.parts.NodePart.{NodePart}
use Rattle.report.specs.declared.parts.RefusedPart.{RefusedPart}
use Rattle.report.specs.declared.parts.ReportParts.{ReportParts}
use Rattle.report.specs.declared.parts.SearchPart.{SearchPart}
use Rattle.report.specs.declared.parts.ShownPart.{ShownPart}
use Rattle.report_csv.specs.Cells.{line, lines, names}
use Rattle.report_csv.specs.Report.{bin_rows, hart_rows, node_rows, refused_rows, report_csv, report_rows, run_rows, search_rows, shown_rows}

-- each row has a cell
abbrev HaveCells : List (List (List ℕ)) → Type 0
HaveCells rows = AllByRecursion (λ row. read_back row ≡ row) rows

reached : (rows : List (List (List ℕ))) → HaveCells rows → Reached default_config st.StartRecord (lines rows) rows st.StartRecord []
unfolding Reached line
reached [] h = (refl, refl)
reached (row ∷ rows) h = ((read_back row, st.StartRecord, lines rows), read-write row (lines rows), sym h.0, reached rows h.1)

both : (xs ys : List (List (List ℕ))) → HaveCells xs → HaveCells ys → HaveCells (xs ++ ys)
both [] ys h k = k
both (x ∷ xs) ys h k = (h.0, both xs ys h.1 k)

harts : (n : ℕ) (parts : List HartPart) → HaveCells (hart_rows n parts)
harts n [] = tt
harts n (part ∷ parts) = (refl, harts (n + 1) parts)

refused : (n : ℕ) (parts : List RefusedPart) → HaveCells (refused_rows n parts)
refused n [] = tt
refused n (part ∷ parts) = (refl, refused (n + 1) parts)

bins : (histogram n : ℕ) (more : List Bin) → HaveCells (bin_rows histogram n more)
bins histogram n [] = tt
bins histogram n (bin ∷ more) = (refl, bins histogram (n + 1) more)

shown : (n : ℕ) (parts : List ShownPart) → HaveCells (shown_rows n parts)
shown n [] = tt
shown n (part ∷ parts) = (refl, both (bin_rows n 0 part.bins) (shown_rows (n + 1) parts) (bins n 0 part.bins) (shown (n + 1) parts))

nodes : (n : ℕ) (parts : List NodePart) → HaveCells (node_rows n parts)
nodes n [] = tt
nodes n (part ∷ parts) = (refl, nodes (n + 1) parts)

search : (part : Option SearchPart) → HaveCells (search_rows part)
search None = tt
search (Some part) = (refl, nodes 0 part.nodes)

run : (skipped : ℕ) (parts : ReportParts) → HaveCells (run_rows skipped parts)
run skipped parts = (refl, (refl, (refl, both (hart_rows 0 parts.harts) _ (harts 0 parts.harts) (refl, tt))))

all : (w x y z : List (List (List ℕ))) → HaveCells w → HaveCells x → HaveCells y → HaveCells z → HaveCells (names ∷ w ++ x ++ y ++ z)
all w x y z a b c d = (refl, both (w ++ x ++ y) z (both (w ++ x) y (both w x a b) c) d)

all_rows : (skipped : ℕ) (parts : ReportParts) → HaveCells (report_rows skipped parts)
all_rows skipped parts =
    all (run_rows skipped parts) (refused_rows 0 parts.refused) (shown_rows 0 parts.shown) (search_rows parts.search)
    (run skipped parts) (refused 0 parts.refused) (shown 0 parts.shown) (search parts.search)

pub rows_read : (skipped : ℕ) (parts : ReportParts) → AreRecords default_config st.StartRecord (report_csv skipped parts) (report_rows skipped parts)
unfolding report_csv next_record
rows_read skipped parts = (st.StartRecord, [], reached (report_rows skipped parts) (all_rows skipped parts), refl)
