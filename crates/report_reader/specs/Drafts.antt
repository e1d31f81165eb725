-- What was read of a report so far, and what its next line must be. A line, which is without its LF, is right if it is the line of what
-- was read from it.
use Rattle.std.specs.Prelude.{ℕ, zero, suc, ◌==◌, nat_le, if◌then◌else◌, bytes_eq, Option, Some, None, List, [], ◌∷◌, ◌++◌, codes, length}
use Rattle.std.specs.Fmt.{decimal}
use Rattle.std.specs.Option.{option_and_then, option_or, unwrap_or}
use Rattle.pn_text.specs.Bytes.{begins_with}
use Rattle.report.specs.SearchTexts.{node_line, nodes_line}
use Rattle.report.specs.ShownTexts.{bin_line, histogram_head, refused_line}
use Rattle.report.specs.Text.{hart_line, numbers_line}
use Rattle.report.specs.declared.parts.ShownPart.{ShownPart}
use Rattle.advice.specs.Words.{number_at}
use Rattle.report_lines.specs.Causes.{says}
use Rattle.report_lines.specs.Lines.{bin_of_line, bins_of_line, hart_of_line, histogram_of_line, node_of_line, refused_of_line, window_of_line}
use Rattle.report_lines.specs.Words.{short_at}
use Rattle.report_reader.specs.declared.draft.Draft.{Draft}
use Rattle.report_reader.specs.declared.draft.SearchDraft.{SearchDraft}
use Rattle.report_reader.specs.declared.due.Due.{Due}
use Rattle.report_reader.specs.declared.due.Due.TheVariants.{Title, Numbers, Harts, Output, Shown, Bins, Nodes}

-- nothing was read
abbrev pub blank : Draft
blank = record {
  due = Title;
  ticks = 0;
  samples = 0;
  skipped = 0;
  harts = [];
  output = [];
  refused = [];
  shown = [];
  begun = None;
  search = None;
}

-- the next draft, if the line with its LF is this text
abbrev pub if_line : List ℕ → List ℕ → Draft → Option Draft
if_line line text next = if bytes_eq (line ++ 10 ∷ []) text then Some next else None

-- ---- the run

abbrev pub after_title : Draft → List ℕ → Option Draft
after_title d line = if bytes_eq line (codes "paradyn report 1") then Some (record d { due = Numbers }) else None

-- of 32 harts at most
abbrev pub after_numbers_line : Draft → List ℕ → Option Draft
after_numbers_line d line =
    if nat_le (number_at 1 line) 32 then
    if_line line (numbers_line (number_at 1 line) (number_at 3 line) (number_at 5 line) (short_at 7 line))
    (record d { due = Harts (number_at 1 line); ticks = number_at 3 line; samples = number_at 5 line; skipped = short_at 7 line })
    else None

abbrev pub after_hart : Draft → ℕ → List ℕ → Option Draft
after_hart d left line =
    if_line line (hart_line (length d.harts) (hart_of_line line)) (record d { due = Harts left; harts = d.harts ++ hart_of_line line ∷ [] })

abbrev pub after_length : Draft → List ℕ → Option Draft
after_length d line = if_line line (codes "output " ++ decimal (number_at 1 line) ++ codes "\n") (record d { due = Output (number_at 1 line) })

-- what the program wrote may be anything
abbrev pub after_output : Draft → List ℕ → Option Draft
after_output d line = Some (record d { due = Shown; output = line })

-- ---- what was refused and shown

-- before all that was shown
abbrev pub after_refused : Draft → List ℕ → Option Draft
after_refused d line =
    if length d.shown == 0 then if_line line (refused_line (refused_of_line line)) (record d { refused = d.refused ++ refused_of_line line ∷ [] })
    else None

-- the histogram is whole where no bins are left
abbrev pub with_histogram : Draft → ℕ → ShownPart → Draft
with_histogram d zero part = record d { due = Shown; begun = None; shown = d.shown ++ part ∷ [] }
with_histogram d (suc left) part = record d { due = Bins (suc left); begun = Some part }

abbrev pub after_histogram : Draft → List ℕ → Option Draft
after_histogram d line =
    if_line line (histogram_head (bins_of_line line) (histogram_of_line line)) (with_histogram d (bins_of_line line) (histogram_of_line line))

abbrev pub with_bin : ShownPart → List ℕ → ShownPart
with_bin part line = record part { bins = part.bins ++ bin_of_line line ∷ [] }

abbrev pub after_bin : Draft → ℕ → List ℕ → Option Draft
after_bin d left line =
    option_and_then (λ part. if_line line (bin_line (length part.bins) (bin_of_line line)) (with_histogram d left (with_bin part line))) d.begun

-- ---- the search

abbrev pub blank_search : List ℕ → SearchDraft
blank_search line = record { full = says 3 line (codes "full"); window = None; nodes = [] }

-- of 4,096 nodes at most
abbrev pub after_search : Draft → List ℕ → Option Draft
after_search d line =
    if nat_le (number_at 2 line) 4096 then
    if_line line (nodes_line (number_at 2 line) (says 3 line (codes "full")))
    (record d { due = Nodes (number_at 2 line); search = Some (blank_search line) })
    else None

-- the first line that tells a window tells that of all
abbrev pub window_with : Option ℕ → List ℕ → Option ℕ
window_with window line = option_or window (window_of_line line)

abbrev pub with_node_line : SearchDraft → List ℕ → SearchDraft
with_node_line s line = record s { window = window_with s.window line; nodes = s.nodes ++ node_of_line line ∷ [] }

abbrev pub after_node : Draft → ℕ → List ℕ → Option Draft
after_node d left line =
    option_and_then (λ s. if_line line (node_line (unwrap_or (window_with s.window line) 0) (length s.nodes) (node_of_line line))
    (record d { due = Nodes left; search = Some (with_node_line s line) })) d.search

abbrev pub after_shown : Draft → List ℕ → Option Draft
after_shown d line =
    if begins_with (codes "refused ") line then after_refused d line
    else if begins_with (codes "histogram ") line then after_histogram d line
    else after_search d line

-- ---- each line

-- the draft after a line where this is due; None where the line isn't right
abbrev pub after_due : Draft → Due → List ℕ → Option Draft
after_due d Title line = after_title d line
after_due d Numbers line = after_numbers_line d line
after_due d (Harts zero) line = after_length d line
after_due d (Harts (suc left)) line = after_hart d left line
after_due d (Output n) line = after_output d line
after_due d Shown line = after_shown d line
after_due d (Bins zero) line = None
after_due d (Bins (suc left)) line = after_bin d left line
after_due d (Nodes zero) line = None
after_due d (Nodes (suc left)) line = after_node d left line

abbrev pub after : Draft → List ℕ → Option Draft
after d line = after_due d d.due line
