-- A report is read, line by line from its end.
use Rattle.std.proofs.Common.{◌≡◌, ℕ, suc, ◌+◌, ◌<◌, ◌^◌, cond, Bool, true, false, Option, Some, None, IfSome, Ok, List, [], ◌∷◌, ◌++◌, length, flat_map, codes, refl, ap, ◌∙◌, arith, append_assoc}
use Rattle.std.specs.Fmt.{decimal}
use Rattle.std.specs.List.{All, list_all}
use Rattle.std.specs.Option.{option_map_or, option_to_list}
use Rattle.std.specs.Prelude.{sum_by}
use Rattle.std.proofs.lemmas.List.Elements.{All-head, All-tail}
use Rattle.fold_hist.specs.declared.bin.Bin.{Bin}
use Rattle.report.specs.declared.parts.HartPart.{HartPart}
use Rattle.report.specs.declared.parts.NodePart.{NodePart}
use Rattle.report.specs.declared.parts.RefusedPart.{RefusedPart}
use Rattle.report.specs.declared.parts.ReportParts.{ReportParts}
use Rattle.report.specs.declared.parts.SearchPart.{SearchPart}
use Rattle.report.specs.declared.parts.ShownPart.{ShownPart}
use Rattle.report.specs.SearchTexts.{node_line, node_lines, search_head, search_lines}
use Rattle.report.specs.ShownTexts.{bin_line, bin_lines, histogram_line, refused_line, shown_lines}
use Rattle.report.specs.Text.{counts_line, hart_line, hart_lines, output_lines, report_text}
use Rattle.advice.specs.Lines.{due_after}
use Rattle.advice.specs.Reading.{verdicts_from}
use Rattle.advice.specs.Seams.{AreSearchLines, IsHistogramLine, IsNodeLine, IsReadable, IsRefusedLine, IsSmall, ReportIsRead, is_one_line, verdict_on, verdicts_in}
use Rattle.advice.specs.declared.due.Due.{Due}
use Rattle.advice.specs.declared.due.Due.TheVariants.{Title, Counts, Harts, Output, Shown, Nodes}
use Rattle.advice.specs.declared.verdict.Verdict.{Verdict}
use Rattle.advice.proofs.Fits.{number_read, number_fits}
use Rattle.advice.proofs.NodeLines.{node_read}
use Rattle.advice.proofs.PlainLines.{bin, decimal_line, hart, histogram, refused}
use Rattle.advice.proofs.Spaced.{before, before-append, digits_above, is_word, line_before, one_word, words_before}
use Rattle.advice.proofs.Steps.{Reads, counts_due, hart_step, node_step, nodes_due, output_due, output_step, shown_step, step_on, title_step, to_lf_line}

-- the same bytes are read alike
same : (due : Due) (bytes others : List ℕ) (vs : List Verdict) → bytes ≡ others → Reads due others vs → Reads due bytes vs
same due bytes others vs e reads at = ap (verdicts_from due at 0) e ∙ reads at

-- a line before a rest
line_rest : (text body rest : List ℕ) → text ≡ body ++ 10 ∷ [] → text ++ rest ≡ body ++ 10 ∷ rest
line_rest text body rest e = ap (λ (t : List ℕ). t ++ rest) e ∙ append_assoc body (10 ∷ []) rest

-- ---- nodes

abbrev told : List NodePart → List Verdict
told ps = flat_map (λ p. option_to_list (verdict_on p)) ps

nodes : (window i : ℕ) (ps : List NodePart) → IsSmall window → i + length ps < 2 ^ 64 → All IsNodeLine ps → Reads (Nodes (length ps)) (node_lines window i ps) (told ps)
nodes window i [] sized few h = λ at. refl
nodes window i (p ∷ ps) sized few h =
    let r = node_read window i p (All-head IsNodeLine p ps h) (omega arith) sized in
    let rest = node_lines window (i + 1) ps in
    same (Nodes (suc (length ps))) (node_line window i p ++ rest) (r.body ++ 10 ∷ rest) (told (p ∷ ps)) (line_rest (node_line window i p) r.body rest r.is)
    (λ at. node_step (length ps) r.body rest (told ps) r.one r.tells.node (nodes window (i + 1) ps sized (omega arith) (All-tail IsNodeLine p ps h)) at ∙ ap (λ (v : Option Verdict). Ok (option_to_list v ++ told ps)) r.tells.told)

-- ---- the search

-- the line with the number of nodes
record HeadRead (text : List ℕ) (count : ℕ) : Type 0 where
  pub body : List ℕ
  pub is : text ≡ body ++ 10 ∷ []
  pub one : is_one_line body ≡ true
  pub due : due_after Shown body ≡ Some (Nodes count)

head : (full : Bool) (count : ℕ) → IsSmall count → HeadRead (codes "search nodes " ++ (decimal count ++ cond full (codes " full\n") (codes "\n"))) count
head true count small =
    let front = codes "search" ∷ codes "nodes" ∷ decimal count ∷ [] in
    let all : list_all is_word front ≡ true = rw (digits_above 10 count) refl in
    record {
      body = before front (codes "full");
      is = before-append front (codes "full") (codes "\n");
      one = line_before front (codes "full") all refl;
      due = nodes_due (decimal count) (before front (codes "full")) (codes "full" ∷ []) count (words_before front (codes "full") all) (number_read count small) refl refl;
    }
head false count small =
    let front = codes "search" ∷ codes "nodes" ∷ [] in
    record {
      body = before front (decimal count);
      is = before-append front (decimal count) (codes "\n");
      one = line_before front (decimal count) refl (decimal_line count);
      due = nodes_due (decimal count) (before front (decimal count)) [] count (words_before front (decimal count) refl ∙ ap (λ (l : List (List ℕ)). front ++ l) (one_word (decimal count) (digits_above 10 count))) (number_read count small) refl refl;
    }

search : (s : SearchPart) → AreSearchLines s → Reads Shown (search_lines s) (told s.nodes)
search s h =
    let r = head s.full (length s.nodes) h.count in
    let rest = node_lines s.window 0 s.nodes in
    same Shown (search_lines s) (r.body ++ 10 ∷ rest) (told s.nodes) (line_rest (search_head s) r.body rest r.is)
    (step_on Shown (Nodes (length s.nodes)) r.body rest (told s.nodes) (to_lf_line r.body rest r.one) r.due (nodes s.window 0 s.nodes h.window (omega (arith, h.count)) h.nodes))

-- ---- what was shown and refused

bins : (n : ℕ) (bs : List Bin) (rest : List ℕ) (vs : List Verdict) → Reads Shown rest vs → Reads Shown (bin_lines n bs ++ rest) vs
bins n [] rest vs reads = reads
bins n (b ∷ bs) rest vs reads =
    let l = bin n b in
    let line = codes "bin " ++ l.rest in
    same Shown ((bin_line n b ++ bin_lines (n + 1) bs) ++ rest) (line ++ 10 ∷ (bin_lines (n + 1) bs ++ rest)) vs
    (append_assoc (bin_line n b) (bin_lines (n + 1) bs) rest ∙ line_rest (bin_line n b) line (bin_lines (n + 1) bs ++ rest) l.is)
    (shown_step line (bin_lines (n + 1) bs ++ rest) vs l.one refl (bins (n + 1) bs rest vs reads))

shown : (ss : List ShownPart) (rest : List ℕ) (vs : List Verdict) → All IsHistogramLine ss → Reads Shown rest vs → Reads Shown (flat_map shown_lines ss ++ rest) vs
shown [] rest vs h reads = reads
shown (s ∷ ss) rest vs h reads =
    let l = histogram s (All-head IsHistogramLine s ss h) in
    let line = codes "histogram " ++ l.rest in
    let next = bin_lines 0 s.bins ++ (flat_map shown_lines ss ++ rest) in
    same Shown ((shown_lines s ++ flat_map shown_lines ss) ++ rest) (line ++ 10 ∷ next) vs
    (append_assoc (shown_lines s) (flat_map shown_lines ss) rest ∙ append_assoc (histogram_line s) (bin_lines 0 s.bins) (flat_map shown_lines ss ++ rest) ∙ line_rest (histogram_line s) line next l.is)
    (shown_step line next vs l.one refl (bins 0 s.bins (flat_map shown_lines ss ++ rest) vs (shown ss rest vs (All-tail IsHistogramLine s ss h) reads)))

refusals : (rs : List RefusedPart) (rest : List ℕ) (vs : List Verdict) → All IsRefusedLine rs → Reads Shown rest vs → Reads Shown (flat_map refused_line rs ++ rest) vs
refusals [] rest vs h reads = reads
refusals (r ∷ rs) rest vs h reads =
    let l = refused r (All-head IsRefusedLine r rs h) in
    let line = codes "refused " ++ l.rest in
    let next = flat_map refused_line rs ++ rest in
    same Shown ((refused_line r ++ flat_map refused_line rs) ++ rest) (line ++ 10 ∷ next) vs
    (append_assoc (refused_line r) (flat_map refused_line rs) rest ∙ line_rest (refused_line r) line next l.is)
    (shown_step line next vs l.one refl (refusals rs rest vs (All-tail IsRefusedLine r rs h) reads))

-- ---- harts and output

harts : (n : ℕ) (hs : List HartPart) (rest : List ℕ) (vs : List Verdict) → Reads (Harts 0) rest vs → Reads (Harts (length hs)) (hart_lines n hs ++ rest) vs
harts n [] rest vs reads = reads
harts n (h ∷ hs) rest vs reads =
    let l = hart n h in
    let line = codes "hart " ++ l.rest in
    let next = hart_lines (n + 1) hs ++ rest in
    same (Harts (suc (length hs))) ((hart_line n h ++ hart_lines (n + 1) hs) ++ rest) (line ++ 10 ∷ next) vs
    (append_assoc (hart_line n h) (hart_lines (n + 1) hs) rest ∙ line_rest (hart_line n h) line next l.is)
    (hart_step (length hs) line next vs l.one refl (harts (n + 1) hs rest vs reads))

output : (bytes rest : List ℕ) (vs : List Verdict) → IsSmall (length bytes) → Reads Shown rest vs → Reads (Harts 0) (output_lines bytes ++ rest) vs
output bytes rest vs small reads =
    let count = length bytes in
    let line = codes "output " ++ decimal count in
    let is = words_before (codes "output" ∷ []) (decimal count) refl ∙ ap (λ (l : List (List ℕ)). codes "output" ∷ l) (one_word (decimal count) (digits_above 10 count)) in
    same (Harts 0) (output_lines bytes ++ rest) (line ++ 10 ∷ (bytes ++ 10 ∷ rest)) vs (simp append_assoc)
    (step_on (Harts 0) (Output count) line (bytes ++ 10 ∷ rest) vs (to_lf_line line (bytes ++ 10 ∷ rest) (decimal_line count)) (output_due (decimal count) line count is (number_read count small)) (output_step bytes rest vs reads))

counts : (parts : ReportParts) (skipped : ℕ) (rest : List ℕ) (vs : List Verdict) → IsReadable parts skipped → Reads (Harts (length parts.harts)) rest vs → Reads Counts (counts_line parts skipped ++ rest) vs
counts parts skipped rest vs h reads =
    let hart_count = length parts.harts in
    let ticks = sum_by (λ part. part.ticks) parts.harts in
    let front = codes "harts" ∷ decimal hart_count ∷ codes "ticks" ∷ decimal ticks ∷ codes "samples" ∷ decimal parts.samples ∷ codes "skipped" ∷ [] in
    let all : list_all is_word front ≡ true = rw (digits_above 10 hart_count, digits_above 10 ticks, digits_above 10 parts.samples) refl in
    let line = before front (decimal skipped) in
    let is = words_before front (decimal skipped) all ∙ ap (λ (l : List (List ℕ)). front ++ l) (one_word (decimal skipped) (digits_above 10 skipped)) in
    same Counts (counts_line parts skipped ++ rest) (line ++ 10 ∷ rest) vs (simp append_assoc)
    (step_on Counts (Harts hart_count) line rest vs (to_lf_line line rest (line_before front (decimal skipped) all (decimal_line skipped)))
    (counts_due (decimal hart_count) (decimal ticks) (decimal parts.samples) (decimal skipped) line hart_count is (number_read hart_count h.harts) (number_fits ticks h.ticks) (number_fits parts.samples h.samples) (number_fits skipped h.symbols)) reads)

-- ---- the report

found : (o : Option SearchPart) → IfSome o AreSearchLines → Reads Shown (option_map_or search_lines o []) (option_map_or (λ s. told s.nodes) o [])
found None h = λ at. refl
found (Some s) h = search s h

regroup : (a b c d e f g : List ℕ) → a ++ b ++ c ++ d ++ e ++ f ++ g ≡ a ++ (b ++ (c ++ (d ++ (e ++ (f ++ g)))))
regroup a b c d e f g = simp append_assoc

pub report_is_read : ReportIsRead
report_is_read parts skipped h =
    let vs = verdicts_in parts in
    let searched = option_map_or search_lines parts.search [] in
    let shown_rest = flat_map shown_lines parts.shown ++ searched in
    let refused_rest = flat_map refused_line parts.refused ++ shown_rest in
    let output_rest = output_lines parts.output ++ refused_rest in
    let hart_rest = hart_lines 0 parts.harts ++ output_rest in
    let title = codes "paradyn report 1\n" in
    same Title (report_text parts skipped) (title ++ (counts_line parts skipped ++ hart_rest)) vs
    (regroup title (counts_line parts skipped) (hart_lines 0 parts.harts) (output_lines parts.output) (flat_map refused_line parts.refused) (flat_map shown_lines parts.shown) searched)
    (title_step (counts_line parts skipped ++ hart_rest) vs
    (counts parts skipped hart_rest vs h (harts 0 parts.harts output_rest vs (output parts.output refused_rest vs h.output
    (refusals parts.refused shown_rest vs h.refused (shown parts.shown searched vs h.shown (found parts.search h.search))))))) 0
