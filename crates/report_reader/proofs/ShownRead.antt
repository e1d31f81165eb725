-- The lines on wishes that were refused and on histograms are read.
use Rattle.std.proofs.Common.{◌≡◌, ℕ, zero, suc, ◌+◌, ◌==◌, cond, Option, Some, None, List, [], ◌∷◌, ◌++◌, length, flat_map, codes, refl, sym, ap, ◌∙◌, arith, append_assoc, append-nil, length-append}
use Rattle.std.specs.List.{All}
use Rattle.std.proofs.lemmas.List.Elements.{All-head, All-tail}
use Rattle.fold_hist.specs.declared.bin.Bin.{Bin}
use Rattle.report.specs.ShownTexts.{bin_line, bin_lines, histogram_head, histogram_line, refused_line, shown_lines}
use Rattle.report.specs.declared.parts.RefusedPart.{RefusedPart}
use Rattle.report.specs.declared.parts.ShownPart.{ShownPart}
use Rattle.advice.specs.Seams.{IsHistogramLine, IsRefusedLine}
use Rattle.advice.proofs.PlainLines.{bin, histogram, refused}
use Rattle.advice.proofs.Spaced.{word_line}
use Rattle.advice.proofs.Steps.{to_lf_line}
use Rattle.report_lines.specs.Laws.{BinIsRead, HistogramIsRead, RefusedIsRead}
use Rattle.report_lines.specs.Lines.{bin_of_line, bins_of_line, refused_of_line}
use Rattle.report_lines.specs.Readable.{IsBin, IsHistogramPart, IsRefusedPart}
use Rattle.report_reader.specs.Drafts.{after, if_line, with_histogram}
use Rattle.report_reader.specs.Readable.{IsShownPart}
use Rattle.report_reader.specs.declared.draft.Draft.{Draft}
use Rattle.report_reader.specs.declared.due.Due.{Due}
use Rattle.report_reader.specs.declared.due.Due.TheVariants.{Shown, Bins}
use Rattle.report_reader.specs.declared.whole_report.Report.{Report}
use Rattle.report_reader.proofs.ReadSteps.{Reads, if_right, line_rest, same, same_draft, take_line}

-- ---- wishes

module _ (refused_is_read : RefusedIsRead) where
  refused_plain : (p : RefusedPart) → IsRefusedPart p → IsRefusedLine p
  refused_plain p h = record { metric = word_line p.metric h.metric; focus = word_line p.focus h.focus }

  one_refused : (d : Draft) (p : RefusedPart) (rest : List ℕ) → IsRefusedPart p → d.shown ≡ [] → (codes "refused " ++ rest) ++ 10 ∷ [] ≡ refused_line p → after (record d { due = Shown }) (codes "refused " ++ rest) ≡ Some (record d { due = Shown; refused = d.refused ++ p ∷ [] })
  one_refused d p rest good none is =
      let line = codes "refused " ++ rest in
      let same_part : refused_of_line line ≡ p = refused_is_read p line good is in
      ap (λ (ss : List ShownPart). cond (length ss == 0) (if_line line (refused_line (refused_of_line line)) (record d { due = Shown; refused = d.refused ++ refused_of_line line ∷ [] })) None) none
      ∙ ap (λ (q : RefusedPart). if_line line (refused_line q) (record d { due = Shown; refused = d.refused ++ q ∷ [] })) same_part
      ∙ if_right line (refused_line p) (record d { due = Shown; refused = d.refused ++ p ∷ [] }) is

  pub refusals_read : (d : Draft) (rs : List RefusedPart) (rest : List ℕ) (r : Report) → All IsRefusedPart rs → d.shown ≡ [] → Reads (record d { due = Shown; refused = d.refused ++ rs }) rest r → Reads (record d { due = Shown }) (flat_map refused_line rs ++ rest) r
  refusals_read d [] rest r good none more =
      same_draft (record d { due = Shown }) (record d { due = Shown; refused = d.refused ++ [] }) rest r (ap (λ (l : List RefusedPart). record d { due = Shown; refused = l }) (sym (append-nil d.refused))) more
  refusals_read d (p ∷ rs) rest r good none more =
      let head = All-head IsRefusedPart p rs good in
      let l = refused p (refused_plain p head) in
      let line = codes "refused " ++ l.rest in
      let next = record d { refused = d.refused ++ p ∷ [] } in
      let behind = flat_map refused_line rs ++ rest in
      let split = append_assoc (refused_line p) (flat_map refused_line rs) rest ∙ line_rest (refused_line p) line behind l.is in
      let all = same_draft (record next { due = Shown; refused = next.refused ++ rs }) (record d { due = Shown; refused = d.refused ++ p ∷ rs }) rest r (ap (λ (x : List RefusedPart). record d { due = Shown; refused = x }) (append_assoc d.refused (p ∷ []) rs)) more in
      same (record d { due = Shown }) _ (line ++ 10 ∷ behind) r split
      (take_line (record d { due = Shown }) (record next { due = Shown }) line behind r (to_lf_line line behind l.one)
      (one_refused d p l.rest head none (sym l.is)) (refusals_read next rs rest r (All-tail IsRefusedPart p rs good) none all))

-- ---- bins

pub same_put : (d : Draft) (due : Due) (open_part : Option ShownPart) (n : ℕ) (part : ShownPart) → with_histogram (record d { due = due; begun = open_part }) n part ≡ with_histogram d n part
same_put d due open_part zero part = refl
same_put d due open_part (suc n) part = refl

abbrev with_bins : ShownPart → List Bin → ShownPart
with_bins part bs = record part { bins = bs }

abbrev whole : Draft → ShownPart → Draft
whole d part = record d { due = Shown; begun = None; shown = d.shown ++ part ∷ [] }

module _ (bin_is_read : BinIsRead) where
  one_bin : (d : Draft) (part : ShownPart) (left : ℕ) (b : Bin) (line : List ℕ) → IsBin b → line ++ 10 ∷ [] ≡ bin_line (length part.bins) b → after (with_histogram d (suc left) part) line ≡ Some (with_histogram d left (with_bins part (part.bins ++ b ∷ [])))
  one_bin d part left b line good is =
      let same_one : bin_of_line line ≡ b = bin_is_read (length part.bins) b line good is in
      let next = with_bins part (part.bins ++ b ∷ []) in
      ap (λ (x : Bin). if_line line (bin_line (length part.bins) x) (with_histogram (record d { due = Bins (suc left); begun = Some part }) left (with_bins part (part.bins ++ x ∷ [])))) same_one
      ∙ ap (λ (e : Draft). if_line line (bin_line (length part.bins) b) e) (same_put d (Bins (suc left)) (Some part) left next)
      ∙ if_right line (bin_line (length part.bins) b) (with_histogram d left next) is

  bins_read : (d : Draft) (part : ShownPart) (bs : List Bin) (rest : List ℕ) (r : Report) → All IsBin bs → Reads (whole d (with_bins part (part.bins ++ bs))) rest r → Reads (with_histogram d (length bs) part) (bin_lines (length part.bins) bs ++ rest) r
  bins_read d part [] rest r good more =
      same_draft (whole d part) (whole d (with_bins part (part.bins ++ []))) rest r (ap (λ (l : List Bin). whole d (with_bins part l)) (sym (append-nil part.bins))) more
  bins_read d part (b ∷ bs) rest r good more =
      let l = bin (length part.bins) b in
      let line = codes "bin " ++ l.rest in
      let next = with_bins part (part.bins ++ b ∷ []) in
      let number : length part.bins + 1 ≡ length next.bins = omega (arith, length-append part.bins (b ∷ [])) in
      let behind = bin_lines (length part.bins + 1) bs ++ rest in
      let split = append_assoc (bin_line (length part.bins) b) (bin_lines (length part.bins + 1) bs) rest ∙ line_rest (bin_line (length part.bins) b) line behind l.is in
      let all = same_draft (whole d (with_bins next (next.bins ++ bs))) (whole d (with_bins part (part.bins ++ b ∷ bs))) rest r (ap (λ (x : List Bin). whole d (with_bins part x)) (append_assoc part.bins (b ∷ []) bs)) more in
      let later = same (with_histogram d (length bs) next) behind (bin_lines (length next.bins) bs ++ rest) r (ap (λ (n : ℕ). bin_lines n bs ++ rest) number) (bins_read d next bs rest r (All-tail IsBin b bs good) all) in
      same (with_histogram d (suc (length bs)) part) _ (line ++ 10 ∷ behind) r split
      (take_line (with_histogram d (suc (length bs)) part) (with_histogram d (length bs) next) line behind r (to_lf_line line behind l.one)
      (one_bin d part (length bs) b line (All-head IsBin b bs good) (sym l.is)) later)

  -- ---- histograms

  module _ (histogram_is_read : HistogramIsRead) where
    histogram_plain : (s : ShownPart) → IsHistogramPart s → IsHistogramLine s
    histogram_plain s h = record { metric = word_line s.metric h.metric; focus = word_line s.focus h.focus; units = h.units }

    first_line_read : (d : Draft) (s : ShownPart) (rest : List ℕ) → IsShownPart s → (codes "histogram " ++ rest) ++ 10 ∷ [] ≡ histogram_line s → after (record d { due = Shown }) (codes "histogram " ++ rest) ≡ Some (with_histogram (record d { due = Shown }) (length s.bins) (with_bins s []))
    first_line_read d s rest good is =
        let line = codes "histogram " ++ rest in
        let told = histogram_is_read (length s.bins) s line good.count good.histogram is in
        ap (λ (p : ShownPart). if_line line (histogram_head (bins_of_line line) p) (with_histogram (record d { due = Shown }) (bins_of_line line) p)) told.0
        ∙ ap (λ (n : ℕ). if_line line (histogram_head n (with_bins s [])) (with_histogram (record d { due = Shown }) n (with_bins s []))) told.1
        ∙ if_right line (histogram_line s) (with_histogram (record d { due = Shown }) (length s.bins) (with_bins s [])) is

    pub shown_read : (d : Draft) (ss : List ShownPart) (rest : List ℕ) (r : Report) → All IsShownPart ss → Reads (record d { due = Shown; begun = None; shown = d.shown ++ ss }) rest r → Reads (record d { due = Shown; begun = None }) (flat_map shown_lines ss ++ rest) r
    shown_read d [] rest r good more =
        same_draft (record d { due = Shown; begun = None }) (record d { due = Shown; begun = None; shown = d.shown ++ [] }) rest r (ap (λ (l : List ShownPart). record d { due = Shown; begun = None; shown = l }) (sym (append-nil d.shown))) more
    shown_read d (s ∷ ss) rest r good more =
        let head = All-head IsShownPart s ss good in
        let l = histogram s (histogram_plain s head.histogram) in
        let line = codes "histogram " ++ l.rest in
        let start = record d { due = Shown; begun = None } in
        let next = record d { shown = d.shown ++ s ∷ [] } in
        let behind = flat_map shown_lines ss ++ rest in
        let split = append_assoc (shown_lines s) (flat_map shown_lines ss) rest ∙ append_assoc (histogram_line s) (bin_lines 0 s.bins) behind ∙ line_rest (histogram_line s) line (bin_lines 0 s.bins ++ behind) l.is in
        let all = same_draft (record next { due = Shown; begun = None; shown = next.shown ++ ss }) (record d { due = Shown; begun = None; shown = d.shown ++ s ∷ ss }) rest r (ap (λ (x : List ShownPart). record d { due = Shown; begun = None; shown = x }) (append_assoc d.shown (s ∷ []) ss)) more in
        same start _ (line ++ 10 ∷ (bin_lines 0 s.bins ++ behind)) r split
        (take_line start (with_histogram start (length s.bins) (with_bins s [])) line (bin_lines 0 s.bins ++ behind) r (to_lf_line line (bin_lines 0 s.bins ++ behind) l.one)
        (first_line_read (record d { begun = None }) s l.rest head (sym l.is))
        (bins_read start (with_bins s []) s.bins behind r head.bins (shown_read next ss rest r (All-tail IsShownPart s ss good) all)))
