-- From the text of a report what it prints is read.
use Rattle.std.proofs.Common.{◌≡◌, ℕ, true, Option, Some, None, IfSome, Ok, List, [], ◌++◌, length, flat_map, map, codes, refl, ap, ◌∙◌, append_assoc, append-nil}
use Rattle.std.specs.Option.{option_map, option_map_or}
use Rattle.std.specs.Prelude.{sum_by}
use Rattle.std.proofs.lemmas.Bool.{eq-eqb}
use Rattle.report.specs.SearchTexts.{search_lines}
use Rattle.report.specs.ShownTexts.{refused_line, shown_lines}
use Rattle.report.specs.Text.{counts_line, hart_lines, output_lines, report_text}
use Rattle.report.specs.declared.parts.SearchPart.{SearchPart}
use Rattle.report_lines.specs.Laws.{BinIsRead, HartIsRead, HistogramIsRead, NodeIsRead, RefusedIsRead, printed_node}
use Rattle.report_reader.specs.Drafts.{blank}
use Rattle.report_reader.specs.Laws.{WrittenIsRead, printed, printed_search, window_told}
use Rattle.report_reader.specs.Readable.{IsSearchPart}
use Rattle.report_reader.specs.Reading.{adds_up, may_end, draft_report, search_of}
use Rattle.report_reader.specs.declared.draft.Draft.{Draft}
use Rattle.report_reader.specs.declared.due.Due.TheVariants.{Harts, Shown, Nodes}
use Rattle.report_reader.specs.declared.whole_report.Report.{Report}
use Rattle.report_reader.proofs.ReadSteps.{Reads, same}
use Rattle.report_reader.proofs.RunRead.{harts_read, numbers_read, output_read, title_read}
use Rattle.report_reader.proofs.SearchRead.{search_read}
use Rattle.report_reader.proofs.ShownRead.{refusals_read, shown_read}

regroup : (a b c d e f g : List ℕ) → a ++ b ++ c ++ d ++ e ++ f ++ g ≡ a ++ (b ++ (c ++ (d ++ (e ++ (f ++ (g ++ []))))))
regroup a b c d e f g = simp (append_assoc, append-nil)

-- the end of a draft whose ticks add up
end_read : (d : Draft) → may_end d.due ≡ true → sum_by (λ part. part.ticks) d.harts ≡ d.ticks → Reads d [] (draft_report d)
end_read d due sum at =
    let even : adds_up d ≡ true = eq-eqb (sum_by (λ part. part.ticks) d.harts) d.ticks sum in
    rw (due, even) refl

module _ (hart_is_read : HartIsRead) (refused_is_read : RefusedIsRead) (bin_is_read : BinIsRead) (histogram_is_read : HistogramIsRead) (node_is_read : NodeIsRead) where
  -- the whole report of a draft that is at its search
  found : (d : Draft) (o : Option SearchPart) → IfSome o IsSearchPart → d.search ≡ None → sum_by (λ part. part.ticks) d.harts ≡ d.ticks → Reads (record d { due = Shown }) (option_map_or search_lines o [] ++ []) (record { parts = record { harts = d.harts; samples = d.samples; output = d.output; refused = d.refused; shown = d.shown; search = option_map printed_search o }; skipped = d.skipped })
  found d None good none sum at =
      end_read (record d { due = Shown }) refl sum at
      ∙ ap (λ (s : Option SearchPart). Ok (record { parts = record { harts = d.harts; samples = d.samples; output = d.output; refused = d.refused; shown = d.shown; search = s }; skipped = d.skipped })) (ap (option_map search_of) none)
  found d (Some s) good none sum at =
      let last = record d { due = Nodes 0; search = Some (record { full = s.full; window = window_told s.window s.nodes; nodes = map printed_node s.nodes }) } in
      search_read node_is_read d s [] (draft_report last) good (end_read last refl sum) at

  pub report_is_read : WrittenIsRead
  report_is_read parts skipped h =
      let r : Report = record { parts = printed parts; skipped = skipped } in
      let ticks = sum_by (λ part. part.ticks) parts.harts in
      let n = length parts.harts in
      let searched = option_map_or search_lines parts.search [] in
      let shown_rest = flat_map shown_lines parts.shown ++ (searched ++ []) in
      let refused_rest = flat_map refused_line parts.refused ++ shown_rest in
      let output_rest = output_lines parts.output ++ refused_rest in
      let hart_rest = hart_lines 0 parts.harts ++ output_rest in
      let title = codes "paradyn report 1\n" in
      let counted : Draft = record blank { due = Harts n; ticks = ticks; samples = parts.samples; skipped = skipped } in
      let run : Draft = record counted { harts = parts.harts } in
      let shown : Draft = record run { due = Shown; output = parts.output } in
      let wished : Draft = record shown { refused = parts.refused } in
      let all : Draft = record wished { shown = parts.shown } in
      same blank (report_text parts skipped) (title ++ (counts_line parts skipped ++ hart_rest)) r
      (regroup title (counts_line parts skipped) (hart_lines 0 parts.harts) (output_lines parts.output) (flat_map refused_line parts.refused) (flat_map shown_lines parts.shown) searched)
      (title_read blank (counts_line parts skipped ++ hart_rest) r
      (numbers_read blank n ticks parts.samples skipped hart_rest r h.count h.ticks h.samples h.symbols
      (harts_read hart_is_read counted parts.harts output_rest r h.harts
      (output_read run parts.output refused_rest r h.output
      (refusals_read refused_is_read shown parts.refused shown_rest r h.refused refl
      (shown_read bin_is_read histogram_is_read wished parts.shown (searched ++ []) r h.shown
      (found all parts.search h.search refl refl))))))) 0
