-- The bytes from which a report is read are its text.
use Rattle.std.proofs.Common.{◌≡◌, ℕ, zero, suc, ◌+◌, ◌≤◌, cond, Bool, true, false, Option, Some, None, Ok, Err, List, [], ◌∷◌, ◌++◌, length, drop, flat_map, codes, refl, sym, ap, ◌∙◌, arith, append_assoc, append-nil}
use Rattle.std.specs.Option.{option_and_then, option_map, option_map_or, unwrap_or}
use Rattle.std.specs.Prelude.{sum_by}
use Rattle.std.proofs.lemmas.Bool.{eqb-true}
use Rattle.report.specs.SearchTexts.{node_lines, nodes_line, search_lines}
use Rattle.report.specs.ShownTexts.{refused_line, shown_lines}
use Rattle.report.specs.Text.{hart_lines, numbers_line, output_lines, report_text}
use Rattle.advice.specs.declared.fault.ReportFault.{ReportFault}
use Rattle.advice.specs.declared.fault.ReportFault.TheVariants.{BadReport}
use Rattle.report_reader.specs.Drafts.{after, blank}
use Rattle.report_reader.specs.Laws.{ReportIsSpelled}
use Rattle.report_reader.specs.Reading.{ReadStep, adds_up, report_at_end, first_due_line, may_end, report_from, draft_report, search_of, draft_step_on}
use Rattle.report_reader.specs.declared.draft.Draft.{Draft}
use Rattle.report_reader.specs.declared.draft.SearchDraft.{SearchDraft}
use Rattle.report_reader.specs.declared.due.Due.{Due}
use Rattle.report_reader.specs.declared.due.Due.TheVariants.{Title, Numbers, Harts, Output, Shown, Bins, Nodes}
use Rattle.report_reader.specs.declared.whole_report.Report.{Report}
use Rattle.report_reader.proofs.FirstLines.{StartsBytes, starts}
use Rattle.report_reader.proofs.Printed.{IsSearched, Spells, body}
use Rattle.report_reader.proofs.Spelled.{SpellsDraft, spelled, with_line}

-- ---- the end

abbrev printed : Report → List ℕ
printed r = report_text r.parts r.skipped

ended_well : (m a : Bool) (r whole : Report) (f g : ReportFault) → cond m (cond a (Ok whole) (Err f)) (Err g) ≡ Ok r → (m ≡ true) × (a ≡ true) × (whole ≡ r)
ended_well true true r whole f g e = (refl, refl, cc)
ended_well true false r whole f g e = cc
ended_well false a r whole f g e = cc

outer : (a b c d e f g : List ℕ) → a ++ b ++ c ++ d ++ e ++ f ++ g ≡ ((a ++ (b ++ c)) ++ (d ++ (e ++ f))) ++ g
outer a b c d e f g = simp append_assoc

-- the report of a draft is its text up to the last whole histogram, and what was read of its search
printed_draft : (d : Draft) → sum_by (λ part. part.ticks) d.harts ≡ d.ticks → printed (draft_report d) ≡ body d ++ option_map_or search_lines (option_map search_of d.search) []
printed_draft d sum =
    let searched = option_map_or search_lines (option_map search_of d.search) [] in
    let harts : length d.harts ≡ length d.harts + 0 = omega arith in
    let numbers : numbers_line (length d.harts) (sum_by (λ part. part.ticks) d.harts) d.samples d.skipped ≡ numbers_line (length d.harts + 0) d.ticks d.samples d.skipped =
    ap (λ (n : ℕ). numbers_line n (sum_by (λ part. part.ticks) d.harts) d.samples d.skipped) harts ∙ ap (λ (n : ℕ). numbers_line (length d.harts + 0) n d.samples d.skipped) sum in
    outer (codes "paradyn report 1\n") (numbers_line (length d.harts) (sum_by (λ part. part.ticks) d.harts) d.samples d.skipped) (hart_lines 0 d.harts) (output_lines d.output) (flat_map refused_line d.refused) (flat_map shown_lines d.shown) searched
    ∙ ap (λ (l : List ℕ). ((codes "paradyn report 1\n" ++ (l ++ hart_lines 0 d.harts)) ++ (output_lines d.output ++ (flat_map refused_line d.refused ++ flat_map shown_lines d.shown))) ++ searched) numbers

found : (d : Draft) (n : ℕ) (text : List ℕ) → n ≡ 0 → IsSearched d n text → body d ++ option_map_or search_lines (option_map search_of d.search) [] ≡ text
found d n text none s =
    let count : length s.part.nodes ≡ length s.part.nodes + n = omega arith in
    ap (λ (o : Option SearchDraft). body d ++ option_map_or search_lines (option_map search_of o) []) s.search
    ∙ ap (λ (m : ℕ). body d ++ (nodes_line m s.part.full ++ node_lines (unwrap_or s.part.window 0) 0 s.part.nodes)) count
    ∙ sym s.is

at_end : (d : Draft) (due : Due) (text : List ℕ) → Spells d due text → may_end due ≡ true → body d ++ option_map_or search_lines (option_map search_of d.search) [] ≡ text
at_end d Title text s e = cc
at_end d Numbers text s e = cc
at_end d (Harts n) text s e = cc
at_end d (Output n) text s e = cc
at_end d Shown text s e =
    ap (λ (o : Option SearchDraft). body d ++ option_map_or search_lines (option_map search_of o) []) s.0 ∙ append-nil (body d) ∙ sym s.1
at_end d (Bins n) text s e = cc
at_end d (Nodes n) text s e = found d n text (eqb-true n 0 e) s

spelled_end : (d : Draft) (at : ℕ) (text : List ℕ) (r : Report) → SpellsDraft text d → report_at_end d at ≡ Ok r → printed r ≡ text
spelled_end d at text r s is =
    let e = ended_well (may_end d.due) (adds_up d) r (draft_report d) (BadReport 17) (BadReport at) is in
    ap printed (sym e.2) ∙ printed_draft d (eqb-true (sum_by (λ part. part.ticks) d.harts) d.ticks e.1) ∙ at_end d d.due text s e.0

-- ---- line by line

-- what is read behind a line is spelled, where that is so of each draft
abbrev IsSpelledBehind : List ℕ → Report → Type 0
IsSpelledBehind bytes r = (e : Draft) (at k : ℕ) (text : List ℕ) → SpellsDraft text e → k ≤ length bytes → report_from e at k bytes ≡ Ok r → printed r ≡ text ++ drop k bytes

line_behind : (text line bytes rest : List ℕ) → bytes ≡ line ++ 10 ∷ rest → (text ++ (line ++ 10 ∷ [])) ++ rest ≡ text ++ bytes
line_behind text line bytes rest e = append_assoc text (line ++ 10 ∷ []) rest ∙ ap (λ (l : List ℕ). text ++ l) (append_assoc line (10 ∷ []) rest ∙ sym e)

next_line : (d : Draft) (at byte : ℕ) (bytes line text : List ℕ) (r : Report) (o : Option Draft) → IsSpelledBehind bytes r → SpellsDraft text d → StartsBytes d.due line (byte ∷ bytes) → after d line ≡ o → option_map_or (λ (x : ReadStep). report_from x.next (at + 1) x.length bytes) (option_map (λ next. record { length = length line; next = next }) o) (Err (BadReport at)) ≡ Ok r → printed r ≡ text ++ byte ∷ bytes
next_line d at byte bytes line text r None more s first said is = cc
next_line d at byte bytes line text r (Some e) more s first said is =
    more e (at + 1) (length line) (with_line text line) (spelled d e d.due line text refl first.fits s said) (omega (arith, first.inside)) is
    ∙ line_behind text line (byte ∷ bytes) (drop (length line) bytes) first.is

first_behind : (d : Draft) (at byte : ℕ) (bytes text : List ℕ) (r : Report) (o : Option (List ℕ)) → IsSpelledBehind bytes r → SpellsDraft text d → first_due_line d.due (byte ∷ bytes) ≡ o → option_map_or (λ (x : ReadStep). report_from x.next (at + 1) x.length bytes) (option_and_then (draft_step_on d) o) (Err (BadReport at)) ≡ Ok r → printed r ≡ text ++ byte ∷ bytes
first_behind d at byte bytes text r None more s first is = cc
first_behind d at byte bytes text r (Some line) more s first is =
    next_line d at byte bytes line text r (after d line) more s (starts d.due line byte bytes first) refl is

spelled_from : (bytes : List ℕ) (r : Report) → IsSpelledBehind bytes r
spelled_from [] r d at zero text s h is = spelled_end d at text r s is ∙ sym (append-nil text)
spelled_from [] r d at (suc k) text s h is = absurd (omega arith)
spelled_from (byte ∷ bytes) r d at zero text s h is = first_behind d at byte bytes text r (first_due_line d.due (byte ∷ bytes)) (spelled_from bytes r) s refl is
spelled_from (byte ∷ bytes) r d at (suc k) text s h is = spelled_from bytes r d (at + 1) k text s (omega arith) is

pub report_is_spelled : ReportIsSpelled
report_is_spelled bytes r is = spelled_from bytes r blank 0 0 [] ((refl, refl, refl), refl, refl) (omega arith) is
