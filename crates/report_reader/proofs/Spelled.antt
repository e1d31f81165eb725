-- Behind each right line the text of what was read is one line longer.
use Rattle.std.proofs.Common.{◌≡◌, ℕ, zero, suc, ◌+◌, ◌==◌, nat_le, Option, Some, None, List, [], ◌∷◌, ◌++◌, length, flat_map, codes, bytes_eq, refl, sym, ap, ◌∙◌, subst, arith, append_assoc, append-nil, length-append}
use Rattle.std.specs.Option.{option_and_then, option_or, unwrap_or}
use Rattle.std.proofs.lemmas.Bool.{eqb-true}
use Rattle.std.proofs.lemmas.Slice.Eq.{bytes_eq-Decides}
use Rattle.pn_text.specs.Bytes.{begins_with}
use Rattle.report.specs.SearchTexts.{node_line, node_lines, nodes_line}
use Rattle.report.specs.ShownTexts.{bin_line, histogram_head, refused_line}
use Rattle.report.specs.Text.{output_lines}
use Rattle.report.specs.declared.parts.NodePart.{NodePart}
use Rattle.report.specs.declared.parts.ShownPart.{ShownPart}
use Rattle.advice.specs.Words.{number_at}
use Rattle.report_lines.specs.Causes.{says}
use Rattle.report_lines.specs.Lines.{bin_of_line, bins_of_line, hart_of_line, histogram_of_line, node_of_line, refused_of_line, window_of_line}
use Rattle.report_lines.specs.Words.{short_at}
use Rattle.report_reader.specs.Drafts.{after_due, after_histogram, after_refused, after_search, after_shown, blank_search, if_line, window_with, with_bin, with_histogram, with_node_line}
use Rattle.report_reader.specs.declared.draft.Draft.{Draft}
use Rattle.report_reader.specs.declared.draft.SearchDraft.{SearchDraft}
use Rattle.report_reader.specs.declared.due.Due.{Due}
use Rattle.report_reader.specs.declared.due.Due.TheVariants.{Title, Numbers, Harts, Output, Shown, Bins, Nodes}
use Rattle.report_reader.proofs.Printed.{IsOpen, IsSearched, Spells, bin_text, body, hart_text, head, length_line, numbers_text, open_text, output_text, refused_text, search_text, whole_text}
use Rattle.report_reader.proofs.Taken.{both_if, by_kind, some_if, some_same, taken}
use Rattle.report_reader.proofs.Windows.{any_window, one_more}

-- the text with one more line
abbrev pub with_line : List ℕ → List ℕ → List ℕ
with_line text line = text ++ (line ++ 10 ∷ [])

-- the text is of the draft
abbrev pub SpellsDraft : List ℕ → Draft → Type 0
SpellsDraft text d = Spells d d.due text

same_front : (a b l m : List ℕ) → a ≡ b → l ≡ m → a ++ l ≡ b ++ m
same_front a b l m e f = ap (λ (x : List ℕ). x ++ l) e ∙ ap (λ (x : List ℕ). b ++ x) f

no_elements : (ss : List ShownPart) → length ss ≡ 0 → ss ≡ []
no_elements [] h = refl
no_elements (s ∷ ss) h = absurd (omega arith)

module _ (d e : Draft) (line text : List ℕ) where
  -- ---- the run

  title_spelled : Spells d Title text → after_due d Title line ≡ Some e → SpellsDraft (with_line text line) e
  title_spelled s is =
      let t = some_if (bytes_eq line (codes "paradyn report 1")) _ e is in
      let same : line ≡ codes "paradyn report 1" = (bytes_eq-Decides line (codes "paradyn report 1")).0 t.0 in
      subst (SpellsDraft (with_line text line)) t.1
      (s.0, s.1, same_front text [] (line ++ 10 ∷ []) (codes "paradyn report 1\n") s.2 (ap (λ (l : List ℕ). l ++ 10 ∷ []) same))

  numbers_spelled : Spells d Numbers text → after_due d Numbers line ≡ Some e → SpellsDraft (with_line text line) e
  numbers_spelled s is =
      let n = number_at 1 line in
      let t = taken line _ _ e (both_if (nat_le n 32) _ e is).1 in
      let all = t.0 ∙ numbers_text d.harts n (number_at 3 line) (number_at 5 line) (short_at 7 line) s.1 in
      subst (SpellsDraft (with_line text line)) t.1 (s.0, same_front text _ _ _ s.2 all)

  hart_spelled : (left : ℕ) → Spells d (Harts (suc left)) text → after_due d (Harts (suc left)) line ≡ Some e → SpellsDraft (with_line text line) e
  hart_spelled left s is =
      let t = taken line _ _ e is in
      subst (SpellsDraft (with_line text line)) t.1
      (s.0, same_front text _ _ _ s.1 t.0 ∙ hart_text d.harts (hart_of_line line) left d.ticks d.samples d.skipped (codes "paradyn report 1\n"))

  length_spelled : Spells d (Harts 0) text → after_due d (Harts 0) line ≡ Some e → SpellsDraft (with_line text line) e
  length_spelled s is =
      let t = taken line _ _ e is in
      subst (SpellsDraft (with_line text line)) t.1 (s.0, same_front text _ _ _ s.1 t.0)

  output_spelled : (n : ℕ) → length line ≡ n → Spells d (Output n) text → after_due d (Output n) line ≡ Some e → SpellsDraft (with_line text line) e
  output_spelled n same s is =
      let whole = output_text (head d 0) (length_line (length line)) line d.refused d.shown s.0.0 s.0.1 in
      let front : text ≡ head d 0 ++ length_line (length line) = s.1 ∙ ap (λ (m : ℕ). head d 0 ++ length_line m) (sym same) in
      subst (SpellsDraft (with_line text line)) (some_same _ e is) (s.0.2, ap (λ (l : List ℕ). l ++ (line ++ 10 ∷ [])) front ∙ whole)

  -- ---- what was refused and shown

  refused_spelled : d.due ≡ Shown → Spells d Shown text → after_refused d line ≡ Some e → SpellsDraft (with_line text line) e
  refused_spelled due s is =
      let b = both_if (length d.shown == 0) _ e is in
      let t = taken line _ _ e b.1 in
      let none = no_elements d.shown (eqb-true (length d.shown) 0 b.0) in
      let next = record d { refused = d.refused ++ refused_of_line line ∷ [] } in
      let now : Spells next Shown (with_line text line) = (s.0, same_front text _ _ _ s.1 t.0 ∙ refused_text (head d 0) (output_lines d.output) d.refused (refused_of_line line) d.shown none) in
      subst (SpellsDraft (with_line text line)) t.1 (subst (λ (x : Due). Spells next x (with_line text line)) (sym due) now)

  put : (n : ℕ) (part : ShownPart) (all : List ℕ) → d.search ≡ None → all ≡ body d ++ open_text part n → SpellsDraft all (with_histogram d n part)
  put zero part all search is =
      (search, is ∙ whole_text (head d 0) (output_lines d.output) (flat_map refused_line d.refused) d.shown part)
  put (suc left) part all search is = record { part = part; open_part = refl; search = search; is = is }

  histogram_spelled : Spells d Shown text → after_histogram d line ≡ Some e → SpellsDraft (with_line text line) e
  histogram_spelled s is =
      let t = taken line _ _ e is in
      let n = bins_of_line line in
      let part = histogram_of_line line in
      let count : n ≡ 0 + n = omega arith in
      let first : line ++ 10 ∷ [] ≡ open_text part n = t.0 ∙ ap (λ (m : ℕ). histogram_head m part) count ∙ sym (append-nil (histogram_head (0 + n) part)) in
      subst (SpellsDraft (with_line text line)) t.1 (put n part (with_line text line) s.0 (same_front text _ _ _ s.1 first))

  bin_in : (left : ℕ) (o : Option ShownPart) → d.begun ≡ o → IsOpen d (suc left) text → option_and_then (λ part. if_line line (bin_line (length part.bins) (bin_of_line line)) (with_histogram d left (with_bin part line))) o ≡ Some e → SpellsDraft (with_line text line) e
  bin_in left None none s is = cc
  bin_in left (Some part) some s is =
      let t = taken line _ _ e is in
      let same : s.part ≡ part = cc (s.open_part, some) in
      let front : text ≡ body d ++ open_text part (suc left) = s.is ∙ ap (λ (p : ShownPart). body d ++ open_text p (suc left)) same in
      subst (SpellsDraft (with_line text line)) t.1
      (put left (with_bin part line) (with_line text line) s.search (same_front text _ _ _ front t.0 ∙ bin_text part (bin_of_line line) left (body d)))

  -- ---- the search

  search_spelled : Spells d Shown text → after_search d line ≡ Some e → SpellsDraft (with_line text line) e
  search_spelled s is =
      let t = taken line _ _ e (both_if (nat_le (number_at 2 line) 4096) _ e is).1 in
      let n = number_at 2 line in
      let full = says 3 line (codes "full") in
      let count : n ≡ 0 + n = omega arith in
      let first : line ++ 10 ∷ [] ≡ search_text (blank_search line) n = t.0 ∙ ap (λ (m : ℕ). nodes_line m full) count ∙ sym (append-nil (nodes_line (0 + n) full)) in
      subst (SpellsDraft (with_line text line)) t.1
      record { part = blank_search line; search = refl; window = λ none w. refl; is = same_front text _ _ _ s.1 first }

  shown_spelled : d.due ≡ Shown → Spells d Shown text → after_shown d line ≡ Some e → SpellsDraft (with_line text line) e
  shown_spelled due s =
      by_kind (SpellsDraft (with_line text line) e) (begins_with (codes "refused ") line) (begins_with (codes "histogram ") line) (after_refused d line) (after_histogram d line) (after_search d line) e
      (refused_spelled due s) (histogram_spelled s) (search_spelled s)

-- ---- nodes

inner : (a b c l : List ℕ) → (a ++ (b ++ c)) ++ l ≡ a ++ (b ++ (c ++ l))
inner a b c l = simp append_assoc

none_before : (a b : Option ℕ) → option_or a b ≡ None → (a ≡ None) × (b ≡ None)
none_before None b e = (refl, e)
none_before (Some n) b e = cc

-- the nodes before the line read the same in the window that is told by then
same_before : (nodes : List NodePart) (a b : Option ℕ) → (a ≡ None → (w : ℕ) → node_lines w 0 nodes ≡ node_lines 0 0 nodes) → node_lines (unwrap_or a 0) 0 nodes ≡ node_lines (unwrap_or (option_or a b) 0) 0 nodes
same_before nodes None b free = sym (free refl (unwrap_or b 0))
same_before nodes (Some n) b free = refl

node_text : (s : SearchDraft) (line front : List ℕ) (left : ℕ) → (s.window ≡ None → (w : ℕ) → node_lines w 0 s.nodes ≡ node_lines 0 0 s.nodes) → (front ++ search_text s (suc left)) ++ node_line (unwrap_or (window_with s.window line) 0) (length s.nodes) (node_of_line line) ≡ front ++ search_text (with_node_line s line) left
node_text s line front left free =
    let ps = s.nodes in
    let p = node_of_line line in
    let w = unwrap_or (window_with s.window line) 0 in
    let count : length ps + suc left ≡ length (ps ++ p ∷ []) + left = omega (arith, length-append ps (p ∷ [])) in
    let number : length ps ≡ 0 + length ps = omega arith in
    inner front (nodes_line (length ps + suc left) s.full) (node_lines (unwrap_or s.window 0) 0 ps) (node_line w (length ps) p)
    ∙ ap (λ (m : ℕ). front ++ (nodes_line m s.full ++ (node_lines (unwrap_or s.window 0) 0 ps ++ node_line w (length ps) p))) count
    ∙ ap (λ (l : List ℕ). front ++ (nodes_line (length (ps ++ p ∷ []) + left) s.full ++ l))
    (ap (λ (l : List ℕ). l ++ node_line w (length ps) p) (same_before ps s.window (window_of_line line) free)
    ∙ ap (λ (m : ℕ). node_lines w 0 ps ++ node_line w m p) number
    ∙ sym (one_more w 0 ps p))

-- and so do all of them where none was told
free_after : (s : SearchDraft) (line : List ℕ) → line ++ 10 ∷ [] ≡ node_line (unwrap_or (window_with s.window line) 0) (length s.nodes) (node_of_line line) → (s.window ≡ None → (w : ℕ) → node_lines w 0 s.nodes ≡ node_lines 0 0 s.nodes) → window_with s.window line ≡ None → (w : ℕ) → node_lines w 0 (s.nodes ++ node_of_line line ∷ []) ≡ node_lines 0 0 (s.nodes ++ node_of_line line ∷ [])
free_after s line is free none w =
    let ps = s.nodes in
    let p = node_of_line line in
    let both = none_before s.window (window_of_line line) none in
    let number : 0 + length ps ≡ length ps = omega arith in
    let zeroth : line ++ 10 ∷ [] ≡ node_line 0 (length ps) p = is ∙ ap (λ (o : Option ℕ). node_line (unwrap_or o 0) (length ps) p) none in
    let last : node_line w (0 + length ps) p ≡ node_line 0 (0 + length ps) p =
    ap (λ (m : ℕ). node_line w m p) number ∙ any_window line (length ps) 0 both.1 zeroth w ∙ ap (λ (m : ℕ). node_line 0 m p) (sym number) in
    one_more w 0 ps p
    ∙ ap (λ (l : List ℕ). l ++ node_line w (0 + length ps) p) (free both.0 w)
    ∙ ap (λ (l : List ℕ). node_lines 0 0 ps ++ l) last
    ∙ sym (one_more 0 0 ps p)

node_in : (d e : Draft) (line text : List ℕ) (left : ℕ) (o : Option SearchDraft) → d.search ≡ o → IsSearched d (suc left) text → option_and_then (λ s. if_line line (node_line (unwrap_or (window_with s.window line) 0) (length s.nodes) (node_of_line line)) (record d { due = Nodes left; search = Some (with_node_line s line) })) o ≡ Some e → SpellsDraft (with_line text line) e
node_in d e line text left None none s is = cc
node_in d e line text left (Some part) some s is =
    let t = taken line _ _ e is in
    let same : s.part ≡ part = cc (s.search, some) in
    let free = subst (λ (p : SearchDraft). p.window ≡ None → (w : ℕ) → node_lines w 0 p.nodes ≡ node_lines 0 0 p.nodes) same s.window in
    let front : text ≡ body d ++ search_text part (suc left) = s.is ∙ ap (λ (p : SearchDraft). body d ++ search_text p (suc left)) same in
    subst (SpellsDraft (with_line text line)) t.1
    record {
      part = with_node_line part line;
      search = refl;
      window = free_after part line t.0 free;
      is = same_front text _ _ _ front t.0 ∙ node_text part line (body d) left free;
    }

-- ---- each line

-- a line of output is as long as is due
abbrev pub HasLength : Due → List ℕ → Type 0
HasLength (Output n) line = length line ≡ n
HasLength due line = Unit {0}

pub spelled : (d e : Draft) (due : Due) (line text : List ℕ) → d.due ≡ due → HasLength due line → Spells d due text → after_due d due line ≡ Some e → SpellsDraft (with_line text line) e
spelled d e Title line text is h s = title_spelled d e line text s
spelled d e Numbers line text is h s = numbers_spelled d e line text s
spelled d e (Harts zero) line text is h s = length_spelled d e line text s
spelled d e (Harts (suc left)) line text is h s = hart_spelled d e line text left s
spelled d e (Output n) line text is h s = output_spelled d e line text n h s
spelled d e Shown line text is h s = shown_spelled d e line text is s
spelled d e (Bins zero) line text is h s = λ none. cc
spelled d e (Bins (suc left)) line text is h s = bin_in d e line text left d.begun refl s
spelled d e (Nodes zero) line text is h s = λ none. cc
spelled d e (Nodes (suc left)) line text is h s = node_in d e line text left d.search refl s
