-- What a right line is, and what a draft is behind it.
use Rattle.std.proofs.Common.{◌≡◌, ℕ, zero, suc, ◌+◌, ◌≤◌, ◌==◌, nat_le, cond, Bool, true, false, Option, Some, None, List, [], ◌∷◌, ◌++◌, length, bytes_eq, codes, refl, ap, subst, arith, length-append}
use Rattle.std.specs.Option.{option_and_then, unwrap_or}
use Rattle.std.proofs.lemmas.Bool.{leb-true}
use Rattle.std.proofs.lemmas.Slice.Eq.{bytes_eq-Decides}
use Rattle.pn_text.specs.Bytes.{begins_with}
use Rattle.report.specs.SearchTexts.{node_line}
use Rattle.report.specs.ShownTexts.{bin_line, refused_line}
use Rattle.report.specs.declared.parts.ShownPart.{ShownPart}
use Rattle.advice.specs.Words.{number_at}
use Rattle.report_lines.specs.Lines.{bin_of_line, bins_of_line, hart_of_line, histogram_of_line, node_of_line, refused_of_line}
use Rattle.report_reader.specs.Drafts.{after, after_due, after_histogram, after_refused, after_search, after_shown, if_line, window_with, with_bin, with_histogram, with_node_line}
use Rattle.report_reader.specs.Taking.{HasFewHarts, IsLineTaken, harts_left}
use Rattle.report_reader.specs.declared.draft.Draft.{Draft}
use Rattle.report_reader.specs.declared.draft.SearchDraft.{SearchDraft}
use Rattle.report_reader.specs.declared.due.Due.{Due}
use Rattle.report_reader.specs.declared.due.Due.TheVariants.{Title, Numbers, Harts, Output, Shown, Bins, Nodes}

pub some_if : (b : Bool) (next e : Draft) → cond b (Some next) None ≡ Some e → (b ≡ true) × (next ≡ e)
some_if true next e h = (refl, cc)
some_if false next e h = cc

-- what a call said of a line
pub is_right : (b : Bool) (new : Draft) (next : Option Draft) → IsLineTaken b new next → b ≡ true → next ≡ Some new
is_right true new next h e = h
is_right false new next h e = cc

pub is_wrong : (b : Bool) (new : Draft) (next : Option Draft) → IsLineTaken b new next → b ≡ false → next ≡ None
is_wrong true new next h e = cc
is_wrong false new next h e = h

-- a condition before a line
pub both_if : (b : Bool) (o : Option Draft) (e : Draft) → cond b o None ≡ Some e → (b ≡ true) × (o ≡ Some e)
both_if true o e h = (refl, h)
both_if false o e h = cc

-- a right line is this text, without its LF
pub taken : (line text : List ℕ) (next e : Draft) → if_line line text next ≡ Some e → (line ++ 10 ∷ [] ≡ text) × (next ≡ e)
taken line text next e h =
    let s = some_if (bytes_eq (line ++ 10 ∷ []) text) next e h in
    ((bytes_eq-Decides (line ++ 10 ∷ []) text).0 s.0, s.1)

pub some_same : (next e : Draft) → Some next ≡ Some e → next ≡ e
some_same next e h = cc

-- ---- one of three

pub by_kind : (P : Type 0) (a b : Bool) (x y z : Option Draft) (e : Draft) → (x ≡ Some e → P) → (y ≡ Some e → P) → (z ≡ Some e → P) → cond a x (cond b y z) ≡ Some e → P
by_kind P true b x y z e f g h is = f is
by_kind P false true x y z e f g h is = g is
by_kind P false false x y z e f g h is = h is

-- ---- there are few harts

few_more : (d e : Draft) (line text : List ℕ) (next : Draft) → if_line line text next ≡ Some e → HasFewHarts next → HasFewHarts e
few_more d e line text next is h = subst HasFewHarts (taken line text next e is).1 h

few_with : (d : Draft) (n : ℕ) (part : ShownPart) → length d.harts ≤ 32 → HasFewHarts (with_histogram d n part)
few_with d zero part h = omega arith
few_with d (suc n) part h = omega arith

few_numbers : (d e : Draft) (line : List ℕ) → after_due d Numbers line ≡ Some e → length d.harts + 32 ≤ 32 → HasFewHarts e
few_numbers d e line is h =
    let b = both_if (nat_le (number_at 1 line) 32) _ e is in
    let most : number_at 1 line ≤ 32 = leb-true (number_at 1 line) 32 b.0 in
    few_more d e line _ _ b.1 (omega arith)

few_shown : (d e : Draft) (line : List ℕ) → d.due ≡ Shown → after_shown d line ≡ Some e → length d.harts ≤ 32 → HasFewHarts e
few_shown d e line due is h =
    let left : harts_left d.due ≡ 0 = ap harts_left due in
    by_kind (HasFewHarts e) (begins_with (codes "refused ") line) (begins_with (codes "histogram ") line) (after_refused d line) (after_histogram d line) (after_search d line) e
    (λ r.
    let next = record d { refused = d.refused ++ refused_of_line line ∷ [] } in
    let few : HasFewHarts next = omega arith in
    few_more d e line (refused_line (refused_of_line line)) next (both_if (length d.shown == 0) (if_line line (refused_line (refused_of_line line)) next) e r).1 few)
    (λ r. few_more d e line _ _ r (few_with d (bins_of_line line) (histogram_of_line line) h))
    (λ r. few_more d e line _ _ (both_if (nat_le (number_at 2 line) 4096) _ e r).1 (omega arith)) is

few_bin : (d e : Draft) (o : Option ShownPart) (left : ℕ) (line : List ℕ) → option_and_then (λ part. if_line line (bin_line (length part.bins) (bin_of_line line)) (with_histogram d left (with_bin part line))) o ≡ Some e → length d.harts ≤ 32 → HasFewHarts e
few_bin d e None left line is h = cc
few_bin d e (Some part) left line is h = few_more d e line _ _ is (few_with d left (with_bin part line) h)

few_node : (d e : Draft) (o : Option SearchDraft) (left : ℕ) (line : List ℕ) → option_and_then (λ s. if_line line (node_line (unwrap_or (window_with s.window line) 0) (length s.nodes) (node_of_line line)) (record d { due = Nodes left; search = Some (with_node_line s line) })) o ≡ Some e → length d.harts ≤ 32 → HasFewHarts e
few_node d e None left line is h = cc
few_node d e (Some s) left line is h = few_more d e line _ _ is (omega arith)

few_due : (d e : Draft) (due : Due) (line : List ℕ) → d.due ≡ due → after_due d due line ≡ Some e → length d.harts + harts_left due ≤ 32 → HasFewHarts e
few_due d e Title line due is h = subst HasFewHarts (some_if _ _ e is).1 h
few_due d e Numbers line due is h = few_numbers d e line is h
few_due d e (Harts zero) line due is h = few_more d e line _ _ is h
few_due d e (Harts (suc left)) line due is h = few_more d e line _ _ is (omega (arith, length-append d.harts (hart_of_line line ∷ [])))
few_due d e (Output n) line due is h = subst HasFewHarts (some_same _ e is) h
few_due d e Shown line due is h = few_shown d e line due is (omega arith)
few_due d e (Bins zero) line due is h = cc
few_due d e (Bins (suc left)) line due is h = few_bin d e d.begun left line is (omega arith)
few_due d e (Nodes zero) line due is h = cc
few_due d e (Nodes (suc left)) line due is h = few_node d e d.search left line is (omega arith)

-- behind a right line too
pub few_after : (d e : Draft) (line : List ℕ) → after d line ≡ Some e → HasFewHarts d → HasFewHarts e
few_after d e line is h = few_due d e d.due line refl is h
