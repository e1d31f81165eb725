-- The text of what was read so far, and how it grows.
use Rattle.std.proofs.Common.{◌≡◌, ℕ, suc, ◌+◌, Some, None, List, [], ◌∷◌, ◌++◌, length, flat_map, codes, sym, ap, ◌∙◌, arith, append_assoc, append-nil, length-append}
use Rattle.std.specs.Fmt.{decimal}
use Rattle.std.specs.Option.{unwrap_or}
use Rattle.report.specs.SearchTexts.{node_lines, nodes_line}
use Rattle.report.specs.ShownTexts.{bin_line, bin_lines, histogram_head, refused_line, shown_lines}
use Rattle.report.specs.Text.{hart_line, hart_lines, numbers_line, output_lines}
use Rattle.report.specs.declared.parts.HartPart.{HartPart}
use Rattle.report.specs.declared.parts.RefusedPart.{RefusedPart}
use Rattle.report.specs.declared.parts.ShownPart.{ShownPart}
use Rattle.fold_hist.specs.declared.bin.Bin.{Bin}
use Rattle.report_reader.specs.declared.draft.Draft.{Draft}
use Rattle.report_reader.specs.declared.draft.SearchDraft.{SearchDraft}
use Rattle.report_reader.specs.declared.due.Due.{Due}
use Rattle.report_reader.specs.declared.due.Due.TheVariants.{Title, Numbers, Harts, Output, Shown, Bins, Nodes}

-- ---- the texts

-- up to the harts, of which so many are left
abbrev pub head : Draft → ℕ → List ℕ
head d left = codes "paradyn report 1\n" ++ (numbers_line (length d.harts + left) d.ticks d.samples d.skipped ++ hart_lines 0 d.harts)

abbrev pub length_line : ℕ → List ℕ
length_line n = codes "output " ++ decimal n ++ codes "\n"

-- up to the last whole histogram
abbrev pub body : Draft → List ℕ
body d = head d 0 ++ (output_lines d.output ++ (flat_map refused_line d.refused ++ flat_map shown_lines d.shown))

-- a histogram of which so many bins are left
abbrev pub open_text : ShownPart → ℕ → List ℕ
open_text part left = histogram_head (length part.bins + left) part ++ bin_lines 0 part.bins

-- a search of which so many nodes are left
abbrev pub search_text : SearchDraft → ℕ → List ℕ
search_text s left = nodes_line (length s.nodes + left) s.full ++ node_lines (unwrap_or s.window 0) 0 s.nodes

-- ---- what a text is of

-- nothing was refused or shown so far
abbrev pub IsFresh : Draft → Type 0
IsFresh d = (d.refused ≡ []) × (d.shown ≡ []) × (d.search ≡ None)

pub record IsOpen (d : Draft) (left : ℕ) (text : List ℕ) : Type 0 where
  pub part : ShownPart
  pub open_part : d.begun ≡ Some part
  pub search : d.search ≡ None
  pub is : text ≡ body d ++ open_text part left

-- where no window was told, the nodes read the same in each
pub record IsSearched (d : Draft) (left : ℕ) (text : List ℕ) : Type 0 where
  pub part : SearchDraft
  pub search : d.search ≡ Some part
  pub window : part.window ≡ None → (w : ℕ) → node_lines w 0 part.nodes ≡ node_lines 0 0 part.nodes
  pub is : text ≡ body d ++ search_text part left

-- a text is of the draft, where this is due
abbrev pub Spells : Draft → Due → List ℕ → Type 0
Spells d Title text = IsFresh d × (d.harts ≡ []) × (text ≡ [])
Spells d Numbers text = IsFresh d × (d.harts ≡ []) × (text ≡ codes "paradyn report 1\n")
Spells d (Harts left) text = IsFresh d × (text ≡ head d left)
Spells d (Output n) text = IsFresh d × (text ≡ head d 0 ++ length_line n)
Spells d Shown text = (d.search ≡ None) × (text ≡ body d)
Spells d (Bins left) text = IsOpen d left text
Spells d (Nodes left) text = IsSearched d left text

-- ---- one more of each

pub numbers_text : (hs : List HartPart) (n ticks samples skipped : ℕ) → hs ≡ [] → numbers_line n ticks samples skipped ≡ numbers_line (length hs + n) ticks samples skipped ++ hart_lines 0 hs
numbers_text hs n ticks samples skipped e =
    let here : n ≡ 0 + n = omega arith in
    ap (λ (m : ℕ). numbers_line m ticks samples skipped) here
    ∙ sym (append-nil (numbers_line (0 + n) ticks samples skipped))
    ∙ ap (λ (l : List HartPart). numbers_line (length l + n) ticks samples skipped ++ hart_lines 0 l) (sym e)

one_hart : (n : ℕ) (hs : List HartPart) (h : HartPart) → hart_lines n (hs ++ h ∷ []) ≡ hart_lines n hs ++ hart_line (n + length hs) h
one_hart n [] h =
    let here : n ≡ n + 0 = omega arith in
    append-nil (hart_line n h) ∙ ap (λ (m : ℕ). hart_line m h) here
one_hart n (x ∷ hs) h =
    let there : n + 1 + length hs ≡ n + suc (length hs) = omega arith in
    ap (λ (l : List ℕ). hart_line n x ++ l) (one_hart (n + 1) hs h ∙ ap (λ (m : ℕ). hart_lines (n + 1) hs ++ hart_line m h) there)
    ∙ sym (append_assoc (hart_line n x) (hart_lines (n + 1) hs) (hart_line (n + suc (length hs)) h))

inner : (a b c l : List ℕ) → (a ++ (b ++ c)) ++ l ≡ a ++ (b ++ (c ++ l))
inner a b c l = simp append_assoc

pub hart_text : (hs : List HartPart) (h : HartPart) (left ticks samples skipped : ℕ) (front : List ℕ) → (front ++ (numbers_line (length hs + suc left) ticks samples skipped ++ hart_lines 0 hs)) ++ hart_line (length hs) h ≡ front ++ (numbers_line (length (hs ++ h ∷ []) + left) ticks samples skipped ++ hart_lines 0 (hs ++ h ∷ []))
hart_text hs h left ticks samples skipped front =
    let count : length hs + suc left ≡ length (hs ++ h ∷ []) + left = omega (arith, length-append hs (h ∷ [])) in
    let number : length hs ≡ 0 + length hs = omega arith in
    inner front (numbers_line (length hs + suc left) ticks samples skipped) (hart_lines 0 hs) (hart_line (length hs) h)
    ∙ ap (λ (m : ℕ). front ++ (numbers_line m ticks samples skipped ++ (hart_lines 0 hs ++ hart_line (length hs) h))) count
    ∙ ap (λ (l : List ℕ). front ++ (numbers_line (length (hs ++ h ∷ []) + left) ticks samples skipped ++ l)) (ap (λ (m : ℕ). hart_lines 0 hs ++ hart_line m h) number ∙ sym (one_hart 0 hs h))

around : (h o line : List ℕ) → (h ++ o) ++ (line ++ 10 ∷ []) ≡ h ++ (((o ++ line) ++ 10 ∷ []) ++ [])
around h o line = simp (append_assoc, append-nil)

pub output_text : (h o line : List ℕ) (rs : List RefusedPart) (ss : List ShownPart) → rs ≡ [] → ss ≡ [] → (h ++ o) ++ (line ++ 10 ∷ []) ≡ h ++ (((o ++ line) ++ 10 ∷ []) ++ (flat_map refused_line rs ++ flat_map shown_lines ss))
output_text h o line rs ss e f =
    around h o line
    ∙ ap (λ (l : List RefusedPart). h ++ (((o ++ line) ++ 10 ∷ []) ++ (flat_map refused_line l ++ []))) (sym e)
    ∙ ap (λ (l : List ShownPart). h ++ (((o ++ line) ++ 10 ∷ []) ++ (flat_map refused_line rs ++ flat_map shown_lines l))) (sym f)

one_refused : (rs : List RefusedPart) (r : RefusedPart) → flat_map refused_line (rs ++ r ∷ []) ≡ flat_map refused_line rs ++ refused_line r
one_refused [] r = append-nil (refused_line r)
one_refused (x ∷ rs) r =
    ap (λ (l : List ℕ). refused_line x ++ l) (one_refused rs r) ∙ sym (append_assoc (refused_line x) (flat_map refused_line rs) (refused_line r))

last_in : (h o r l : List ℕ) → (h ++ (o ++ (r ++ []))) ++ l ≡ h ++ (o ++ ((r ++ l) ++ []))
last_in h o r l = simp (append_assoc, append-nil)

pub refused_text : (h o : List ℕ) (rs : List RefusedPart) (r : RefusedPart) (ss : List ShownPart) → ss ≡ [] → (h ++ (o ++ (flat_map refused_line rs ++ flat_map shown_lines ss))) ++ refused_line r ≡ h ++ (o ++ (flat_map refused_line (rs ++ r ∷ []) ++ flat_map shown_lines ss))
refused_text h o rs r ss e =
    ap (λ (l : List ShownPart). (h ++ (o ++ (flat_map refused_line rs ++ flat_map shown_lines l))) ++ refused_line r) e
    ∙ last_in h o (flat_map refused_line rs) (refused_line r)
    ∙ ap (λ (l : List ℕ). h ++ (o ++ (l ++ []))) (sym (one_refused rs r))
    ∙ ap (λ (l : List ShownPart). h ++ (o ++ (flat_map refused_line (rs ++ r ∷ []) ++ flat_map shown_lines l))) (sym e)

-- ---- histograms

one_bin : (n : ℕ) (bs : List Bin) (b : Bin) → bin_lines n (bs ++ b ∷ []) ≡ bin_lines n bs ++ bin_line (n + length bs) b
one_bin n [] b =
    let here : n ≡ n + 0 = omega arith in
    append-nil (bin_line n b) ∙ ap (λ (m : ℕ). bin_line m b) here
one_bin n (x ∷ bs) b =
    let there : n + 1 + length bs ≡ n + suc (length bs) = omega arith in
    ap (λ (l : List ℕ). bin_line n x ++ l) (one_bin (n + 1) bs b ∙ ap (λ (m : ℕ). bin_lines (n + 1) bs ++ bin_line m b) there)
    ∙ sym (append_assoc (bin_line n x) (bin_lines (n + 1) bs) (bin_line (n + suc (length bs)) b))

pub bin_text : (part : ShownPart) (b : Bin) (left : ℕ) (front : List ℕ) → (front ++ open_text part (suc left)) ++ bin_line (length part.bins) b ≡ front ++ open_text (record part { bins = part.bins ++ b ∷ [] }) left
bin_text part b left front =
    let bs = part.bins in
    let count : length bs + suc left ≡ length (bs ++ b ∷ []) + left = omega (arith, length-append bs (b ∷ [])) in
    let number : length bs ≡ 0 + length bs = omega arith in
    inner front (histogram_head (length bs + suc left) part) (bin_lines 0 bs) (bin_line (length bs) b)
    ∙ ap (λ (m : ℕ). front ++ (histogram_head m part ++ (bin_lines 0 bs ++ bin_line (length bs) b))) count
    ∙ ap (λ (l : List ℕ). front ++ (histogram_head (length (bs ++ b ∷ []) + left) part ++ l)) (ap (λ (m : ℕ). bin_lines 0 bs ++ bin_line m b) number ∙ sym (one_bin 0 bs b))

one_shown : (ss : List ShownPart) (s : ShownPart) → flat_map shown_lines (ss ++ s ∷ []) ≡ flat_map shown_lines ss ++ shown_lines s
one_shown [] s = append-nil (shown_lines s)
one_shown (x ∷ ss) s =
    ap (λ (l : List ℕ). shown_lines x ++ l) (one_shown ss s) ∙ sym (append_assoc (shown_lines x) (flat_map shown_lines ss) (shown_lines s))

behind_all : (h o r s l : List ℕ) → (h ++ (o ++ (r ++ s))) ++ l ≡ h ++ (o ++ (r ++ (s ++ l)))
behind_all h o r s l = simp append_assoc

-- a histogram of which no bins are left is whole
pub whole_text : (h o r : List ℕ) (ss : List ShownPart) (part : ShownPart) → (h ++ (o ++ (r ++ flat_map shown_lines ss))) ++ open_text part 0 ≡ h ++ (o ++ (r ++ flat_map shown_lines (ss ++ part ∷ [])))
whole_text h o r ss part =
    let count : length part.bins + 0 ≡ length part.bins = omega arith in
    behind_all h o r (flat_map shown_lines ss) (open_text part 0)
    ∙ ap (λ (m : ℕ). h ++ (o ++ (r ++ (flat_map shown_lines ss ++ (histogram_head m part ++ bin_lines 0 part.bins))))) count
    ∙ ap (λ (l : List ℕ). h ++ (o ++ (r ++ l))) (sym (one_shown ss part))
