-- A report and itself have no difference.
use Rattle.std.proofs.Common.{◌≡◌, ◌+◌, ◌==◌, ◌&&◌, ◌≤◌, ℕ, zero, suc, cond, Bool, true, false, not, Option, Some, None, List, [], ◌∷◌, ◌++◌, length, map, flat_map, refl, ap, sym, ◌∙◌, slice_get, arith}
use Rattle.std.specs.Prelude.{codes, nat_lt, bytes_eq, is_some}
use Rattle.std.specs.Cmp.Lexicographic.{bytes_decides}
use Rattle.std.specs.List.{count_by}
use Rattle.std.specs.Option.{option_map_or}
use Rattle.std.proofs.lemmas.Bool.Decides.{nat_tests}
use Rattle.first_places.specs.Places.{first_place}
use Rattle.pn_text.specs.Lines.{is_none}
use Rattle.pn_types.specs.Texts.{stop_text}
use Rattle.report.specs.ShownTexts.{pair_text}
use Rattle.report.specs.declared.parts.HartPart.{HartPart}
use Rattle.report.specs.declared.parts.NodePart.{NodePart}
use Rattle.report.specs.declared.parts.RefusedPart.{RefusedPart}
use Rattle.report.specs.declared.parts.ReportParts.{ReportParts}
use Rattle.report.specs.declared.parts.ShownPart.{ShownPart}
use Rattle.report_diff.specs.Diff.{diff_text, differences, nodes_of}
use Rattle.report_diff.specs.Matches.{alone_text, both_text, matches_of}
use Rattle.report_diff.specs.Runs.{all_ticks, are_several, hart_end_line, hart_rows, hart_ticks_row, harts_diff, harts_in_both, lone_hart_line, lone_harts, output_diff, ticks_table}
use Rattle.report_diff.specs.Sums.{bins_sum, histograms_diff, is_same_sum, lone_histogram, lone_histograms, shown_names, sums_row, sums_rows, sums_section}
use Rattle.report_diff.specs.Verdicts.{is_alone, is_same_state, lone_count_line, lone_nodes, lone_true_node, node_names, node_word, nodes_diff, state_change, state_changes, states_section}
use Rattle.report_diff.specs.Wishes.{lone_wish, lone_wishes, wish_names, wish_word, wishes_diff}
use Rattle.report_diff.specs.declared.matches.Match.{Match}
use Rattle.report_diff.proofs.Matched.{all, both_none, four_none}
use Rattle.report_diff.proofs.Named.{all_stand, alone_none, marks, none_of_same, signs}

same_number : (n : ℕ) → (n == n) ≡ true
same_number n = grind (arith, nat_tests)

same_bytes_are : (xs : List ℕ) → bytes_eq xs xs ≡ true
same_bytes_are xs = (bytes_decides xs xs).1 refl

if_true : (b : Bool) (xs ys : List ℕ) → b ≡ true → cond b xs ys ≡ xs
if_true b xs ys e = ap (λ (t : Bool). cond t xs ys) e

-- ---- harts

in_both : (line : ℕ → HartPart → HartPart → List ℕ) → ((n : ℕ) (x : HartPart) → line n x x ≡ [])
    → (news : List HartPart) (n : ℕ) (olds : List HartPart) → ((k : ℕ) → slice_get news (n + k) ≡ slice_get olds k) → harts_in_both line news n olds ≡ []
in_both line same news n [] h = refl
in_both line same news n (x ∷ xs) h =
    let z : n + 0 ≡ n = omega arith in
    let at : slice_get news n ≡ Some x = ap (slice_get news) (sym z) ∙ h 0 in
    both_none (option_map_or (line n x) (slice_get news n) []) (harts_in_both line news (n + 1) xs)
    (ap (λ (o : Option HartPart). option_map_or (line n x) o []) at ∙ same n x)
    (in_both line same news (n + 1) xs (λ k. let z : (n + 1) + k ≡ n + suc k = omega arith in ap (slice_get news) z ∙ h (suc k)))

ticks_row : (n : ℕ) (x : HartPart) → hart_ticks_row n x x ≡ []
unfolding hart_ticks_row
ticks_row n x = if_true (x.ticks == x.ticks) [] _ (same_number x.ticks)

end_line : (n : ℕ) (x : HartPart) → hart_end_line n x x ≡ []
unfolding hart_end_line
end_line n x = if_true (bytes_eq (stop_text x.stop) (stop_text x.stop)) [] _ (same_bytes_are (stop_text x.stop))

no_more : (report : List ℕ) (others n : ℕ) (harts : List HartPart) → n + length harts ≤ others → lone_harts report others n harts ≡ []
no_more report others n [] l = refl
no_more report others n (x ∷ xs) l =
    let t : nat_lt n others ≡ true = grind (arith, nat_tests) in
    both_none (cond (nat_lt n others) [] (lone_hart_line report n x)) (lone_harts report others (n + 1) xs)
    (if_true (nat_lt n others) [] (lone_hart_line report n x) t) (no_more report others (n + 1) xs (omega arith))

at_zero : (xs : List HartPart) (k : ℕ) → slice_get xs (0 + k) ≡ slice_get xs k
at_zero xs k = let z : 0 + k ≡ k = omega arith in ap (slice_get xs) z

table : (xs : List HartPart) (rows : List ℕ) → rows ≡ [] → ticks_table xs xs rows ≡ []
unfolding ticks_table
table xs rows none =
    let t : ((all_ticks xs == all_ticks xs) && is_none rows) ≡ true = ap (λ (b : Bool). b && is_none rows) (same_number (all_ticks xs)) ∙ ap is_none none in
    if_true ((all_ticks xs == all_ticks xs) && is_none rows) [] _ t

harts : (xs : List HartPart) → harts_diff xs xs ≡ []
unfolding harts_diff
harts xs =
    four_none (ticks_table xs xs (hart_rows xs xs)) (harts_in_both hart_end_line xs 0 xs) (lone_harts (codes "OLD") (length xs) 0 xs) (lone_harts (codes "NEW") (length xs) 0 xs)
    (table xs (hart_rows xs xs) (in_both hart_ticks_row ticks_row xs 0 xs (at_zero xs))) (in_both hart_end_line end_line xs 0 xs (at_zero xs))
    (no_more (codes "OLD") (length xs) 0 xs (omega arith)) (no_more (codes "NEW") (length xs) 0 xs (omega arith))

output : (xs : List ℕ) → output_diff xs xs ≡ []
unfolding output_diff
output xs = if_true (bytes_eq xs xs) [] _ (same_bytes_are xs)

-- ---- histograms and wishes

sums : (x : ShownPart) → sums_row x x ≡ []
unfolding sums_row
sums x = if_true (bins_sum x == bins_sum x) [] _ (same_number (bins_sum x))

sums_none : (rows : List ℕ) (same : ℕ) (gone added : List ℕ) → rows ≡ [] → gone ≡ [] → added ≡ [] → sums_section rows same gone added ≡ []
unfolding sums_section
sums_none rows same gone added d e f =
    let t : (is_none rows && (is_none gone && is_none added)) ≡ true =
    ap (λ (z : List ℕ). is_none z && (is_none gone && is_none added)) d ∙ ap (λ (z : List ℕ). is_none z && is_none added) e ∙ ap is_none f in
    if_true (is_none rows && (is_none gone && is_none added)) [] _ t

abbrev pub shown_name : ShownPart → List ℕ
shown_name part = pair_text part.metric part.focus

histograms : (xs : List ShownPart) → histograms_diff xs xs ≡ []
unfolding histograms_diff
histograms xs =
    let ms = matches_of (shown_names xs) (shown_names xs) in
    sums_none (sums_rows xs xs ms) (count_by (is_same_sum xs xs) ms) (lone_histograms (codes "OLD") xs ms) (lone_histograms (codes "NEW") xs ms)
    (none_of_same shown_name sums_row xs sums)
    (alone_none shown_name (lone_histogram (codes "OLD")) xs (shown_names xs) (all_stand (shown_names xs)))
    (alone_none shown_name (lone_histogram (codes "NEW")) xs (shown_names xs) (all_stand (shown_names xs)))

abbrev pub wish_name : RefusedPart → List ℕ
wish_name part = wish_word part.show ++ pair_text part.metric part.focus

wishes : (xs : List RefusedPart) → wishes_diff xs xs ≡ []
unfolding wishes_diff
wishes xs =
    let ms = matches_of (wish_names xs) (wish_names xs) in
    both_none (lone_wishes (codes "OLD") xs ms) (lone_wishes (codes "NEW") xs ms) (alone_none wish_name (lone_wish (codes "OLD")) xs (wish_names xs) (all_stand (wish_names xs)))
    (alone_none wish_name (lone_wish (codes "NEW")) xs (wish_names xs) (all_stand (wish_names xs)))

-- ---- nodes

change : (x : NodePart) → state_change x x ≡ []
unfolding state_change
change x = if_true (bytes_eq (node_word x) (node_word x)) [] _ (same_bytes_are (node_word x))

abbrev pub node_name : NodePart → List ℕ
node_name part = part.phase ++ codes " " ++ pair_text part.hypothesis part.focus

-- a mark, where it is wanted
abbrev pub if_alone : Bool → List ℕ
if_alone b = cond b (0 ∷ []) []

none_counted : (names : List (List ℕ)) → count_by is_alone (matches_of names names) ≡ 0
none_counted names =
    let m : marks is_alone (matches_of names names) ≡ [] =
    all (λ m. if_alone (is_alone m)) names names (λ name k first. ap (λ (o : Option ℕ). if_alone (not (is_some o))) first) in
    sym (signs is_alone (matches_of names names)) ∙ ap (λ (z : List ℕ). length z) m

count_none : (report : List ℕ) (n : ℕ) → n ≡ 0 → lone_count_line report n ≡ []
unfolding lone_count_line
count_none report n e = if_true (n == 0) [] _ (ap (λ (k : ℕ). k == 0) e)

lone : (report : List ℕ) (xs : List NodePart) → lone_nodes report xs (matches_of (node_names xs) (node_names xs)) ≡ []
unfolding lone_nodes
lone report xs =
    let ms = matches_of (node_names xs) (node_names xs) in
    both_none (lone_count_line report (count_by is_alone ms)) (flat_map (alone_text (lone_true_node report) xs) ms)
    (count_none report (count_by is_alone ms) (none_counted (node_names xs)))
    (alone_none node_name (lone_true_node report) xs (node_names xs) (all_stand (node_names xs)))

states_none : (changes : List ℕ) (same : ℕ) (gone added : List ℕ) → changes ≡ [] → gone ≡ [] → added ≡ [] → states_section changes same gone added ≡ []
unfolding states_section
states_none changes same gone added d e f =
    let t : (is_none changes && (is_none gone && is_none added)) ≡ true =
    ap (λ (z : List ℕ). is_none z && (is_none gone && is_none added)) d ∙ ap (λ (z : List ℕ). is_none z && is_none added) e ∙ ap is_none f in
    if_true (is_none changes && (is_none gone && is_none added)) [] _ t

nodes : (xs : List NodePart) → nodes_diff xs xs ≡ []
unfolding nodes_diff
nodes xs =
    let ms = matches_of (node_names xs) (node_names xs) in
    states_none (state_changes xs xs ms) (count_by (is_same_state xs xs) ms) (lone_nodes (codes "OLD") xs ms) (lone_nodes (codes "NEW") xs ms)
    (none_of_same node_name state_change xs change) (lone (codes "OLD") xs) (lone (codes "NEW") xs)

-- ---- all

none : (parts : ReportParts) → differences parts parts ≡ []
unfolding differences
none parts =
    let a = harts_diff parts.harts parts.harts in
    let b = output_diff parts.output parts.output in
    let c = histograms_diff parts.shown parts.shown in
    let d = wishes_diff parts.refused parts.refused in
    both_none (a ++ b ++ c ++ d) (nodes_diff (nodes_of parts) (nodes_of parts))
    (four_none a b c d (harts parts.harts) (output parts.output) (histograms parts.shown) (wishes parts.refused)) (nodes (nodes_of parts))

pub of_same : (parts : ReportParts) → diff_text parts parts ≡ codes "nothing differs\n"
unfolding diff_text
of_same parts = if_true (is_none (differences parts parts)) (codes "nothing differs\n") (differences parts parts) (ap is_none (none parts))
