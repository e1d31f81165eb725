-- No line on what differs begins as the line does that says that nothing differs.
use Rattle.std.proofs.Common.{◌≡◌, ◌+◌, ◌==◌, ◌&&◌, ℕ, cond, Bool, true, false, not, Option, Some, None, List, [], ◌∷◌, ◌++◌, flat_map, length, refl, slice_get}
use Rattle.std.specs.Prelude.{codes, nat_lt, bytes_eq}
use Rattle.std.specs.List.{count_by}
use Rattle.std.specs.Option.{option_map_or}
use Rattle.pn_text.specs.Lines.{is_none}
use Rattle.report.specs.declared.parts.HartPart.{HartPart}
use Rattle.report.specs.declared.parts.NodePart.{NodePart}
use Rattle.report.specs.declared.parts.RefusedPart.{RefusedPart}
use Rattle.report.specs.declared.parts.ReportParts.{ReportParts}
use Rattle.report.specs.declared.parts.ShownPart.{ShownPart}
use Rattle.report_view.specs.Trees.{was_true}
use Rattle.w3_search.specs.declared.node.NodeState.{NodeState}
use Rattle.w3_search.specs.declared.node.NodeState.TheVariants.{Waiting, Active, Confirmed, Rejected, Barred, Unfinished}
use Rattle.report_diff.specs.Diff.{differences, nodes_of}
use Rattle.report_diff.specs.Matches.{alone_text, both_text, matches_of}
use Rattle.report_diff.specs.Numbers.{columns_line, numbers_row, values_row}
use Rattle.report_diff.specs.Runs.{all_ticks, are_several, hart_end_line, hart_rows, hart_ticks_row, harts_diff, harts_in_both, has_same_end, lone_hart_line, lone_harts, output_diff, ticks_table}
use Rattle.report_diff.specs.Sums.{bins_sum, histograms_diff, is_same_sum, lone_histogram, lone_histograms, same_sums_line, shown_names, sums_row, sums_rows, sums_section, sums_table}
use Rattle.report_diff.specs.Verdicts.{has_same_word, is_alone, is_same_state, lone_count_line, lone_nodes, lone_true_node, node_label, node_names, node_word, nodes_diff, same_states_line, state_change, state_changes, state_word, states_section}
use Rattle.report_diff.specs.Wishes.{lone_wish, lone_wishes, wish_names, wishes_diff}
use Rattle.report_diff.specs.declared.matches.Match.{Match}

-- an n doesn't stand first
abbrev pub clear : List ℕ → Bool
clear [] = true
clear (x ∷ xs) = not (x == 110)

pub behind : (xs ys : List ℕ) → clear xs ≡ true → clear ys ≡ true → clear (xs ++ ys) ≡ true
behind [] ys e f = f
behind (x ∷ xs) ys e f = e

four : (a b c d : List ℕ) → clear a ≡ true → clear b ≡ true → clear c ≡ true → clear d ≡ true → clear (a ++ b ++ c ++ d) ≡ true
four a b c d e f g h = behind (a ++ b ++ c) d (behind (a ++ b) c (behind a b e f) g) h

either : (b : Bool) (xs ys : List ℕ) → clear xs ≡ true → clear ys ≡ true → clear (cond b xs ys) ≡ true
either true xs ys e f = e
either false xs ys e f = f

every : {X : Type 0} (f : X → List ℕ) (xs : List X) → ((x : X) → clear (f x) ≡ true) → clear (flat_map f xs) ≡ true
every f [] h = refl
every f (x ∷ xs) h = behind (f x) (flat_map f xs) (h x) (every f xs h)

of_some : {X : Type 0} (f : X → List ℕ) (o : Option X) → ((x : X) → clear (f x) ≡ true) → clear (option_map_or f o []) ≡ true
of_some f (Some x) h = h x
of_some f None h = refl

both : {X : Type 0} (text : X → X → List ℕ) (olds news : List X) → ((x y : X) → clear (text x y) ≡ true) → (m : Match) → clear (both_text text olds news m) ≡ true
both text olds news h m =
    of_some (λ old. option_map_or (λ other. option_map_or (text old) (slice_get news other) []) m.other []) (slice_get olds m.place)
    (λ x. of_some (λ other. option_map_or (text x) (slice_get news other) []) m.other (λ k. of_some (text x) (slice_get news k) (h x)))

alone : {X : Type 0} (text : X → List ℕ) (xs : List X) → ((x : X) → clear (text x) ≡ true) → (m : Match) → clear (alone_text text xs m) ≡ true
alone text xs h m = by m.other
  where
    by : (o : Option ℕ) → clear (option_map_or (λ other. []) o (option_map_or text (slice_get xs m.place) [])) ≡ true
    by (Some k) = refl
    by None = of_some text (slice_get xs m.place) h

-- ---- harts

numbers : (old new : ℕ) (label : List ℕ) → clear (numbers_row old new label) ≡ true
unfolding numbers_row columns_line
numbers old new label = refl

values : (old new : ℕ) (label : List ℕ) → clear (values_row old new label) ≡ true
unfolding values_row columns_line
values old new label = refl

hart_ticks : (n : ℕ) (old new : HartPart) → clear (hart_ticks_row n old new) ≡ true
unfolding hart_ticks_row
hart_ticks n old new = either (old.ticks == new.ticks) [] _ refl (numbers old.ticks new.ticks _)

hart_end : (n : ℕ) (old new : HartPart) → clear (hart_end_line n old new) ≡ true
unfolding hart_end_line
hart_end n old new = either (has_same_end old new) [] _ refl refl

in_both : (line : ℕ → HartPart → HartPart → List ℕ) (news : List HartPart) (n : ℕ) (olds : List HartPart)
    → ((n : ℕ) (old new : HartPart) → clear (line n old new) ≡ true) → clear (harts_in_both line news n olds) ≡ true
in_both line news n [] h = refl
in_both line news n (old ∷ olds) h = behind (option_map_or (line n old) (slice_get news n) []) _ (of_some (line n old) (slice_get news n) (h n old)) (in_both line news (n + 1) olds h)

lone_hart : (report : List ℕ) (n : ℕ) (part : HartPart) → clear (lone_hart_line report n part) ≡ true
unfolding lone_hart_line
lone_hart report n part = refl

lone : (report : List ℕ) (others n : ℕ) (harts : List HartPart) → clear (lone_harts report others n harts) ≡ true
lone report others n [] = refl
lone report others n (part ∷ parts) =
    behind (cond (nat_lt n others) [] (lone_hart_line report n part)) _
    (either (nat_lt n others) [] (lone_hart_line report n part) refl (lone_hart report n part)) (lone report others (n + 1) parts)

ticks : (olds news : List HartPart) (rows : List ℕ) → clear (ticks_table olds news rows) ≡ true
unfolding ticks_table columns_line
ticks olds news rows = either ((all_ticks olds == all_ticks news) && is_none rows) [] _ refl refl

harts : (olds news : List HartPart) → clear (harts_diff olds news) ≡ true
unfolding harts_diff
harts olds news =
    four (ticks_table olds news (hart_rows olds news)) (harts_in_both hart_end_line news 0 olds)
    (lone_harts (codes "OLD") (length news) 0 olds) (lone_harts (codes "NEW") (length olds) 0 news)
    (ticks olds news (hart_rows olds news)) (in_both hart_end_line news 0 olds hart_end)
    (lone (codes "OLD") (length news) 0 olds) (lone (codes "NEW") (length olds) 0 news)

output : (old new : List ℕ) → clear (output_diff old new) ≡ true
unfolding output_diff
output old new = either (bytes_eq old new) [] _ refl refl

-- ---- histograms and wishes

sums : (old new : ShownPart) → clear (sums_row old new) ≡ true
unfolding sums_row
sums old new = either (bins_sum old == bins_sum new) [] _ refl (values _ _ _)

lone_shown : (report : List ℕ) (part : ShownPart) → clear (lone_histogram report part) ≡ true
unfolding lone_histogram
lone_shown report part = refl

same_sums : (n : ℕ) → clear (same_sums_line n) ≡ true
unfolding same_sums_line
same_sums n = either (n == 0) [] _ refl refl

table : (rows : List ℕ) → clear (sums_table rows) ≡ true
unfolding columns_line
table rows = either (is_none rows) [] _ refl refl

sums_part : (rows : List ℕ) (same : ℕ) (gone added : List ℕ) → clear gone ≡ true → clear added ≡ true → clear (sums_section rows same gone added) ≡ true
unfolding sums_section
sums_part rows same gone added e f =
    either (is_none rows && (is_none gone && is_none added)) [] _ refl (four (sums_table rows) (same_sums_line same) gone added (table rows) (same_sums same) e f)

lone_shown_lines : (report : List ℕ) (parts : List ShownPart) (ms : List Match) → clear (lone_histograms report parts ms) ≡ true
lone_shown_lines report parts ms = every (alone_text (lone_histogram report) parts) ms (alone (lone_histogram report) parts (lone_shown report))

histograms : (olds news : List ShownPart) → clear (histograms_diff olds news) ≡ true
unfolding histograms_diff
histograms olds news =
    let there = matches_of (shown_names olds) (shown_names news) in
    let back = matches_of (shown_names news) (shown_names olds) in
    sums_part (sums_rows olds news there) (count_by (is_same_sum olds news) there) (lone_histograms (codes "OLD") olds there) (lone_histograms (codes "NEW") news back)
    (lone_shown_lines (codes "OLD") olds there) (lone_shown_lines (codes "NEW") news back)

one_wish : (report : List ℕ) (part : RefusedPart) → clear (lone_wish report part) ≡ true
unfolding lone_wish
one_wish report part = refl

wish_lines : (report : List ℕ) (parts : List RefusedPart) (ms : List Match) → clear (lone_wishes report parts ms) ≡ true
wish_lines report parts ms = every (alone_text (lone_wish report) parts) ms (alone (lone_wish report) parts (one_wish report))

wishes : (olds news : List RefusedPart) → clear (wishes_diff olds news) ≡ true
unfolding wishes_diff
wishes olds news =
    let there = matches_of (wish_names olds) (wish_names news) in
    let back = matches_of (wish_names news) (wish_names olds) in
    behind (lone_wishes (codes "OLD") olds there) (lone_wishes (codes "NEW") news back) (wish_lines (codes "OLD") olds there) (wish_lines (codes "NEW") news back)

-- ---- nodes

word : (state : NodeState) (new label : List ℕ) → clear (state_word state ++ codes " -> " ++ new ++ codes ": " ++ label ++ codes "\n") ≡ true
word Waiting new label = refl
word Active new label = refl
word Confirmed new label = refl
word Rejected new label = refl
word (Barred cause) new label = refl
word (Unfinished seen) new label = refl

change : (old new : NodePart) → clear (state_change old new) ≡ true
unfolding state_change
change old new = either (has_same_word old new) [] _ refl (word old.node.state (node_word new) (node_label old))

lone_count : (report : List ℕ) (n : ℕ) → clear (lone_count_line report n) ≡ true
unfolding lone_count_line
lone_count report n = either (n == 0) [] _ refl refl

lone_true : (report : List ℕ) (part : NodePart) → clear (lone_true_node report part) ≡ true
unfolding lone_true_node
lone_true report part = either (was_true part) _ [] refl refl

lone_node_lines : (report : List ℕ) (parts : List NodePart) (ms : List Match) → clear (lone_nodes report parts ms) ≡ true
unfolding lone_nodes
lone_node_lines report parts ms =
    behind (lone_count_line report (count_by is_alone ms)) _ (lone_count report (count_by is_alone ms))
    (every (alone_text (lone_true_node report) parts) ms (alone (lone_true_node report) parts (lone_true report)))

same_states : (n : ℕ) → clear (same_states_line n) ≡ true
unfolding same_states_line
same_states n = either (n == 0) [] _ refl refl

states_part : (changes : List ℕ) (same : ℕ) (gone added : List ℕ) → clear changes ≡ true → clear gone ≡ true → clear added ≡ true → clear (states_section changes same gone added) ≡ true
unfolding states_section
states_part changes same gone added d e f =
    either (is_none changes && (is_none gone && is_none added)) [] _ refl (four changes (same_states_line same) gone added d (same_states same) e f)

nodes : (olds news : List NodePart) → clear (nodes_diff olds news) ≡ true
unfolding nodes_diff
nodes olds news =
    let there = matches_of (node_names olds) (node_names news) in
    let back = matches_of (node_names news) (node_names olds) in
    states_part (state_changes olds news there) (count_by (is_same_state olds news) there) (lone_nodes (codes "OLD") olds there) (lone_nodes (codes "NEW") news back)
    (every (both_text state_change olds news) there (both state_change olds news change))
    (lone_node_lines (codes "OLD") olds there) (lone_node_lines (codes "NEW") news back)

pub all_clear : (old new : ReportParts) → clear (differences old new) ≡ true
unfolding differences
all_clear old new =
    let a = harts_diff old.harts new.harts in
    let b = output_diff old.output new.output in
    let c = histograms_diff old.shown new.shown in
    let d = wishes_diff old.refused new.refused in
    behind (a ++ b ++ c ++ d) (nodes_diff (nodes_of old) (nodes_of new))
    (four a b c d (harts old.harts new.harts) (output old.output new.output) (histograms old.shown new.shown) (wishes old.refused new.refused))
    (nodes (nodes_of old) (nodes_of new))
