-- How the text of what differs begins.
use Rattle.std.proofs.Common.{◌≡◌, inl, inr, ℕ, List, [], ◌∷◌, ◌++◌, length, Option, Some, None, refl, sym, subst}
use Rattle.std.specs.Prelude.{◌+◌, ◌==◌, ◌&&◌, if◌then◌else◌, bytes_eq, codes, count_by, flat_map, nat_lt, slice_get}
use Rattle.pn_text.specs.Lines.{is_none}
use Rattle.std.specs.Option.{option_map_or}
use Rattle.std.proofs.Common.{append_assoc}
use Rattle.report.specs.declared.parts.ReportParts.{ReportParts}
use Rattle.report_diff.specs.Diff.{diff_text, differences, nodes_of}
use Rattle.report_diff.specs.Matches.{alone_text, both_text, matches_of}
use Rattle.report_diff.specs.Numbers.{columns_heading, columns_line, numbers_row}
use Rattle.report_diff.specs.Runs.{all_ticks, are_several, hart_end_line, hart_rows, harts_diff, harts_in_both, has_same_end, lone_hart_line, lone_harts, output_diff, ticks_table}
use Rattle.report_diff.specs.Sums.{histograms_diff, lone_histogram, same_sums_line, shown_names, sums_section, sums_table}
use Rattle.report_diff.specs.Verdicts.{has_same_word, is_alone, lone_count_line, lone_nodes, lone_true_node, node_label, node_names, node_word, nodes_diff, same_states_line, state_change, state_word, states_section}
use Rattle.report_view.specs.Trees.{was_true}
use Rattle.report_diff.specs.declared.matches.Match.{Match}
use Rattle.report_diff.specs.Wishes.{lone_wish, wish_names, wishes_diff}
use Rattle.report.specs.declared.parts.HartPart.{HartPart}
use Rattle.report.specs.declared.parts.NodePart.{NodePart}
use Rattle.report.specs.declared.parts.RefusedPart.{RefusedPart}
use Rattle.report.specs.declared.parts.ShownPart.{ShownPart}
use Rattle.w3_search.specs.declared.node.NodeState.{NodeState}
use Rattle.w3_search.specs.declared.node.NodeState.TheVariants.{Waiting, Active, Confirmed, Rejected, Barred, Unfinished}
use Rattle.pd_run.specs.Guards.{beginnings_of}
use Rattle.pd_run.specs.declared.kinds.Kind.TheVariants as kind
use Rattle.pd_run.proofs.Starting.{Begins, Starts, any_more, chosen, each, joined}

-- ---- what differs

abbrev Differs : List ℕ → Type 0
Differs text = Starts kind.Difference text

heading_differs : (label : List ℕ) → Begins kind.Difference (columns_heading label)
unfolding beginnings_of columns_line
heading_differs label = refl

headed : (label rest : List ℕ) → Differs (columns_heading label ++ rest)
headed label rest = inr (any_more (beginnings_of kind.Difference) (columns_heading label) rest (heading_differs label))

ends_differ : (n : ℕ) (old new : HartPart) → Differs (hart_end_line n old new)
unfolding beginnings_of hart_end_line
ends_differ n old new = chosen kind.Difference (has_same_end old new) [] _ (inl refl) (inr refl)

both_differ : (news : List HartPart) (n : ℕ) (olds : List HartPart) → Differs (harts_in_both hart_end_line news n olds)
both_differ news n [] = inl refl
both_differ news n (old ∷ olds) =
    joined kind.Difference (option_map_or (hart_end_line n old) (slice_get news n) []) (harts_in_both hart_end_line news (n + 1) olds) (by (slice_get news n)) (both_differ news (n + 1) olds)
  where
    by : (o : Option HartPart) → Differs (option_map_or (hart_end_line n old) o [])
    by None = inl refl
    by (Some new) = ends_differ n old new

lone_hart : (report : List ℕ) (n : ℕ) (part : HartPart) → Begins kind.Difference (lone_hart_line report n part)
unfolding beginnings_of lone_hart_line
lone_hart report n part = refl

lone_differ : (report : List ℕ) (others n : ℕ) (parts : List HartPart) → Differs (lone_harts report others n parts)
lone_differ report others n [] = inl refl
lone_differ report others n (part ∷ parts) =
    joined kind.Difference (if nat_lt n others then [] else lone_hart_line report n part) (lone_harts report others (n + 1) parts)
    (chosen kind.Difference (nat_lt n others) [] (lone_hart_line report n part) (inl refl) (inr (lone_hart report n part))) (lone_differ report others (n + 1) parts)

ticks_differ : (olds news : List HartPart) (rows : List ℕ) → Differs (ticks_table olds news rows)
unfolding ticks_table
ticks_differ olds news rows =
    chosen kind.Difference ((all_ticks olds == all_ticks news) && is_none rows) [] _ (inl refl)
    (subst Differs (sym (append_assoc (columns_heading (codes "ticks")) (numbers_row (all_ticks olds) (all_ticks news) (codes "all harts")) (if are_several olds news then rows else [])))
    (headed (codes "ticks") (numbers_row (all_ticks olds) (all_ticks news) (codes "all harts") ++ (if are_several olds news then rows else []))))

harts_differ : (olds news : List HartPart) → Differs (harts_diff olds news)
unfolding harts_diff
harts_differ olds news =
    joined kind.Difference _ _
    (joined kind.Difference _ _ (joined kind.Difference _ _ (ticks_differ olds news (hart_rows olds news)) (both_differ news 0 olds)) (lone_differ (codes "OLD") (length news) 0 olds))
    (lone_differ (codes "NEW") (length olds) 0 news)

output_differs : (old new : List ℕ) → Differs (output_diff old new)
unfolding beginnings_of output_diff
output_differs old new = chosen kind.Difference (bytes_eq old new) [] _ (inl refl) (inr refl)

-- lines on what stands in one report alone
alone_differ : {X : Type 0} (text : X → List ℕ) → ((x : X) → Differs (text x)) → (xs : List X) (ms : List Match) → Differs (flat_map (alone_text text xs) ms)
alone_differ {X} text h xs ms = each kind.Difference (alone_text text xs) (λ m. by (slice_get xs m.place) m.other) ms
  where
    by : (o : Option X) (other : Option ℕ) → Differs (option_map_or (λ x. []) other (option_map_or text o []))
    by o (Some place) = inl refl
    by None None = inl refl
    by (Some x) None = h x

both_in : {X : Type 0} (text : X → X → List ℕ) → ((x y : X) → Differs (text x y)) → (olds news : List X) (ms : List Match) → Differs (flat_map (both_text text olds news) ms)
both_in {X} text h olds news ms = each kind.Difference (both_text text olds news) (λ m. by (slice_get olds m.place) m.other) ms
  where
    inner : (x : X) (o : Option X) → Differs (option_map_or (text x) o [])
    inner x None = inl refl
    inner x (Some y) = h x y

    by : (o : Option X) (other : Option ℕ) → Differs (option_map_or (λ old. option_map_or (λ place. option_map_or (text old) (slice_get news place) []) other []) o [])
    by None other = inl refl
    by (Some x) None = inl refl
    by (Some x) (Some place) = inner x (slice_get news place)

histogram_alone : (report : List ℕ) (part : ShownPart) → Begins kind.Difference (lone_histogram report part)
unfolding beginnings_of lone_histogram
histogram_alone report part = refl

table_differs : (rows : List ℕ) → Differs (sums_table rows)
table_differs rows = chosen kind.Difference (is_none rows) [] _ (inl refl) (headed (codes "metric, focus") rows)

same_sums_differ : (n : ℕ) → Differs (same_sums_line n)
unfolding beginnings_of same_sums_line
same_sums_differ n = chosen kind.Difference (n == 0) [] _ (inl refl) (inr refl)

section_differs : (rows : List ℕ) (same : ℕ) (gone added : List ℕ) → Differs gone → Differs added → Differs (sums_section rows same gone added)
unfolding sums_section
section_differs rows same gone added g a =
    chosen kind.Difference (is_none rows && (is_none gone && is_none added)) [] _ (inl refl)
    (joined kind.Difference _ _ (joined kind.Difference _ _ (joined kind.Difference _ _ (table_differs rows) (same_sums_differ same)) g) a)

histograms_differ : (olds news : List ShownPart) → Differs (histograms_diff olds news)
unfolding histograms_diff
histograms_differ olds news =
    section_differs _ _ _ _
    (alone_differ (lone_histogram (codes "OLD")) (λ part. inr (histogram_alone (codes "OLD") part)) olds (matches_of (shown_names olds) (shown_names news)))
    (alone_differ (lone_histogram (codes "NEW")) (λ part. inr (histogram_alone (codes "NEW") part)) news (matches_of (shown_names news) (shown_names olds)))

wish_alone : (report : List ℕ) (part : RefusedPart) → Begins kind.Difference (lone_wish report part)
unfolding beginnings_of lone_wish
wish_alone report part = refl

wishes_differ : (olds news : List RefusedPart) → Differs (wishes_diff olds news)
unfolding wishes_diff
wishes_differ olds news =
    joined kind.Difference _ _ (alone_differ (lone_wish (codes "OLD")) (λ part. inr (wish_alone (codes "OLD") part)) olds (matches_of (wish_names olds) (wish_names news)))
    (alone_differ (lone_wish (codes "NEW")) (λ part. inr (wish_alone (codes "NEW") part)) news (matches_of (wish_names news) (wish_names olds)))

regroup : (a b c d e f : List ℕ) → a ++ b ++ c ++ d ++ e ++ f ≡ a ++ (b ++ (c ++ (d ++ (e ++ f))))
regroup a b c d e f = simp append_assoc

change_begins : (state : NodeState) (rest : List ℕ) → Begins kind.Difference (state_word state ++ (codes " -> " ++ rest))
unfolding beginnings_of
change_begins Waiting rest = refl
change_begins Active rest = refl
change_begins Confirmed rest = refl
change_begins Rejected rest = refl
change_begins (Barred cause) rest = refl
change_begins (Unfinished seen) rest = refl

change_differs : (old new : NodePart) → Differs (state_change old new)
unfolding state_change
change_differs old new =
    chosen kind.Difference (has_same_word old new) [] _ (inl refl)
    (inr (subst (Begins kind.Difference) (sym (regroup (node_word old) (codes " -> ") (node_word new) (codes ": ") (node_label old) (codes "\n")))
    (change_begins old.node.state (node_word new ++ (codes ": " ++ (node_label old ++ codes "\n"))))))

same_states_differ : (n : ℕ) → Differs (same_states_line n)
unfolding beginnings_of same_states_line
same_states_differ n = chosen kind.Difference (n == 0) [] _ (inl refl) (inr refl)

count_alone : (report : List ℕ) (n : ℕ) → Differs (lone_count_line report n)
unfolding beginnings_of lone_count_line
count_alone report n = chosen kind.Difference (n == 0) [] _ (inl refl) (inr refl)

true_alone : (report : List ℕ) (part : NodePart) → Differs (lone_true_node report part)
unfolding beginnings_of lone_true_node
true_alone report part = chosen kind.Difference (was_true part) _ [] (inr refl) (inl refl)

nodes_alone : (report : List ℕ) (parts : List NodePart) (ms : List Match) → Differs (lone_nodes report parts ms)
unfolding lone_nodes
nodes_alone report parts ms = joined kind.Difference _ _ (count_alone report (count_by is_alone ms)) (alone_differ (lone_true_node report) (true_alone report) parts ms)

states_differ : (changes : List ℕ) (same : ℕ) (gone added : List ℕ) → Differs changes → Differs gone → Differs added → Differs (states_section changes same gone added)
unfolding states_section
states_differ changes same gone added c g a =
    chosen kind.Difference (is_none changes && (is_none gone && is_none added)) [] _ (inl refl)
    (joined kind.Difference _ _ (joined kind.Difference _ _ (joined kind.Difference _ _ c (same_states_differ same)) g) a)

nodes_differ : (olds news : List NodePart) → Differs (nodes_diff olds news)
unfolding nodes_diff
nodes_differ olds news =
    states_differ _ _ _ _ (both_in state_change change_differs olds news (matches_of (node_names olds) (node_names news)))
    (nodes_alone (codes "OLD") olds (matches_of (node_names olds) (node_names news))) (nodes_alone (codes "NEW") news (matches_of (node_names news) (node_names olds)))

all_differ : (old new : ReportParts) → Differs (differences old new)
unfolding differences
all_differ old new =
    joined kind.Difference _ _
    (joined kind.Difference _ _ (joined kind.Difference _ _ (joined kind.Difference _ _ (harts_differ old.harts new.harts) (output_differs old.output new.output)) (histograms_differ old.shown new.shown))
    (wishes_differ old.refused new.refused)) (nodes_differ (nodes_of old) (nodes_of new))

nothing_differs : Begins kind.Difference (codes "nothing differs\n")
unfolding beginnings_of
nothing_differs = refl

pub diff_begins : (old new : ReportParts) → Differs (diff_text old new)
unfolding diff_text
diff_begins old new = chosen kind.Difference (is_none (differences old new)) _ _ (inr nothing_differs) (all_differ old new)
