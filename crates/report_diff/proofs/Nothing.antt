-- Where nothing differs, all that is compared is the same.
use Rattle.std.proofs.Common.{◌≡◌, ◌+◌, ◌==◌, ◌&&◌, ◌<◌, ◌≤◌, ℕ, zero, suc, cond, Bool, true, false, not, Option, Some, None, List, [], ◌∷◌, ◌++◌, length, map, flat_map, refl, ap, sym, ◌∙◌, slice_get, get_or, arith}
use Rattle.std.specs.Prelude.{codes, nat_lt, bytes_eq, is_some}
use Rattle.std.specs.Cmp.Lexicographic.{bytes_decides}
use Rattle.std.specs.List.{count_by}
use Rattle.std.specs.Option.{option_map, option_map_or}
use Rattle.std.proofs.lemmas.Bool.Decides.{nat_tests}
use Rattle.std.proofs.lemmas.List.{nil_from_length}
use Rattle.std.proofs.lemmas.Option.{slice_get-get_or}
use Rattle.first_places.specs.Places.{first_place}
use Rattle.pn_text.specs.Lines.{is_none}
use Rattle.pn_types.specs.Texts.{stop_text}
use Rattle.report.specs.declared.parts.HartPart.{HartPart}
use Rattle.report.specs.declared.parts.NodePart.{NodePart}
use Rattle.report.specs.declared.parts.RefusedPart.{RefusedPart}
use Rattle.report.specs.declared.parts.ReportParts.{ReportParts}
use Rattle.report.specs.declared.parts.ShownPart.{ShownPart}
use Rattle.w3_search.specs.declared.node.NodeState.{NodeState}
use Rattle.w3_search.specs.declared.node.NodeState.TheVariants.{Waiting, Active, Confirmed, Rejected, Barred, Unfinished}
use Rattle.report_diff.specs.Diff.{diff_text, differences, nodes_of}
use Rattle.report_diff.specs.Laws.{AreSame}
use Rattle.report_diff.specs.Matches.{alone_text, both_text, matches_of}
use Rattle.report_diff.specs.Named.{value_named}
use Rattle.report_diff.specs.Numbers.{columns_line, numbers_row, values_row}
use Rattle.report_diff.specs.Runs.{all_ticks, are_several, hart_end_line, hart_rows, hart_ticks_row, harts_diff, harts_in_both, lone_hart_line, lone_harts, output_diff, ticks_table}
use Rattle.report_diff.specs.Sums.{bins_sum, histograms_diff, is_same_sum, lone_histogram, lone_histograms, shown_names, sums_row, sums_rows, same_sums_line, sums_section, sums_table}
use Rattle.report_diff.specs.Verdicts.{is_alone, is_same_state, lone_count_line, lone_nodes, lone_true_node, node_label, node_names, node_word, nodes_diff, same_states_line, state_change, state_changes, state_word, states_section}
use Rattle.report_diff.specs.Wishes.{lone_wish, lone_wishes, wish_names, wishes_diff}
use Rattle.report_diff.specs.declared.matches.Match.{Match}
use Rattle.report_diff.proofs.Matched.{back_none, each, each_none, front_none}
use Rattle.report_diff.proofs.Named.{AllStand, marks, none_alone, same_values, signs, stand_in_both}
use Rattle.report_diff.proofs.Sames.{if_alone, node_name, shown_name, wish_name}
use Rattle.report_diff.proofs.Starts.{all_clear, clear}

are_none : (xs : List ℕ) → is_none xs ≡ true → xs ≡ []
are_none [] e = refl
are_none (x ∷ xs) e = cc

-- a test holds where its text is none, if no text would be due else
test_of : (b : Bool) (xs : List ℕ) → (xs ≡ [] → ⊥) → cond b [] xs ≡ [] → b ≡ true
test_of true xs due e = refl
test_of false xs due e = absurd (due e)

-- ---- harts

ticks_same : (n : ℕ) (old new : HartPart) → hart_ticks_row n old new ≡ [] → old.ticks ≡ new.ticks
unfolding hart_ticks_row numbers_row columns_line
ticks_same n old new e =
    let t : (old.ticks == new.ticks) ≡ true = test_of (old.ticks == new.ticks) _ (λ f. cc) e in
    grind (arith, nat_tests)

ends_same : (n : ℕ) (old new : HartPart) → hart_end_line n old new ≡ [] → stop_text old.stop ≡ stop_text new.stop
unfolding hart_end_line
ends_same n old new e = (bytes_decides (stop_text old.stop) (stop_text new.stop)).0 (test_of (bytes_eq (stop_text old.stop) (stop_text new.stop)) _ (λ f. cc) e)

in_both : (line : ℕ → HartPart → HartPart → List ℕ) (news : List HartPart) (n : ℕ) (olds : List HartPart) → harts_in_both line news n olds ≡ []
    → (k : ℕ) (x y : HartPart) → slice_get olds k ≡ Some x → slice_get news (n + k) ≡ Some y → line (n + k) x y ≡ []
in_both line news n [] none k x y at there = cc
in_both line news n (old ∷ olds) none zero x y at there =
    let z : n + zero ≡ n = omega arith in
    let there2 : slice_get news n ≡ Some y = sym (ap (slice_get news) z) ∙ there in
    let same : old ≡ x = cc in
    ap (λ (k : ℕ). line k x y) z ∙ sym (ap (λ (h : HartPart). line n h y) same)
    ∙ sym (ap (λ (o : Option HartPart). option_map_or (line n old) o []) there2) ∙ front_none (option_map_or (line n old) (slice_get news n) []) _ none
in_both line news n (old ∷ olds) none (suc k) x y at there =
    let z : n + suc k ≡ (n + 1) + k = omega arith in
    ap (λ (j : ℕ). line j x y) z
    ∙ in_both line news (n + 1) olds (back_none (option_map_or (line n old) (slice_get news n) []) _ none) k x y at (sym (ap (slice_get news) z) ∙ there)

not_lone : (report : List ℕ) (n : ℕ) (part : HartPart) → lone_hart_line report n part ≡ [] → ⊥
unfolding lone_hart_line
not_lone report n part e = cc

within : (report : List ℕ) (others n : ℕ) (harts : List HartPart) → lone_harts report others n harts ≡ [] → (k : ℕ) (x : HartPart) → slice_get harts k ≡ Some x → n + k < others
within report others n [] none k x at = cc
within report others n (part ∷ parts) none zero x at =
    let t : nat_lt n others ≡ true = test_of (nat_lt n others) (lone_hart_line report n part) (not_lone report n part) (front_none (cond (nat_lt n others) [] (lone_hart_line report n part)) _ none) in
    grind (arith, nat_tests)
within report others n (part ∷ parts) none (suc k) x at =
    let l : (n + 1) + k < others = within report others (n + 1) parts (back_none (cond (nat_lt n others) [] (lone_hart_line report n part)) _ none) k x at in
    omega arith

module _ {V : Type 0} (value : HartPart → V) (line : ℕ → HartPart → HartPart → List ℕ) (same : (n : ℕ) (x y : HartPart) → line n x y ≡ [] → value x ≡ value y) (olds news : List HartPart) where
  by_hart : harts_in_both line news 0 olds ≡ [] → lone_harts (codes "OLD") (length news) 0 olds ≡ [] → lone_harts (codes "NEW") (length olds) 0 news ≡ []
      → (n : ℕ) → option_map value (slice_get olds n) ≡ option_map value (slice_get news n)
  by_hart none gone added n = by (slice_get olds n) (slice_get news n) refl refl
    where
      by : (o p : Option HartPart) → slice_get olds n ≡ o → slice_get news n ≡ p → option_map value o ≡ option_map value p
      by None None e f = refl
      by (Some x) (Some y) e f =
          let z : 0 + n ≡ n = omega arith in
          ap (λ (v : V). Some v) (same (0 + n) x y (in_both line news 0 olds none n x y e (ap (slice_get news) z ∙ f)))
      by (Some x) None e f =
          let l : 0 + n < length news = within (codes "OLD") (length news) 0 olds gone n x e in
          let there : slice_get news n ≡ Some (get_or news n x) = slice_get-get_or news n x (omega arith) in
          cc
      by None (Some y) e f =
          let l : 0 + n < length olds = within (codes "NEW") (length olds) 0 news added n y f in
          let there : slice_get olds n ≡ Some (get_or olds n y) = slice_get-get_or olds n y (omega arith) in
          cc

right : (a b : Bool) → (a && b) ≡ true → b ≡ true
right true b e = e
right false b e = cc

left : (a b : Bool) → (a && b) ≡ true → a ≡ true
left true b e = refl
left false b e = cc

no_rows : (olds news : List HartPart) (rows : List ℕ) → ticks_table olds news rows ≡ [] → rows ≡ []
unfolding ticks_table columns_line
no_rows olds news rows e = are_none rows (right (all_ticks olds == all_ticks news) (is_none rows) (test_of ((all_ticks olds == all_ticks news) && is_none rows) _ (λ f. cc) e))

record HartsSame (olds news : List HartPart) : Type 0 where
  pub ticks : (n : ℕ) → option_map (λ part. part.ticks) (slice_get olds n) ≡ option_map (λ part. part.ticks) (slice_get news n)
  pub ends : (n : ℕ) → option_map (λ part. stop_text part.stop) (slice_get olds n) ≡ option_map (λ part. stop_text part.stop) (slice_get news n)

harts : (olds news : List HartPart) → harts_diff olds news ≡ [] → HartsSame olds news
unfolding harts_diff
harts olds news none =
    let n = each_none (ticks_table olds news (hart_rows olds news)) (harts_in_both hart_end_line news 0 olds)
    (lone_harts (codes "OLD") (length news) 0 olds) (lone_harts (codes "NEW") (length olds) 0 news) none in
    let rows = no_rows olds news (hart_rows olds news) n.first in
    record {
      ticks = by_hart (λ part. part.ticks) hart_ticks_row ticks_same olds news rows n.third n.fourth;
      ends = by_hart (λ part. stop_text part.stop) hart_end_line ends_same olds news n.second n.third n.fourth;
    }

output : (old new : List ℕ) → output_diff old new ≡ [] → old ≡ new
unfolding output_diff
output old new e = (bytes_decides old new).0 (test_of (bytes_eq old new) _ (λ f. cc) e)

-- ---- histograms and wishes

record ThreeNone (xs ys zs : List ℕ) : Type 0 where
  pub first : xs ≡ []
  pub second : ys ≡ []
  pub third : zs ≡ []

by_tests : (xs ys zs : List ℕ) → (is_none xs && (is_none ys && is_none zs)) ≡ true → ThreeNone xs ys zs
by_tests xs ys zs e =
    let f = right (is_none xs) (is_none ys && is_none zs) e in
    record { first = are_none xs (left (is_none xs) _ e); second = are_none ys (left (is_none ys) _ f); third = are_none zs (right (is_none ys) _ f) }

no_table : (rows : List ℕ) → sums_table rows ≡ [] → rows ≡ []
unfolding columns_line
no_table [] e = refl
no_table (x ∷ rows) e = cc

sums_none : (rows : List ℕ) (same : ℕ) (gone added : List ℕ) → sums_section rows same gone added ≡ [] → ThreeNone rows gone added
unfolding sums_section
sums_none rows same gone added e = by (is_none rows && (is_none gone && is_none added)) refl e
  where
    by : (b : Bool) → (is_none rows && (is_none gone && is_none added)) ≡ b → cond b [] (sums_table rows ++ same_sums_line same ++ gone ++ added) ≡ [] → ThreeNone rows gone added
    by true t e = by_tests rows gone added t
    by false t e =
        let n = each_none (sums_table rows) (same_sums_line same) gone added e in
        record { first = no_table rows n.first; second = n.third; third = n.fourth }

sums_differ : (old new : ShownPart) → sums_row old new ≡ [] → bins_sum old ≡ bins_sum new
unfolding sums_row values_row columns_line
sums_differ old new e =
    let t : (bins_sum old == bins_sum new) ≡ true = test_of (bins_sum old == bins_sum new) _ (λ f. cc) e in
    grind (arith, nat_tests)

lone_shown : (report : List ℕ) (part : ShownPart) → lone_histogram report part ≡ [] → ⊥
unfolding lone_histogram
lone_shown report part e = cc

histograms : (olds news : List ShownPart) → histograms_diff olds news ≡ []
    → (name : List ℕ) → value_named bins_sum (shown_names olds) olds name ≡ value_named bins_sum (shown_names news) news name
unfolding histograms_diff
histograms olds news none =
    let there = matches_of (shown_names olds) (shown_names news) in
    let back = matches_of (shown_names news) (shown_names olds) in
    let three = sums_none (sums_rows olds news there) (count_by (is_same_sum olds news) there) (lone_histograms (codes "OLD") olds there) (lone_histograms (codes "NEW") news back) none in
    same_values bins_sum shown_name sums_row olds news sums_differ three.first
    (none_alone shown_name (lone_histogram (codes "OLD")) olds (shown_names news) (lone_shown (codes "OLD")) three.second)
    (none_alone shown_name (lone_histogram (codes "NEW")) news (shown_names olds) (lone_shown (codes "NEW")) three.third)

one_wish : (report : List ℕ) (part : RefusedPart) → lone_wish report part ≡ [] → ⊥
unfolding lone_wish
one_wish report part e = cc

wishes : (olds news : List RefusedPart) → wishes_diff olds news ≡ []
    → (name : List ℕ) → is_some (first_place name (wish_names olds)) ≡ is_some (first_place name (wish_names news))
unfolding wishes_diff
wishes olds news none =
    let gone = lone_wishes (codes "OLD") olds (matches_of (wish_names olds) (wish_names news)) in
    let added = lone_wishes (codes "NEW") news (matches_of (wish_names news) (wish_names olds)) in
    stand_in_both (wish_names olds) (wish_names news)
    (none_alone wish_name (lone_wish (codes "OLD")) olds (wish_names news) (one_wish (codes "OLD")) (front_none gone added none))
    (none_alone wish_name (lone_wish (codes "NEW")) news (wish_names olds) (one_wish (codes "NEW")) (back_none gone added none))

-- ---- nodes

has_word : (state : NodeState) (new label : List ℕ) → state_word state ++ codes " -> " ++ new ++ codes ": " ++ label ++ codes "\n" ≡ [] → ⊥
has_word Waiting new label e = cc
has_word Active new label e = cc
has_word Confirmed new label e = cc
has_word Rejected new label e = cc
has_word (Barred cause) new label e = cc
has_word (Unfinished seen) new label e = cc

words_differ : (old new : NodePart) → state_change old new ≡ [] → node_word old ≡ node_word new
unfolding state_change
words_differ old new e =
    (bytes_decides (node_word old) (node_word new)).0
    (test_of (bytes_eq (node_word old) (node_word new)) _ (has_word old.node.state (node_word new) (node_label old)) e)

none_counted : (report : List ℕ) (n : ℕ) → lone_count_line report n ≡ [] → n ≡ 0
unfolding lone_count_line
none_counted report n e = let t : (n == 0) ≡ true = test_of (n == 0) _ (λ f. cc) e in grind (arith, nat_tests)

lone : (report : List ℕ) (xs : List NodePart) (others : List (List ℕ)) → lone_nodes report xs (matches_of (node_names xs) others) ≡ [] → AllStand (node_names xs) others
unfolding lone_nodes
lone report xs others none name k first =
    let ms = matches_of (node_names xs) others in
    let count : count_by is_alone ms ≡ 0 = none_counted report (count_by is_alone ms) (front_none (lone_count_line report (count_by is_alone ms)) (flat_map (alone_text (lone_true_node report) xs) ms) none) in
    let m : marks is_alone ms ≡ [] = nil_from_length (marks is_alone ms) (signs is_alone ms ∙ count) in
    by (first_place name others) (each (λ m. if_alone (is_alone m)) (node_names xs) others name k first m)
  where
    by : (o : Option ℕ) → if_alone (not (is_some o)) ≡ [] → is_some o ≡ true
    by (Some j) e = refl
    by None e = cc

states_none : (changes : List ℕ) (same : ℕ) (gone added : List ℕ) → states_section changes same gone added ≡ [] → ThreeNone changes gone added
unfolding states_section
states_none changes same gone added e = by (is_none changes && (is_none gone && is_none added)) refl e
  where
    by : (b : Bool) → (is_none changes && (is_none gone && is_none added)) ≡ b → cond b [] (changes ++ same_states_line same ++ gone ++ added) ≡ [] → ThreeNone changes gone added
    by true t e = by_tests changes gone added t
    by false t e =
        let n = each_none changes (same_states_line same) gone added e in
        record { first = n.first; second = n.third; third = n.fourth }

nodes : (olds news : List NodePart) → nodes_diff olds news ≡ []
    → (name : List ℕ) → value_named node_word (node_names olds) olds name ≡ value_named node_word (node_names news) news name
unfolding nodes_diff
nodes olds news none =
    let there = matches_of (node_names olds) (node_names news) in
    let back = matches_of (node_names news) (node_names olds) in
    let three = states_none (state_changes olds news there) (count_by (is_same_state olds news) there) (lone_nodes (codes "OLD") olds there) (lone_nodes (codes "NEW") news back) none in
    same_values node_word node_name state_change olds news words_differ three.first
    (lone (codes "OLD") olds (node_names news) three.second) (lone (codes "NEW") news (node_names olds) three.third)

-- ---- all

from_none : (old new : ReportParts) → differences old new ≡ [] → AreSame old new
unfolding differences
from_none old new none =
    let a = harts_diff old.harts new.harts in
    let b = output_diff old.output new.output in
    let d = histograms_diff old.shown new.shown in
    let e = wishes_diff old.refused new.refused in
    let f = nodes_diff (nodes_of old) (nodes_of new) in
    let n = each_none a b d e (front_none (a ++ b ++ d ++ e) f none) in
    let h = harts old.harts new.harts n.first in
    record {
      ticks = h.ticks;
      ends = h.ends;
      output = output old.output new.output n.second;
      sums = histograms old.shown new.shown n.third;
      wishes = wishes old.refused new.refused n.fourth;
      states = nodes (nodes_of old) (nodes_of new) (back_none (a ++ b ++ d ++ e) f none);
    }

pub from_line : (old new : ReportParts) → diff_text old new ≡ codes "nothing differs\n" → AreSame old new
unfolding diff_text
from_line old new line = by (is_none (differences old new)) refl line
  where
    by : (b : Bool) → is_none (differences old new) ≡ b → cond b (codes "nothing differs\n") (differences old new) ≡ codes "nothing differs\n" → AreSame old new
    by true e line = from_none old new (are_none (differences old new) e)
    by false e line =
        let starts : clear (codes "nothing differs\n") ≡ true = sym (ap clear line) ∙ all_clear old new in
        absurd (let f : false ≡ true = starts in cc)
