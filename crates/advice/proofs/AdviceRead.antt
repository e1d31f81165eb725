-- The text of an advice spells what is advised.
use Rattle.std.proofs.Common.{◌≡◌, ℕ, ◌+◌, ◌≤◌, ◌==◌, ◌&&◌, nat_le, not, cond, Bool, true, false, Option, Some, None, IfSome, is_some, List, [], ◌∷◌, ◌++◌, map, filter, flat_map, reverse, codes, refl, sym, ap, ap₂, ◌∙◌, arith, append_assoc, append-nil, subst}
use Rattle.std.specs.Fmt.{decimal}
use Rattle.std.specs.List.{All, list_all}
use Rattle.std.specs.Option.{option_map_or, option_to_list}
use Rattle.std.proofs.lemmas.Bool.{and_parts, le-leb, not-true}
use Rattle.std.proofs.lemmas.Grind.{flat_map-append}
use Rattle.std.proofs.lemmas.List.Elements.{All-append, All-cons, All-head, All-map, All-nil, All-tail, All-weaker}
use Rattle.std.proofs.lemmas.List.Folds.{list_all-append}
use Rattle.std.proofs.lemmas.List.Sorted.{All-permutation, IsPermutation-reverse}
use Rattle.first_places.specs.Places.{first_place as found_place}
use Rattle.pn_text.specs.Bytes.{is_white_space}
use Rattle.pn_text.specs.Lines.{is_lf}
use Rattle.pn_text.specs.Places.{behind_byte, after_bytes, first_place}
use Rattle.pn_text.specs.Words.{Word, NameWord, NumberWord, SignWord, is_name}
use Rattle.pn_text.specs.Writing.{are_legible, follow, pieces_text}
use Rattle.pn_text.specs.declared.place.Place.{Place}
use Rattle.pn_text.specs.declared.token.Sign.TheVariants.{Semicolon}
use Rattle.pn_text.proofs.Legible.{legible_reads}
use Rattle.mdl_parse.specs.Grammar.{keyword}
use Rattle.mdl_parse.specs.WordsInText.{PlacedWord, Spells, placed_words}
use Rattle.directives.specs.Meaning.{IsDirectives}
use Rattle.directives.specs.Spelling.{directive_words}
use Rattle.directives.specs.declared.directive.DirectiveAct.{DirectiveAct}
use Rattle.directives.specs.declared.directive.DirectiveAct.TheVariants.{Prune, PruneAxis, Threshold, First}
use Rattle.report.specs.declared.parts.NodePart.{NodePart}
use Rattle.report.specs.declared.parts.SearchPart.{SearchPart}
use Rattle.w3_search.specs.declared.node.NodeState.{NodeState}
use Rattle.w3_search.specs.declared.node.NodeState.TheVariants.{Waiting, Active, Confirmed, Rejected, Barred, Unfinished}
use Rattle.advice.specs.Advice.{hypotheses_of, hypothesis_of, is_true_of, most_threshold, names_behind, rate, threshold_of}
use Rattle.advice.specs.AdvisedDirectives.{AdviceIsRead, ReportIsAdvised, IsNamed, acts_of, firsts_for, firsts_of, from_line, prunes_for, prunes_of, thresholds_for, thresholds_of}
use Rattle.advice.specs.Directives.{advice, directive, first_line, first_text, prune_line, prune_text, threshold_line, threshold_text}
use Rattle.advice.specs.Seams.{AreSearchLines, IsNodeLine, is_one_line, verdict, verdict_in, verdict_on, verdicts_in}
use Rattle.advice.specs.declared.hypothesis.Hypothesis.{Hypothesis}
use Rattle.advice.specs.declared.verdict.Verdict.{Verdict}
use Rattle.advice.proofs.Answers.{is_least, least, least_below}
use Rattle.advice.proofs.Placed.{Piece, placed, placed_there}
use Rattle.advice.proofs.PlainLines.{decimal_line}
use Rattle.advice.proofs.Spaced.{name_above, word_line}

-- ---- texts and words

-- what an advice does
abbrev is_written : DirectiveAct → Bool
is_written (Prune name) = is_name name
is_written (PruneAxis name axis) = false
is_written (Threshold name threshold) = is_name name && nat_le threshold most_threshold
is_written (First name) = is_name name

abbrev act_text : DirectiveAct → List ℕ
act_text (Prune name) = directive (codes "prune ") name
act_text (PruneAxis name axis) = []
act_text (Threshold name threshold) = threshold_text name (Some threshold)
act_text (First name) = directive (codes "first ") name

abbrev named : List ℕ → List ℕ → List ℕ → List Piece → List Piece
named gap word name rest = (gap, keyword word) ∷ (codes " ", NameWord name) ∷ ([], SignWord Semicolon) ∷ rest

-- the words of what is done, after a gap
abbrev act_pieces : List ℕ → DirectiveAct → List Piece → List Piece
act_pieces gap (Prune name) rest = named gap (codes "prune") name rest
act_pieces gap (PruneAxis name axis) rest = rest
act_pieces gap (Threshold name threshold) rest = (gap, keyword (codes "threshold")) ∷ (codes " ", NameWord name) ∷ (codes " ", NumberWord threshold) ∷ ([], SignWord Semicolon) ∷ rest
act_pieces gap (First name) rest = named gap (codes "first") name rest

abbrev pieces : List ℕ → List DirectiveAct → List Piece
pieces gap [] = []
pieces gap (act ∷ acts) = act_pieces gap act (pieces (codes "\n") acts)

abbrev last_gap : List ℕ → List DirectiveAct → List ℕ
last_gap gap [] = gap
last_gap gap (act ∷ acts) = last_gap (codes "\n") acts

named_text : (gap word name rest words tail : List ℕ) → 10 ∷ rest ≡ words ++ tail → gap ++ ((word ++ 32 ∷ (name ++ codes ";\n")) ++ rest) ≡ (gap ++ (word ++ 32 ∷ (name ++ 59 ∷ words))) ++ tail
named_text gap word name rest words tail e = simp append_assoc (ap (λ (t : List ℕ). gap ++ (word ++ 32 ∷ (name ++ 59 ∷ t))) e)

numbered_text : (gap name number rest words tail : List ℕ) → 10 ∷ rest ≡ words ++ tail → gap ++ ((codes "threshold " ++ (name ++ (codes " " ++ (number ++ codes ";\n")))) ++ rest) ≡ (gap ++ (codes "threshold" ++ 32 ∷ (name ++ 32 ∷ (number ++ 59 ∷ words)))) ++ tail
numbered_text gap name number rest words tail e = simp append_assoc (ap (λ (t : List ℕ). gap ++ (codes "threshold " ++ (name ++ 32 ∷ (number ++ 59 ∷ t)))) e)

acts_written : (gap : List ℕ) (acts : List DirectiveAct) → list_all is_written acts ≡ true → gap ++ flat_map act_text acts ≡ pieces_text (pieces gap acts) ++ last_gap gap acts
acts_written gap [] h = append-nil gap
acts_written gap (Prune name ∷ acts) h =
    let more = acts_written (codes "\n") acts (and_parts (is_name name) (list_all is_written acts) h).1 in
    named_text gap (codes "prune") name (flat_map act_text acts) (pieces_text (pieces (codes "\n") acts)) (last_gap (codes "\n") acts) more
acts_written gap (PruneAxis name axis ∷ acts) h = cc
acts_written gap (Threshold name threshold ∷ acts) h =
    let more = acts_written (codes "\n") acts (and_parts (is_name name && nat_le threshold most_threshold) (list_all is_written acts) h).1 in
    numbered_text gap name (decimal threshold) (flat_map act_text acts) (pieces_text (pieces (codes "\n") acts)) (last_gap (codes "\n") acts) more
acts_written gap (First name ∷ acts) h =
    let more = acts_written (codes "\n") acts (and_parts (is_name name) (list_all is_written acts) h).1 in
    named_text gap (codes "first") name (flat_map act_text acts) (pieces_text (pieces (codes "\n") acts)) (last_gap (codes "\n") acts) more

-- ---- they are legible

lines_follow : (left : Word) (acts : List DirectiveAct) → list_all is_written acts ≡ true → follow left (pieces (codes "\n") acts) ≡ true
lines_follow left [] h = refl
lines_follow left (Prune name ∷ acts) h =
    let each = and_parts (is_name name) (list_all is_written acts) h in
    rw each.0 (lines_follow (SignWord Semicolon) acts each.1)
lines_follow left (PruneAxis name axis ∷ acts) h = cc
lines_follow left (Threshold name threshold ∷ acts) h =
    let each = and_parts (is_name name && nat_le threshold most_threshold) (list_all is_written acts) h in
    let two = and_parts (is_name name) (nat_le threshold most_threshold) each.0 in
    rw (two.0, two.1) (lines_follow (SignWord Semicolon) acts each.1)
lines_follow left (First name ∷ acts) h =
    let each = and_parts (is_name name) (list_all is_written acts) h in
    rw each.0 (lines_follow (SignWord Semicolon) acts each.1)

lines_legible : (acts : List DirectiveAct) → list_all is_written acts ≡ true → are_legible (pieces [] acts) ≡ true
lines_legible [] h = refl
lines_legible (Prune name ∷ acts) h =
    let each = and_parts (is_name name) (list_all is_written acts) h in
    rw each.0 (lines_follow (SignWord Semicolon) acts each.1)
lines_legible (PruneAxis name axis ∷ acts) h = cc
lines_legible (Threshold name threshold ∷ acts) h =
    let each = and_parts (is_name name && nat_le threshold most_threshold) (list_all is_written acts) h in
    let two = and_parts (is_name name) (nat_le threshold most_threshold) each.0 in
    rw (two.0, two.1) (lines_follow (SignWord Semicolon) acts each.1)
lines_legible (First name ∷ acts) h =
    let each = and_parts (is_name name) (list_all is_written acts) h in
    rw each.0 (lines_follow (SignWord Semicolon) acts each.1)

last_white : (gap : List ℕ) (acts : List DirectiveAct) → list_all is_white_space gap ≡ true → list_all is_white_space (last_gap gap acts) ≡ true
last_white gap [] h = h
last_white gap (act ∷ acts) h = last_white (codes "\n") acts refl

-- ---- each stands on its line

-- bytes without an LF keep the line
still : (place : Place) (bytes : List ℕ) → is_one_line bytes ≡ true → (after_bytes place bytes).line ≡ place.line
still place [] h = refl
still place (byte ∷ bytes) h =
    let each = and_parts (not (is_lf byte)) (is_one_line bytes) h in
    still (behind_byte place byte) bytes each.1 ∙ rw (not-true (byte == 10) each.0) refl

spelled : (n : ℕ) (place : Place) (gap : List ℕ) (acts : List DirectiveAct) → list_all is_written acts ≡ true → (after_bytes place gap).line ≡ n → Spells (flat_map directive_words (from_line n acts)) (placed place (pieces gap acts))
spelled n place gap [] h e = tt
spelled n place gap (Prune name ∷ acts) h e =
    let each = and_parts (is_name name) (list_all is_written acts) h in
    let front = after_bytes (after_bytes place gap) (codes "prune ") in
    let line = still front name (word_line name (name_above name each.0)) ∙ e in
    ((refl, e), (refl, (refl, spelled (n + 1) (after_bytes (after_bytes front name) (codes ";")) (codes "\n") acts each.1 (ap (λ (m : ℕ). m + 1) line))))
spelled n place gap (PruneAxis name axis ∷ acts) h e = cc
spelled n place gap (Threshold name threshold ∷ acts) h e =
    let each = and_parts (is_name name && nat_le threshold most_threshold) (list_all is_written acts) h in
    let two = and_parts (is_name name) (nat_le threshold most_threshold) each.0 in
    let front = after_bytes (after_bytes place gap) (codes "threshold ") in
    let middle = after_bytes (after_bytes front name) (codes " ") in
    let line = still middle (decimal threshold) (decimal_line threshold) ∙ (still front name (word_line name (name_above name two.0)) ∙ e) in
    ((refl, e), (refl, (refl, (refl, spelled (n + 1) (after_bytes (after_bytes middle (decimal threshold)) (codes ";")) (codes "\n") acts each.1 (ap (λ (m : ℕ). m + 1) line)))))
spelled n place gap (First name ∷ acts) h e =
    let each = and_parts (is_name name) (list_all is_written acts) h in
    let front = after_bytes (after_bytes place gap) (codes "first ") in
    let line = still front name (word_line name (name_above name each.0)) ∙ e in
    ((refl, e), (refl, (refl, spelled (n + 1) (after_bytes (after_bytes front name) (codes ";")) (codes "\n") acts each.1 (ap (λ (m : ℕ). m + 1) line))))

-- ---- the hypotheses

pub record IsSound (h : Hypothesis) : Type 0 where
  pub name : is_name h.name ≡ true
  pub threshold : IfSome h.threshold (λ n. n ≤ most_threshold)

small : (vs : List Verdict) (name : List ℕ) (threshold : Option ℕ) → threshold_of vs name ≡ threshold → IfSome threshold (λ n. n ≤ most_threshold)
small vs name None e = tt
small vs name (Some n) e =
    let below : least name most_threshold vs ≤ most_threshold = least_below name most_threshold (map rate (filter (is_true_of name) vs)) in
    omega (arith, is_least name vs n e, below)

names_sound : (before : List (List ℕ)) (vs : List Verdict) → All IsNamed vs → All (λ name. is_name name ≡ true) (names_behind before vs)
names_sound before [] h = All-nil (λ name. is_name name ≡ true)
names_sound before (v ∷ vs) h =
    by (is_some (found_place v.hypothesis before)) (All-head IsNamed v vs h) (names_sound (before ++ v.hypothesis ∷ []) vs (All-tail IsNamed v vs h))
  where
    by : (b : Bool) → is_name v.hypothesis ≡ true → All (λ name. is_name name ≡ true) (names_behind (before ++ v.hypothesis ∷ []) vs) → All (λ name. is_name name ≡ true) (cond b (names_behind (before ++ v.hypothesis ∷ []) vs) (v.hypothesis ∷ names_behind (before ++ v.hypothesis ∷ []) vs))
    by true here more = more
    by false here more = All-cons (λ name. is_name name ≡ true) v.hypothesis (names_behind (before ++ v.hypothesis ∷ []) vs) here more

hypotheses_sound : (vs : List Verdict) → All IsNamed vs → All IsSound (hypotheses_of vs)
hypotheses_sound vs h =
    All-map IsSound (hypothesis_of vs) (names_behind [] vs)
    (All-weaker (λ name. is_name name ≡ true) (λ name. IsSound (hypothesis_of vs name)) (λ name good. record { name = good; threshold = small vs name (threshold_of vs name) refl }) (names_behind [] vs) (names_sound [] vs h))

-- ---- all of it

prunes_sound : (name : List ℕ) (threshold : Option ℕ) → is_name name ≡ true → list_all is_written (prunes_for name threshold) ≡ true
prunes_sound name None h = rw h refl
prunes_sound name (Some n) h = refl

thresholds_sound : (name : List ℕ) (threshold : Option ℕ) → is_name name ≡ true → IfSome threshold (λ n. n ≤ most_threshold) → list_all is_written (thresholds_for name threshold) ≡ true
thresholds_sound name None h few = refl
thresholds_sound name (Some n) h few = rw (h, le-leb n most_threshold few) refl

firsts_sound : (name : List ℕ) (threshold : Option ℕ) → is_name name ≡ true → list_all is_written (firsts_for name threshold) ≡ true
firsts_sound name None h = refl
firsts_sound name (Some n) h = rw h refl

all_both : (a b : List DirectiveAct) → list_all is_written a ≡ true → list_all is_written b ≡ true → list_all is_written (a ++ b) ≡ true
all_both a b h k = rw (list_all-append is_written a b, h) k

all_flat : (f : Hypothesis → List DirectiveAct) → ((h : Hypothesis) → IsSound h → list_all is_written (f h) ≡ true) → (hs : List Hypothesis) → All IsSound hs → list_all is_written (flat_map f hs) ≡ true
all_flat f each [] h = refl
all_flat f each (x ∷ hs) h =
    rw (list_all-append is_written (f x) (flat_map f hs), each x (All-head IsSound x hs h)) (all_flat f each hs (All-tail IsSound x hs h))

acts_sound : (hs : List Hypothesis) → All IsSound hs → list_all is_written (acts_of hs) ≡ true
acts_sound hs h =
    let prunes = all_flat prunes_of (λ x g. prunes_sound x.name x.threshold g.name) hs h in
    let thresholds = all_flat thresholds_of (λ x g. thresholds_sound x.name x.threshold g.name g.threshold) hs h in
    let firsts = all_flat firsts_of (λ x g. firsts_sound x.name x.threshold g.name) (reverse hs) (All-permutation IsSound hs (reverse hs) (IsPermutation-reverse hs) h) in
    all_both (flat_map prunes_of hs) (flat_map thresholds_of hs ++ flat_map firsts_of (reverse hs)) prunes
    (all_both (flat_map thresholds_of hs) (flat_map firsts_of (reverse hs)) thresholds firsts)

prune_fused : (name : List ℕ) (threshold : Option ℕ) → prune_text name threshold ≡ flat_map act_text (prunes_for name threshold)
prune_fused name None = sym (append-nil (directive (codes "prune ") name))
prune_fused name (Some n) = refl

threshold_fused : (name : List ℕ) (threshold : Option ℕ) → threshold_text name threshold ≡ flat_map act_text (thresholds_for name threshold)
threshold_fused name None = refl
threshold_fused name (Some n) = sym (append-nil (threshold_text name (Some n)))

first_fused : (name : List ℕ) (threshold : Option ℕ) → first_text name threshold ≡ flat_map act_text (firsts_for name threshold)
first_fused name None = refl
first_fused name (Some n) = sym (append-nil (directive (codes "first ") name))

fused : (f : Hypothesis → List DirectiveAct) (text : Hypothesis → List ℕ) → ((h : Hypothesis) → text h ≡ flat_map act_text (f h)) → (hs : List Hypothesis) → flat_map text hs ≡ flat_map act_text (flat_map f hs)
fused f text each [] = refl
fused f text each (h ∷ hs) =
    ap₂ (λ (a b : List ℕ). a ++ b) (each h) (fused f text each hs) ∙ sym (flat_map-append act_text (f h) (flat_map f hs))

advice_text : (vs : List Verdict) → advice vs ≡ flat_map act_text (acts_of (hypotheses_of vs))
advice_text vs =
    let hs = hypotheses_of vs in
    let prunes = flat_map prunes_of hs in
    let thresholds = flat_map thresholds_of hs in
    let firsts = flat_map firsts_of (reverse hs) in
    ap₂ (λ (a b : List ℕ). a ++ b) (fused prunes_of prune_line (λ h. prune_fused h.name h.threshold) hs)
    (ap₂ (λ (a b : List ℕ). a ++ b) (fused thresholds_of threshold_line (λ h. threshold_fused h.name h.threshold) hs)
    (fused firsts_of first_line (λ h. first_fused h.name h.threshold) (reverse hs))
    ∙ sym (flat_map-append act_text thresholds firsts))
    ∙ sym (flat_map-append act_text prunes (thresholds ++ firsts))

-- lines of what is done are read as that
acts_read : (acts : List DirectiveAct) → list_all is_written acts ≡ true → IsDirectives (flat_map act_text acts) (from_line 1 acts)
acts_read acts h =
    let text = pieces_text (pieces [] acts) ++ last_gap [] acts in
    let white = last_white [] acts refl in
    let legible = lines_legible acts h in
    let words : placed_words text ≡ placed first_place (pieces [] acts) = placed_there (pieces [] acts) (last_gap [] acts) legible white in
    subst (λ (t : List ℕ). IsDirectives t (from_line 1 acts)) (sym (acts_written [] acts h))
    (record {
      last = after_bytes first_place text;
      end = (legible_reads (pieces [] acts) (last_gap [] acts) legible white).end;
      spelled = subst (λ (found : List PlacedWord). Spells (flat_map directive_words (from_line 1 acts)) found) (sym words) (spelled 1 first_place [] acts h refl);
    })

pub advice_is_read : AdviceIsRead
advice_is_read vs h =
    let acts = acts_of (hypotheses_of vs) in
    subst (λ (t : List ℕ). IsDirectives t (from_line 1 acts)) (sym (advice_text vs)) (acts_read acts (acts_sound (hypotheses_of vs) (hypotheses_sound vs h)))

-- ---- verdicts of a report

node_named : (p : NodePart) (state : NodeState) → is_name p.hypothesis ≡ true → All IsNamed (option_to_list (verdict_in p state))
node_named p Waiting h = All-nil IsNamed
node_named p Active h = All-nil IsNamed
node_named p Confirmed h = All-cons IsNamed (verdict true p) [] h (All-nil IsNamed)
node_named p Rejected h = All-cons IsNamed (verdict false p) [] h (All-nil IsNamed)
node_named p (Barred cause) h = All-nil IsNamed
node_named p (Unfinished seen) h = All-nil IsNamed

nodes_named : (ps : List NodePart) → All IsNodeLine ps → All IsNamed (flat_map (λ p. option_to_list (verdict_on p)) ps)
nodes_named [] h = All-nil IsNamed
nodes_named (p ∷ ps) h =
    All-append IsNamed (option_to_list (verdict_on p)) (flat_map (λ q. option_to_list (verdict_on q)) ps)
    (node_named p p.node.state (All-head IsNodeLine p ps h).hypothesis) (nodes_named ps (All-tail IsNodeLine p ps h))

search_named : (o : Option SearchPart) → IfSome o AreSearchLines → All IsNamed (option_map_or (λ s. flat_map (λ p. option_to_list (verdict_on p)) s.nodes) o [])
search_named None h = All-nil IsNamed
search_named (Some s) h = nodes_named s.nodes h.nodes

pub report_is_advised : ReportIsAdvised
report_is_advised parts skipped h = advice_is_read (verdicts_in parts) (search_named parts.search h.search)
