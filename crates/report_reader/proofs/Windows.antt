-- A right line of a node that tells no window reads the same in each.
use Rattle.std.proofs.Common.{◌≡◌, ℕ, suc, ◌+◌, cond, Bool, true, false, Some, None, List, [], ◌∷◌, ◌++◌, codes, length, slice_get, bytes_eq, refl, sym, ap, ◌∙◌, append_assoc, append-nil, arith}
use Rattle.std.specs.Fmt.{decimal}
use Rattle.std.specs.List.{list_all}
use Rattle.std.specs.Option.{unwrap_or}
use Rattle.pn_types.specs.declared.pick.BarCause.{BarCause}
use Rattle.report.specs.SearchTexts.{node_line, node_lines, parent_text}
use Rattle.report.specs.declared.parts.NodePart.{NodePart}
use Rattle.w3_search.specs.declared.node.Node.{Node}
use Rattle.w3_search.specs.declared.node.NodeState.TheVariants.{Confirmed, Rejected, Barred, Unfinished}
use Rattle.advice.specs.Words.{word_at, words}
use Rattle.advice.proofs.Spaced.{before}
use Rattle.report_lines.specs.Causes.{bar_of, cause_at, says}
use Rattle.report_lines.specs.Lines.{node_of_line, plain_node, verdict_node, window_of_line}
use Rattle.report_lines.specs.Words.{parent_number, short_at}
use Rattle.report_reader.proofs.Spaced.{decimal_spaceless, is_spaceless, parent_spaceless, word_spaceless, words_of}

-- ---- the front of a text

pub front_same : (a b : List ℕ) (x y : ℕ) → a ++ x ∷ [] ≡ b ++ y ∷ [] → a ≡ b
front_same [] [] x y e = refl
front_same [] (q ∷ []) x y e = cc
front_same [] (q ∷ r ∷ b) x y e = cc
front_same (p ∷ []) [] x y e = cc
front_same (p ∷ r ∷ a) [] x y e = cc
front_same (p ∷ a) (q ∷ b) x y e =
    let rest : a ++ x ∷ [] ≡ b ++ y ∷ [] = cc in
    let same : a ≡ b = front_same a b x y rest in
    let head : p ≡ q = cc in
    cc

-- ---- the line of a node that waits says so

abbrev node_words : List ℕ → List ℕ → List ℕ → List ℕ → List ℕ → List (List ℕ)
node_words i phase parent hypothesis focus = codes "node" ∷ i ∷ codes "phase" ∷ phase ∷ codes "parent" ∷ parent ∷ hypothesis ∷ focus ∷ codes "waiting" ∷ []

regroup : (i phase parent hypothesis focus rest : List ℕ) → (codes "node " ++ (i ++ (codes " phase " ++ (phase ++ (codes " parent " ++ parent))))) ++ (codes " " ++ ((hypothesis ++ (codes " " ++ focus)) ++ (codes " " ++ ((codes "waiting seen " ++ rest) ++ codes "\n")))) ≡ before (node_words i phase parent hypothesis focus) (codes "seen " ++ rest) ++ 10 ∷ []
regroup i phase parent hypothesis focus rest = simp append_assoc

waiting_word : (i phase parent hypothesis focus rest line : List ℕ) → is_spaceless i ≡ true → is_spaceless phase ≡ true → is_spaceless parent ≡ true → is_spaceless hypothesis ≡ true → is_spaceless focus ≡ true → line ≡ before (node_words i phase parent hypothesis focus) rest → word_at 8 line ≡ codes "waiting"
waiting_word i phase parent hypothesis focus rest line a b c d e is =
    let all : list_all is_spaceless (node_words i phase parent hypothesis focus) ≡ true = rw (a, b, c, d, e) refl in
    ap (λ (l : List (List ℕ)). unwrap_or (slice_get l 8) []) (ap words is ∙ words_of (node_words i phase parent hypothesis focus) rest all)

no_window : (b : Bool) (window : ℕ) → b ≡ true → cond b (Some window) None ≡ None → ⊥
no_window true window h e = cc
no_window false window h e = cc

module _ (line : List ℕ) (i w : ℕ) (none : window_of_line line ≡ None) where
  abbrev part : Node → NodePart
  part node = record { phase = word_at 3 line; hypothesis = word_at 6 line; focus = word_at 7 line; node = node }

  -- a node that waits would tell its window
  waits : (seen : ℕ) → line ++ 10 ∷ [] ≡ node_line w i (part (plain_node (Unfinished seen) line)) → ⊥
  waits seen is =
      let parent = parent_text (parent_number (word_at 5 line)) in
      let rest = decimal seen ++ (codes " of " ++ decimal w) in
      let front = before (node_words (decimal i) (word_at 3 line) parent (word_at 6 line) (word_at 7 line)) (codes "seen " ++ rest) in
      let body : line ≡ front = front_same line front 10 10 (is ∙ regroup (decimal i) (word_at 3 line) parent (word_at 6 line) (word_at 7 line) rest) in
      let word : word_at 8 line ≡ codes "waiting" =
      waiting_word (decimal i) (word_at 3 line) parent (word_at 6 line) (word_at 7 line) (codes "seen " ++ rest) line (decimal_spaceless i) (word_spaceless 3 line) (parent_spaceless (parent_number (word_at 5 line))) (word_spaceless 6 line) (word_spaceless 7 line) body in
      no_window (says 8 line (codes "waiting")) (short_at 12 line) (ap (λ (t : List ℕ). bytes_eq t (codes "waiting")) word) none

  by : (v : ℕ) (a b c : Bool) (cause : BarCause) (seen : ℕ) → (let node = cond a (verdict_node Confirmed line) (cond b (verdict_node Rejected line) (cond c (plain_node (Barred cause) line) (plain_node (Unfinished seen) line))) in line ++ 10 ∷ [] ≡ node_line w i (part node) → node_line v i (part node) ≡ node_line w i (part node))
  by v true b c cause seen is = refl
  by v false true c cause seen is = refl
  by v false false true cause seen is = refl
  by v false false false cause seen is = absurd (waits seen is)

  pub any_window : line ++ 10 ∷ [] ≡ node_line w i (node_of_line line) → (v : ℕ) → node_line v i (node_of_line line) ≡ node_line w i (node_of_line line)
  any_window is v = by v (says 8 line (codes "true")) (says 8 line (codes "false")) (says 8 line (codes "barred")) (bar_of (cause_at 9 line)) (short_at 10 line) is

-- ---- one more node

pub one_more : (w i : ℕ) (ps : List NodePart) (p : NodePart) → node_lines w i (ps ++ p ∷ []) ≡ node_lines w i ps ++ node_line w (i + length ps) p
one_more w i [] p =
    let here : i ≡ i + 0 = omega arith in
    append-nil (node_line w i p) ∙ ap (λ (n : ℕ). node_line w n p) here
one_more w i (q ∷ ps) p =
    let there : i + 1 + length ps ≡ i + suc (length ps) = omega arith in
    ap (λ (l : List ℕ). node_line w i q ++ l) (one_more w (i + 1) ps p ∙ ap (λ (n : ℕ). node_lines w (i + 1) ps ++ node_line w n p) there)
    ∙ sym (append_assoc (node_line w i q) (node_lines w (i + 1) ps) (node_line w (i + suc (length ps)) p))
