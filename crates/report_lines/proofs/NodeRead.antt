-- The line of a node is read.
use Rattle.std.proofs.Common.{◌≡◌, ℕ, true, Some, None, List, [], ◌∷◌, ◌++◌, Option, codes, refl, ap, ◌∙◌}
use Rattle.std.specs.Fmt.{decimal}
use Rattle.std.specs.List.{list_all}
use Rattle.std.proofs.lemmas.List.{append_assoc}
use Rattle.pn_types.specs.Texts.{cause_text}
use Rattle.pn_types.specs.declared.pick.BarCause.{BarCause}
use Rattle.pn_types.specs.declared.pick.BarCause.TheVariants as bar
use Rattle.report.specs.SearchTexts.{node_line, parent_text, pick_of, state_text, waiting_text}
use Rattle.report.specs.declared.parts.NodePart.{NodePart}
use Rattle.w3_search.specs.declared.node.Node.{Node}
use Rattle.w3_search.specs.declared.node.NodeState.{NodeState}
use Rattle.w3_search.specs.declared.node.NodeState.TheVariants.{Waiting, Active, Confirmed, Rejected, Barred, Unfinished}
use Rattle.advice.specs.Words.{words}
use Rattle.advice.proofs.Fits.{number_read, word_there}
use Rattle.advice.proofs.Spaced.{before, digits_above, is_word}
use Rattle.report_lines.specs.Causes.{bar_of, cause_at}
use Rattle.report_lines.specs.Laws.{NodeIsRead, printed_in, told_window}
use Rattle.report_lines.specs.Lines.{node_of_line, window_of_line}
use Rattle.report_lines.specs.Readable.{Is32Bit, IsNodePart, IsPrintedState}
use Rattle.report_lines.proofs.Bodies.{body_is, words_and_last, words_and_text}
use Rattle.report_lines.proofs.CausesRead.{cause_read, cause_words, StandAt, words_of_cause}
use Rattle.report_lines.proofs.NumbersRead.{parent_read, short_read}

-- ---- the words of a state

abbrev waiting_words : ℕ → ℕ → List (List ℕ)
waiting_words seen window = codes "waiting" ∷ codes "seen" ∷ decimal seen ∷ codes "of" ∷ decimal window ∷ []

abbrev verdict_words : List ℕ → Node → List (List ℕ)
verdict_words verdict n = verdict ∷ codes "value" ∷ decimal n.value ∷ codes "ticks" ∷ decimal n.ticks ∷ codes "from" ∷ decimal n.from ∷ codes "to" ∷ decimal n.to ∷ []

abbrev state_words : ℕ → Node → NodeState → List (List ℕ)
state_words window n Waiting = waiting_words n.seen window
state_words window n Active = waiting_words n.seen window
state_words window n Confirmed = verdict_words (codes "true") n
state_words window n Rejected = verdict_words (codes "false") n
state_words window n (Barred cause) = codes "barred" ∷ cause_words (pick_of cause)
state_words window n (Unfinished seen) = waiting_words seen window

waiting_is : (seen window : ℕ) → words (waiting_text seen window) ≡ waiting_words seen window
waiting_is seen window = words_and_last (codes "waiting" ∷ codes "seen" ∷ decimal seen ∷ codes "of" ∷ []) (decimal window) (rw (digits_above 10 seen) refl) (digits_above 10 window)

state_is : (window : ℕ) (n : Node) (state : NodeState) → words (state_text window n state) ≡ state_words window n state
state_is window n Waiting = waiting_is n.seen window
state_is window n Active = waiting_is n.seen window
state_is window n Confirmed =
    words_and_last (codes "true" ∷ codes "value" ∷ decimal n.value ∷ codes "ticks" ∷ decimal n.ticks ∷ codes "from" ∷ decimal n.from ∷ codes "to" ∷ []) (decimal n.to)
    (rw (digits_above 10 n.value, digits_above 10 n.ticks, digits_above 10 n.from) refl) (digits_above 10 n.to)
state_is window n Rejected =
    words_and_last (codes "false" ∷ codes "value" ∷ decimal n.value ∷ codes "ticks" ∷ decimal n.ticks ∷ codes "from" ∷ decimal n.from ∷ codes "to" ∷ []) (decimal n.to)
    (rw (digits_above 10 n.value, digits_above 10 n.ticks, digits_above 10 n.from) refl) (digits_above 10 n.to)
state_is window n (Barred cause) = words_and_text (codes "barred" ∷ []) (cause_text (pick_of cause)) (cause_words (pick_of cause)) refl (words_of_cause (pick_of cause))
state_is window n (Unfinished seen) = waiting_is seen window

-- ---- the words of the line

abbrev head_words : List ℕ → List ℕ → List ℕ → List ℕ → List ℕ → List (List ℕ) → List (List ℕ)
head_words number phase parent hypothesis focus ws = codes "node" ∷ number ∷ codes "phase" ∷ phase ∷ codes "parent" ∷ parent ∷ hypothesis ∷ focus ∷ ws

regroup : (i phase parent name focus state : List ℕ) → (codes "node " ++ (i ++ (codes " phase " ++ (phase ++ (codes " parent " ++ parent))))) ++ (codes " " ++ ((name ++ (codes " " ++ focus)) ++ (codes " " ++ (state ++ codes "\n")))) ≡ before (head_words i phase parent name focus []) state ++ 10 ∷ []
regroup i phase parent name focus state = simp append_assoc

parent_above : (parent : Option ℕ) → is_word (parent_text parent) ≡ true
parent_above None = refl
parent_above (Some n) = digits_above 10 n

bar_is : (cause : BarCause) → bar_of (pick_of cause) ≡ cause
bar_is (bar.NoConstraint a) = refl
bar_is (bar.TooManySites n) = refl
bar_is (bar.TooManyStmts at) = refl
bar_is (bar.OverCost n) = refl
bar_is (bar.NoSlot n) = refl
bar_is (bar.NoRoom n) = refl
bar_is (bar.Unmovable at) = refl

module _ (window : ℕ) (line number : List ℕ) (part : NodePart) (h : IsNodePart part) (sized : Is32Bit window) where
  abbrev LineIs : NodeState → Type 0
  LineIs state = words line ≡ head_words number part.phase (parent_text part.node.parent) part.hypothesis part.focus (state_words window part.node state)

  abbrev IsReadIn : NodeState → Type 0
  IsReadIn state = (node_of_line line ≡ record part { node = printed_in part.node state }) × (window_of_line line ≡ told_window window state)

  state_read : (state : NodeState) → IsPrintedState part.node state → LineIs state → IsReadIn state
  state_read Waiting s is = (rw (is, parent_read part.node.parent h.parent, short_read part.node.seen s) refl, rw (is, short_read window sized) refl)
  state_read Active s is = (rw (is, parent_read part.node.parent h.parent, short_read part.node.seen s) refl, rw (is, short_read window sized) refl)
  state_read (Unfinished seen) s is = (rw (is, parent_read part.node.parent h.parent, short_read seen s) refl, rw (is, short_read window sized) refl)
  state_read Confirmed s is =
      let n = part.node in
      (rw (is, parent_read n.parent h.parent, number_read n.value s.value, number_read n.ticks s.ticks, number_read n.from s.from, number_read n.to s.to) refl, rw is refl)
  state_read Rejected s is =
      let n = part.node in
      (rw (is, parent_read n.parent h.parent, number_read n.value s.value, number_read n.ticks s.ticks, number_read n.from s.from, number_read n.to s.to) refl, rw is refl)
  state_read (Barred cause) s is =
      let ws = head_words number part.phase (parent_text part.node.parent) part.hypothesis part.focus (codes "barred" ∷ cause_words (pick_of cause)) in
      let stand : StandAt 9 line (cause_words (pick_of cause)) = record { first = word_there 9 line ws is; second = word_there 10 line ws is; third = word_there 11 line ws is; object = word_there 12 line ws is; count = word_there 12 line ws is; last = word_there 13 line ws is } in
      let told : cause_at 9 line ≡ pick_of cause = cause_read (pick_of cause) 9 line s stand in
      (rw (told, bar_is cause, is, parent_read part.node.parent h.parent) refl, rw is refl)

pub node_is_read : NodeIsRead
node_is_read window n part line sized h is =
    let front = head_words (decimal n) part.phase (parent_text part.node.parent) part.hypothesis part.focus [] in
    let text = state_text window part.node part.node.state in
    let same : line ≡ before front text = body_is line (before front text) (node_line window n part) is (regroup (decimal n) part.phase (parent_text part.node.parent) part.hypothesis part.focus text) in
    let above : list_all is_word front ≡ true = rw (digits_above 10 n, h.phase, parent_above part.node.parent, h.hypothesis, h.focus) refl in
    state_read window line (decimal n) part h sized part.node.state h.state
    (ap words same ∙ words_and_text front text (state_words window part.node part.node.state) above (state_is window part.node part.node.state))
