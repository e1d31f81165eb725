-- The line of a node is read.
use Rattle.std.proofs.Common.{◌≡◌, ℕ, ◌||◌, Bool, true, false, Option, Some, None, IfSome, List, [], ◌∷◌, ◌++◌, codes, bytes_eq, refl, ap, ◌∙◌}
use Rattle.std.specs.Fmt.{decimal}
use Rattle.std.specs.List.{list_all}
use Rattle.std.proofs.lemmas.List.{append_assoc}
use Rattle.pn_types.specs.Texts.{cause_text}
use Rattle.report.specs.declared.parts.NodePart.{NodePart}
use Rattle.report.specs.SearchTexts.{node_line, parent_text, pick_of, state_text, verdict_text, waiting_text}
use Rattle.w3_search.specs.declared.node.Node.{Node}
use Rattle.w3_search.specs.declared.node.NodeState.{NodeState}
use Rattle.w3_search.specs.declared.node.NodeState.TheVariants.{Waiting, Active, Confirmed, Rejected, Barred, Unfinished}
use Rattle.advice.specs.Seams.{HasNumbers, IsNodeLine, IsSmall, is_one_line, verdict_in, verdict_on}
use Rattle.advice.specs.Words.{is_number, words}
use Rattle.advice.proofs.Fits.{head_words, head_fits, number_read, number_fits}
use Rattle.advice.proofs.NodeForms.{IsHeaded, TellsVerdict, tells_barred, tells_false, tells_true, tells_waiting}
use Rattle.advice.proofs.PlainLines.{cause_line, decimal_line}
use Rattle.advice.proofs.Spaced.{before, digits_above, focus_above, is_word, line_before, name_above, one_word, words_before}

-- ---- the node that it refines

parent_above : (parent : Option ℕ) → is_word (parent_text parent) ≡ true
parent_above None = refl
parent_above (Some n) = digits_above 10 n

or_true : (b : Bool) → (b || true) ≡ true
or_true true = refl
or_true false = refl

parent_fits : (parent : Option ℕ) → IfSome parent IsSmall → (bytes_eq (parent_text parent) (codes "none") || is_number (parent_text parent)) ≡ true
parent_fits None h = refl
parent_fits (Some n) h = rw (number_fits n h) (or_true (bytes_eq (decimal n) (codes "none")))

-- ---- the line without its LF

regroup : (i phase parent name focus state : List ℕ) → (codes "node " ++ (i ++ (codes " phase " ++ (phase ++ (codes " parent " ++ parent))))) ++ (codes " " ++ ((name ++ (codes " " ++ focus)) ++ (codes " " ++ (state ++ codes "\n")))) ≡ before (head_words i phase parent name focus []) state ++ 10 ∷ []
regroup i phase parent name focus state = simp append_assoc

abbrev heads : ℕ → NodePart → List (List ℕ)
heads i p = head_words (decimal i) p.phase (parent_text p.node.parent) p.hypothesis p.focus []

heads_above : (i : ℕ) (p : NodePart) → IsNodeLine p → list_all is_word (heads i p) ≡ true
heads_above i p h =
    rw (digits_above 10 i, name_above p.phase h.phase, parent_above p.node.parent, name_above p.hypothesis h.hypothesis, focus_above p.focus h.focus) refl

-- a line that tells a verdict
pub record NodeRead (text : List ℕ) (p : NodePart) : Type 0 where
  pub body : List ℕ
  pub is : text ≡ body ++ 10 ∷ []
  pub one : is_one_line body ≡ true
  pub tells : TellsVerdict body (verdict_on p)

module _ (window i : ℕ) (p : NodePart) (h : IsNodeLine p) (small : IsSmall i) (sized : IsSmall window) where
  abbrev body : List ℕ → List ℕ
  body text = before (heads i p) text

  headed : (text : List ℕ) (ws : List (List ℕ)) → words text ≡ ws → IsHeaded (body text) (decimal i) p.phase (parent_text p.node.parent) p.hypothesis p.focus ws
  headed text ws e = (
    words_before (heads i p) text (heads_above i p h) ∙ ap (λ (l : List (List ℕ)). heads i p ++ l) e,
    λ fs. head_fits (decimal i) p.phase (parent_text p.node.parent) p.hypothesis p.focus fs ws (number_fits i small) h.phase (parent_fits p.node.parent h.parent) h.hypothesis h.focus,
  )

  -- words with a number after them
  numbered : (ws : List (List ℕ)) (n : ℕ) → list_all is_word ws ≡ true → words (before ws (decimal n)) ≡ ws ++ decimal n ∷ []
  numbered ws n e = words_before ws (decimal n) e ∙ ap (λ (l : List (List ℕ)). ws ++ l) (one_word (decimal n) (digits_above 10 n))

  abbrev verdict_front : List ℕ → Node → List (List ℕ)
  verdict_front verdict n = verdict ∷ codes "value" ∷ decimal n.value ∷ codes "ticks" ∷ decimal n.ticks ∷ codes "from" ∷ decimal n.from ∷ codes "to" ∷ []

  front_above : (verdict : List ℕ) (n : Node) → is_word verdict ≡ true → list_all is_word (verdict_front verdict n) ≡ true
  front_above verdict n e = rw (e, digits_above 10 n.value, digits_above 10 n.ticks, digits_above 10 n.from) refl

  abbrev waiting_front : ℕ → List (List ℕ)
  waiting_front seen = codes "waiting" ∷ codes "seen" ∷ decimal seen ∷ codes "of" ∷ []

  waiting_above : (seen : ℕ) → list_all is_word (waiting_front seen) ≡ true
  waiting_above seen = rw (digits_above 10 seen) refl

  verdict_headed : (verdict : List ℕ) → is_word verdict ≡ true → IsHeaded (body (verdict_text verdict p.node)) (decimal i) p.phase (parent_text p.node.parent) p.hypothesis p.focus (verdict_front verdict p.node ++ decimal p.node.to ∷ [])
  verdict_headed verdict e = headed (verdict_text verdict p.node) (verdict_front verdict p.node ++ decimal p.node.to ∷ []) (numbered (verdict_front verdict p.node) p.node.to (front_above verdict p.node e))

  tells_seen : (seen : ℕ) → IsSmall seen → TellsVerdict (body (waiting_text seen window)) None
  tells_seen seen s =
      tells_waiting (body (waiting_text seen window)) (decimal i) p.phase (parent_text p.node.parent) p.hypothesis p.focus (decimal seen) (decimal window) (number_fits seen s) (number_fits window sized)
      (headed (waiting_text seen window) (waiting_front seen ++ decimal window ∷ []) (numbered (waiting_front seen) window (waiting_above seen)))

  tells : (state : NodeState) → HasNumbers p.node state → TellsVerdict (body (state_text window p.node state)) (verdict_in p state)
  tells Waiting s = tells_seen p.node.seen s
  tells Active s = tells_seen p.node.seen s
  tells (Unfinished seen) s = tells_seen seen s
  tells Confirmed s =
      let n = p.node in
      tells_true (body (verdict_text (codes "true") n)) (decimal i) p.phase (parent_text n.parent) p.hypothesis p.focus (decimal n.value) (decimal n.ticks) (decimal n.from) (decimal n.to) n.value n.ticks
      (number_read n.value s.0.value) (number_read n.ticks s.0.ticks) (number_fits n.from s.0.from) (number_fits n.to s.0.to) (verdict_headed (codes "true") refl) s.1
  tells Rejected s =
      let n = p.node in
      tells_false (body (verdict_text (codes "false") n)) (decimal i) p.phase (parent_text n.parent) p.hypothesis p.focus (decimal n.value) (decimal n.ticks) (decimal n.from) (decimal n.to) n.value n.ticks
      (number_read n.value s.value) (number_read n.ticks s.ticks) (number_fits n.from s.from) (number_fits n.to s.to) (verdict_headed (codes "false") refl)
  tells (Barred cause) s =
      let text = cause_text (pick_of cause) in
      tells_barred (body (codes "barred " ++ text)) (decimal i) p.phase (parent_text p.node.parent) p.hypothesis p.focus text
      (headed (codes "barred " ++ text) (codes "barred" ∷ words text) (words_before (codes "barred" ∷ []) text refl))

  one_verdict : (verdict : List ℕ) → is_word verdict ≡ true → is_one_line (verdict_text verdict p.node) ≡ true
  one_verdict verdict e = line_before (verdict_front verdict p.node) (decimal p.node.to) (front_above verdict p.node e) (decimal_line p.node.to)

  one_waiting : (seen : ℕ) → is_one_line (waiting_text seen window) ≡ true
  one_waiting seen = line_before (waiting_front seen) (decimal window) (waiting_above seen) (decimal_line window)

  one : (state : NodeState) → is_one_line (state_text window p.node state) ≡ true
  one Waiting = one_waiting p.node.seen
  one Active = one_waiting p.node.seen
  one (Unfinished seen) = one_waiting seen
  one Confirmed = one_verdict (codes "true") refl
  one Rejected = one_verdict (codes "false") refl
  one (Barred cause) = cause_line (pick_of cause)

  pub node_read : NodeRead (node_line window i p) p
  node_read = record {
    body = body (state_text window p.node p.node.state);
    is = regroup (decimal i) p.phase (parent_text p.node.parent) p.hypothesis p.focus (state_text window p.node p.node.state);
    one = line_before (heads i p) (state_text window p.node p.node.state) (heads_above i p h) (one p.node.state);
    tells = tells p.node.state h.numbers;
  }
