-- The lines on the search are read.
use Rattle.std.proofs.Common.{◌≡◌, ℕ, suc, ◌+◌, ◌<◌, ◌≤◌, ◌^◌, nat_le, cond, Bool, true, false, Option, Some, None, IfSome, List, [], ◌∷◌, ◌++◌, length, map, codes, bytes_eq, refl, sym, ap, ◌∙◌, arith, append_assoc, append-nil, length-append}
use Rattle.std.specs.Fmt.{decimal}
use Rattle.std.specs.List.{All, list_all}
use Rattle.std.specs.Option.{option_or, unwrap_or}
use Rattle.std.proofs.lemmas.Bool.{le-leb}
use Rattle.std.proofs.lemmas.List.Elements.{All-head, All-tail}
use Rattle.pn_types.specs.Texts.{cause_text}
use Rattle.report.specs.SearchTexts.{node_line, node_lines, nodes_line, parent_text, pick_of, search_head, search_lines, state_text, verdict_text, waiting_text}
use Rattle.report.specs.declared.parts.NodePart.{NodePart}
use Rattle.report.specs.declared.parts.SearchPart.{SearchPart}
use Rattle.w3_search.specs.declared.node.Node.{Node}
use Rattle.w3_search.specs.declared.node.NodeState.{NodeState}
use Rattle.w3_search.specs.declared.node.NodeState.TheVariants.{Waiting, Active, Confirmed, Rejected, Barred, Unfinished}
use Rattle.advice.specs.Seams.{is_one_line}
use Rattle.advice.specs.Words.{number_at, words}
use Rattle.advice.proofs.Fits.{number_read, number_there, word_there}
use Rattle.advice.proofs.PlainLines.{Line, cause_line, decimal_line, one_append}
use Rattle.advice.proofs.Spaced.{before, digits_above, is_word, line_before, one_word, word_line, words_before}
use Rattle.advice.proofs.Steps.{to_lf_line}
use Rattle.report_lines.specs.Causes.{says}
use Rattle.report_lines.specs.Laws.{NodeIsRead, printed_in, printed_node, told_window}
use Rattle.report_lines.specs.Lines.{window_of_line}
use Rattle.report_lines.specs.Readable.{Is32Bit, Is64Bit, IsNodePart}
use Rattle.report_reader.specs.Drafts.{after, blank_search, if_line}
use Rattle.report_reader.specs.Laws.{window_told}
use Rattle.report_reader.specs.Readable.{IsSearchPart}
use Rattle.report_reader.specs.declared.draft.Draft.{Draft}
use Rattle.report_reader.specs.declared.draft.SearchDraft.{SearchDraft}
use Rattle.report_reader.specs.declared.due.Due.TheVariants.{Shown, Nodes}
use Rattle.report_reader.specs.declared.whole_report.Report.{Report}
use Rattle.report_reader.proofs.ReadSteps.{Reads, if_right, line_rest, same, same_draft, take_line}

-- ---- the first line

abbrev tail_words : Bool → List (List ℕ)
tail_words true = codes "full" ∷ []
tail_words false = []

-- what it says
record HeadRead (text : List ℕ) (count : ℕ) (full : Bool) : Type 0 where
  pub rest : List ℕ
  pub is : text ≡ (codes "search " ++ rest) ++ 10 ∷ []
  pub one : is_one_line (codes "search " ++ rest) ≡ true
  pub count_is : number_at 2 (codes "search " ++ rest) ≡ count
  pub full_is : says 3 (codes "search " ++ rest) (codes "full") ≡ full

head : (full : Bool) (count : ℕ) → Is64Bit count → HeadRead (nodes_line count full) count full
head true count small =
    let front = codes "search" ∷ codes "nodes" ∷ decimal count ∷ [] in
    let all : list_all is_word front ≡ true = rw (digits_above 10 count) refl in
    let line = before front (codes "full") in
    let is : words line ≡ front ++ codes "full" ∷ [] = words_before front (codes "full") all in
    record {
      rest = codes "nodes " ++ (decimal count ++ codes " full");
      is = simp append_assoc;
      one = line_before front (codes "full") all refl;
      count_is = number_there 2 count (decimal count) line (word_there 2 line _ is) (number_read count small);
      full_is = ap (λ (w : List ℕ). bytes_eq w (codes "full")) (word_there 3 line _ is);
    }
head false count small =
    let front = codes "search" ∷ codes "nodes" ∷ [] in
    let line = before front (decimal count) in
    let is : words line ≡ front ++ decimal count ∷ [] = words_before front (decimal count) refl ∙ ap (λ (l : List (List ℕ)). front ++ l) (one_word (decimal count) (digits_above 10 count)) in
    record {
      rest = codes "nodes " ++ decimal count;
      is = simp append_assoc;
      one = line_before front (decimal count) refl (decimal_line count);
      count_is = number_there 2 count (decimal count) line (word_there 2 line _ is) (number_read count small);
      full_is = ap (λ (w : List ℕ). bytes_eq w (codes "full")) (word_there 3 line _ is);
    }

abbrev blank_of : Bool → SearchDraft
blank_of full = record { full = full; window = None; nodes = [] }

head_after : (d : Draft) (count : ℕ) (full : Bool) (rest : List ℕ) → count ≤ 4096 → (codes "search " ++ rest) ++ 10 ∷ [] ≡ nodes_line count full → number_at 2 (codes "search " ++ rest) ≡ count → says 3 (codes "search " ++ rest) (codes "full") ≡ full → after (record d { due = Shown }) (codes "search " ++ rest) ≡ Some (record d { due = Nodes count; search = Some (blank_of full) })
head_after d count full rest few is number said =
    let line = codes "search " ++ rest in
    ap (λ (n : ℕ). cond (nat_le n 4096) (if_line line (nodes_line n (says 3 line (codes "full"))) (record d { due = Nodes n; search = Some (blank_search line) })) None) number
    ∙ ap (λ (b : Bool). cond b (if_line line (nodes_line count (says 3 line (codes "full"))) (record d { due = Nodes count; search = Some (blank_search line) })) None) (le-leb count 4096 few)
    ∙ ap (λ (b : Bool). if_line line (nodes_line count b) (record d { due = Nodes count; search = Some (blank_of b) })) said
    ∙ if_right line (nodes_line count full) (record d { due = Nodes count; search = Some (blank_of full) }) is

-- ---- the line of a node

-- no LF stands in a text
record IsOne (text : List ℕ) : Type 0 where
  pub is : is_one_line text ≡ true

then : (a b : List ℕ) → is_one_line a ≡ true → IsOne b → IsOne (a ++ b)
then a b h k = record { is = one_append a b h k.is }

only : (a : List ℕ) → is_one_line a ≡ true → IsOne a
only a h = record { is = h }

number : (n : ℕ) (b : List ℕ) → IsOne b → IsOne (decimal n ++ b)
number n b k = then (decimal n) b (decimal_line n) k

last_number : (n : ℕ) → IsOne (decimal n)
last_number n = only (decimal n) (decimal_line n)

verdict_one : (verdict : List ℕ) (n : Node) → is_one_line verdict ≡ true → IsOne (verdict_text verdict n)
verdict_one verdict n h =
    then verdict _ h (then (codes " value ") _ refl (number n.value _ (then (codes " ticks ") _ refl (number n.ticks _
    (then (codes " from ") _ refl (number n.from _ (then (codes " to ") _ refl (last_number n.to))))))))

waiting_one : (seen window : ℕ) → IsOne (waiting_text seen window)
waiting_one seen window = then (codes "waiting seen ") _ refl (number seen _ (then (codes " of ") _ refl (last_number window)))

state_one : (window : ℕ) (n : Node) (state : NodeState) → IsOne (state_text window n state)
state_one window n Waiting = waiting_one n.seen window
state_one window n Active = waiting_one n.seen window
state_one window n Confirmed = verdict_one (codes "true") n refl
state_one window n Rejected = verdict_one (codes "false") n refl
state_one window n (Barred cause) = then (codes "barred ") _ refl (only (cause_text (pick_of cause)) (cause_line (pick_of cause)))
state_one window n (Unfinished seen) = waiting_one seen window

parent_one : (parent : Option ℕ) → is_one_line (parent_text parent) ≡ true
parent_one None = refl
parent_one (Some n) = decimal_line n

node_regroup : (i phase parent hypothesis focus state : List ℕ) → (codes "node " ++ (i ++ (codes " phase " ++ (phase ++ (codes " parent " ++ parent))))) ++ (codes " " ++ ((hypothesis ++ (codes " " ++ focus)) ++ (codes " " ++ (state ++ codes "\n")))) ≡ (codes "node " ++ (i ++ (codes " phase " ++ (phase ++ (codes " parent " ++ (parent ++ (codes " " ++ (hypothesis ++ (codes " " ++ (focus ++ (codes " " ++ state))))))))))) ++ 10 ∷ []
node_regroup i phase parent hypothesis focus state = simp append_assoc

node_one : (window i : ℕ) (p : NodePart) → IsNodePart p → IsOne (codes "node " ++ (decimal i ++ (codes " phase " ++ (p.phase ++ (codes " parent " ++ (parent_text p.node.parent ++ (codes " " ++ (p.hypothesis ++ (codes " " ++ (p.focus ++ (codes " " ++ state_text window p.node p.node.state)))))))))))
node_one window i p h =
    then (codes "node ") _ refl (number i _ (then (codes " phase ") _ refl (then p.phase _ (word_line p.phase h.phase) (then (codes " parent ") _ refl
    (then (parent_text p.node.parent) _ (parent_one p.node.parent) (then (codes " ") _ refl (then p.hypothesis _ (word_line p.hypothesis h.hypothesis) (then (codes " ") _ refl
    (then p.focus _ (word_line p.focus h.focus) (then (codes " ") _ refl (state_one window p.node p.node.state)))))))))))

node_body : (window i : ℕ) (p : NodePart) → IsNodePart p → Line (node_line window i p)
node_body window i p h =
    let state = state_text window p.node p.node.state in
    record {
      body = codes "node " ++ (decimal i ++ (codes " phase " ++ (p.phase ++ (codes " parent " ++ (parent_text p.node.parent ++ (codes " " ++ (p.hypothesis ++ (codes " " ++ (p.focus ++ (codes " " ++ state))))))))));
      is = node_regroup (decimal i) p.phase (parent_text p.node.parent) p.hypothesis p.focus state;
      one = (node_one window i p h).is;
    }

-- ---- what is printed of a node

abbrev told_by : Option ℕ → ℕ → NodeState → ℕ
told_by before window state = unwrap_or (option_or before (told_window window state)) 0

-- the window that was told before, if one was, is that of the search
abbrev IsWindow : ℕ → Option ℕ → Type 0
IsWindow window before = IfSome before (λ w. w ≡ window)

same_window : (before : Option ℕ) (window : ℕ) → IsWindow window before → window ≡ unwrap_or (option_or before (Some window)) 0
same_window None window h = refl
same_window (Some w) window h = sym h

state_printed : (before : Option ℕ) (window : ℕ) (n : Node) (state : NodeState) → IsWindow window before → state_text window n state ≡ state_text (told_by before window state) (printed_in n state) (printed_in n state).state
state_printed before window n Waiting h = ap (waiting_text n.seen) (same_window before window h)
state_printed before window n Active h = ap (waiting_text n.seen) (same_window before window h)
state_printed before window n Confirmed h = refl
state_printed before window n Rejected h = refl
state_printed before window n (Barred cause) h = refl
state_printed before window n (Unfinished seen) h = ap (waiting_text seen) (same_window before window h)

parent_printed : (n : Node) (state : NodeState) → (printed_in n state).parent ≡ n.parent
parent_printed n Waiting = refl
parent_printed n Active = refl
parent_printed n Confirmed = refl
parent_printed n Rejected = refl
parent_printed n (Barred cause) = refl
parent_printed n (Unfinished seen) = refl

abbrev line_with : ℕ → NodePart → List ℕ → List ℕ → List ℕ
line_with i p parent state =
    (codes "node " ++ (decimal i ++ (codes " phase " ++ (p.phase ++ (codes " parent " ++ parent))))) ++ (codes " " ++ ((p.hypothesis ++ (codes " " ++ p.focus)) ++ (codes " " ++ (state ++ codes "\n"))))

node_printed : (before : Option ℕ) (window i : ℕ) (p : NodePart) → IsWindow window before → node_line window i p ≡ node_line (told_by before window p.node.state) i (printed_node p)
node_printed before window i p h =
    ap (λ (o : Option ℕ). line_with i p (parent_text o) (state_text window p.node p.node.state)) (sym (parent_printed p.node p.node.state))
    ∙ ap (line_with i p (parent_text (printed_in p.node p.node.state).parent)) (state_printed before window p.node p.node.state h)

-- ---- nodes

abbrev with_printed : SearchDraft → Option ℕ → List NodePart → SearchDraft
with_printed s window ps = record s { window = option_or s.window window; nodes = s.nodes ++ map printed_node ps }

still_window : (before : Option ℕ) (window : ℕ) (state : NodeState) → IsWindow window before → IsWindow window (option_or before (told_window window state))
still_window (Some w) window state h = h
still_window None window Waiting h = refl
still_window None window Active h = refl
still_window None window (Unfinished seen) h = refl
still_window None window Confirmed h = tt
still_window None window Rejected h = tt
still_window None window (Barred cause) h = tt

or_assoc : (a b c : Option ℕ) → option_or (option_or a b) c ≡ option_or a (option_or b c)
or_assoc None b c = refl
or_assoc (Some n) b c = refl

or_none : (a : Option ℕ) → option_or a None ≡ a
or_none None = refl
or_none (Some n) = refl

module _ (node_is_read : NodeIsRead) where
  one_node : (d : Draft) (s : SearchDraft) (window left : ℕ) (p : NodePart) (line : List ℕ) → IsWindow window s.window → Is32Bit window → IsNodePart p → line ++ 10 ∷ [] ≡ node_line window (length s.nodes) p → after (record d { due = Nodes (suc left); search = Some s }) line ≡ Some (record d { due = Nodes left; search = Some (with_printed s (told_window window p.node.state) (p ∷ [])) })
  one_node d s window left p line known small good is =
      let told = node_is_read window (length s.nodes) p line small good is in
      let next : NodePart → Option ℕ → SearchDraft = λ q w. record s { window = option_or s.window w; nodes = s.nodes ++ q ∷ [] } in
      ap (λ (q : NodePart). if_line line (node_line (unwrap_or (option_or s.window (window_of_line line)) 0) (length s.nodes) q) (record d { due = Nodes left; search = Some (next q (window_of_line line)) })) told.0
      ∙ ap (λ (w : Option ℕ). if_line line (node_line (unwrap_or (option_or s.window w) 0) (length s.nodes) (printed_node p)) (record d { due = Nodes left; search = Some (next (printed_node p) w) })) told.1
      ∙ if_right line (node_line (told_by s.window window p.node.state) (length s.nodes) (printed_node p)) (record d { due = Nodes left; search = Some (next (printed_node p) (told_window window p.node.state)) }) (is ∙ node_printed s.window window (length s.nodes) p known)

  nodes_read : (d : Draft) (s : SearchDraft) (window : ℕ) (ps : List NodePart) (rest : List ℕ) (r : Report) → IsWindow window s.window → Is32Bit window → All IsNodePart ps → Reads (record d { due = Nodes 0; search = Some (with_printed s (window_told window ps) ps) }) rest r → Reads (record d { due = Nodes (length ps); search = Some s }) (node_lines window (length s.nodes) ps ++ rest) r
  nodes_read d s window [] rest r known small good more =
      let same_search : s ≡ with_printed s None [] = ap (λ (w : Option ℕ). record s { window = w }) (sym (or_none s.window)) ∙ ap (λ (l : List NodePart). record s { window = option_or s.window None; nodes = l }) (sym (append-nil s.nodes)) in
      same_draft _ _ rest r (ap (λ (x : SearchDraft). record d { due = Nodes 0; search = Some x }) same_search) more
  nodes_read d s window (p ∷ ps) rest r known small good more =
      let l = node_body window (length s.nodes) p (All-head IsNodePart p ps good) in
      let told = told_window window p.node.state in
      let next = with_printed s told (p ∷ []) in
      let number : length s.nodes + 1 ≡ length next.nodes = omega (arith, length-append s.nodes (printed_node p ∷ [])) in
      let behind = node_lines window (length s.nodes + 1) ps ++ rest in
      let split = append_assoc (node_line window (length s.nodes) p) (node_lines window (length s.nodes + 1) ps) rest ∙ line_rest (node_line window (length s.nodes) p) l.body behind l.is in
      let same_search : with_printed next (window_told window ps) ps ≡ with_printed s (window_told window (p ∷ ps)) (p ∷ ps) =
      ap (λ (w : Option ℕ). record s { window = w; nodes = next.nodes ++ map printed_node ps }) (or_assoc s.window told (window_told window ps))
      ∙ ap (λ (x : List NodePart). record s { window = option_or s.window (window_told window (p ∷ ps)); nodes = x }) (append_assoc s.nodes (printed_node p ∷ []) (map printed_node ps)) in
      let all = same_draft _ _ rest r (ap (λ (x : SearchDraft). record d { due = Nodes 0; search = Some x }) same_search) more in
      let later = same _ behind (node_lines window (length next.nodes) ps ++ rest) r (ap (λ (n : ℕ). node_lines window n ps ++ rest) number) (nodes_read d next window ps rest r (still_window s.window window p.node.state known) small (All-tail IsNodePart p ps good) all) in
      same (record d { due = Nodes (suc (length ps)); search = Some s }) _ (l.body ++ 10 ∷ behind) r split
      (take_line (record d { due = Nodes (suc (length ps)); search = Some s }) (record d { due = Nodes (length ps); search = Some next }) l.body behind r (to_lf_line l.body behind l.one)
      (one_node d s window (length ps) p l.body known small (All-head IsNodePart p ps good) (sym l.is)) later)

  pub search_read : (d : Draft) (s : SearchPart) (rest : List ℕ) (r : Report) → IsSearchPart s → Reads (record d { due = Nodes 0; search = Some (record { full = s.full; window = window_told s.window s.nodes; nodes = map printed_node s.nodes }) }) rest r → Reads (record d { due = Shown }) (search_lines s ++ rest) r
  search_read d s rest r good more =
      let small : length s.nodes < 2 ^ 64 = omega (arith, good.count) in
      let h = head s.full (length s.nodes) small in
      let line = codes "search " ++ h.rest in
      let behind = node_lines s.window 0 s.nodes ++ rest in
      same (record d { due = Shown }) _ (line ++ 10 ∷ behind) r (append_assoc (search_head s) (node_lines s.window 0 s.nodes) rest ∙ line_rest (search_head s) line behind h.is)
      (take_line (record d { due = Shown }) (record d { due = Nodes (length s.nodes); search = Some (blank_of s.full) }) line behind r (to_lf_line line behind h.one)
      (head_after d (length s.nodes) s.full h.rest good.count (sym h.is) h.count_is h.full_is)
      (nodes_read d (blank_of s.full) s.window s.nodes rest r tt good.window good.nodes more))
