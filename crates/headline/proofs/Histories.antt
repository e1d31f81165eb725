-- The nodes of a session's search are a history.
use Rattle.std.proofs.Common.{◌≡◌, ℕ, List, [], ◌∷◌, Option, Some, refl, sym, ap, subst, ◌∙◌}
use Rattle.std.specs.Prelude.{true, nat_lt, slice_get, IsSomeAnd}
use Rattle.std.proofs.lemmas.Bool.{cond_both}
use Rattle.pn_types.specs.declared.quantum.Quantum.{Quantum}
use Rattle.w3_search.proofs.Whole.{end_keeps, new_keeps, state_keeps, step_keeps}
use Rattle.w3_search.specs.History.{IsHistory}
use Rattle.w3_search.specs.Nodes.{is_waiting}
use Rattle.w3_search.specs.Steps.{SearchData, Waits, search_step}
use Rattle.w3_search.specs.declared.node.Node.{Node}
use Rattle.w3_search.specs.declared.node.NodeSample.{NodeSample}
use Rattle.w3_search.specs.declared.node.NodeState.{NodeState}
use Rattle.w3_search.specs.declared.node.NodeState.TheVariants.{Active, Barred, Confirmed, Rejected, Unfinished, Waiting}
use Rattle.session_spec.proofs.AdmittingSteps.{Keeps, admission_kept, all_kept, of_nodes, of_wishes, tests_kept}
use Rattle.session_spec.proofs.Leaving.{tests_alone}
use Rattle.session_spec.specs.Due.{with_arms, with_frees, with_next, with_samples}
use Rattle.session_spec.specs.Inputs.{Inputs, first_wishes}
use Rattle.session_spec.specs.Opening.{wished, with_agenda}
use Rattle.session_spec.specs.Searches.{rules_of}
use Rattle.session_spec.specs.States.{SessionState, State, first_kept}
use Rattle.session_spec.specs.Tests.{with_tests}
use Rattle.session_spec.specs.Turns.{with_entries, with_hart, with_quiet}
use Rattle.session_spec.specs.Verdicts.{with_search_end, with_verdicts}
use Rattle.session_spec.specs.Work.{final_state, first_state, is_due, state_admitted, state_done, state_handed, state_last, state_quiet, state_turned, after_quantum, tests_now, after_quanta, after_quanta_from}

-- the search of what is kept is a history
abbrev Has : SessionState → Type 0
Has k = IsHistory k.search

waits_is : (q : NodeState) → is_waiting q ≡ true → q ≡ Waiting
waits_is Waiting e = refl
waits_is Active e = absurd cc
waits_is Confirmed e = absurd cc
waits_is Rejected e = absurd cc
waits_is (Barred cause) e = absurd cc
waits_is (Unfinished n) e = absurd cc

waiting : (n : ℕ) (v : SearchData) (node : Node) → slice_get v.nodes n ≡ Some node → is_waiting node.state ≡ true → Waits n v.nodes
waiting n v node stands waits = subst (λ (o : Option Node). IsSomeAnd o (λ x. x.state ≡ Waiting)) (sym stands) (waits_is node.state waits)

keeps : (i : Inputs) → Keeps i Has
keeps i = record {
  beside = λ k j b h. subst IsHistory (sym b.search) h;
  drops = λ k n h. h;
  wished = λ k plan w placer p a h. h;
  barred = λ k n node cause s w b h. state_keeps n (Barred cause) k.search h (waiting n k.search node s w) refl;
  tested = λ k n node plan placer s w p m a h. state_keeps n Active k.search h (waiting n k.search node s w) refl;
}

has_verdicts : (samples : List NodeSample) (k : SessionState) → Has k → Has (with_verdicts samples k)
unfolding with_verdicts
has_verdicts samples k h =
    let v = search_step k.time samples k.search in
    subst IsHistory (sym (ap (λ (z : SessionState). z.search) (tests_alone v.drops (record k { search = v })))) (step_keeps k.time samples k.search h)

-- what leaves the search
turned_search : (h n : ℕ) (k : SessionState) → (with_hart h n k).search ≡ k.search
unfolding with_hart
turned_search h n k = refl

entries_search : (k : SessionState) → (with_entries k).search ≡ k.search
unfolding with_entries
entries_search k = refl

quiet_search : (k : SessionState) → (with_quiet k).search ≡ k.search
unfolding with_quiet
quiet_search k = refl

samples_search : (k : SessionState) → (with_samples k).search ≡ k.search
unfolding with_samples
samples_search k = refl

armed_search : (k : SessionState) → (with_arms (with_frees k)).search ≡ k.search
unfolding with_arms with_frees
armed_search k = refl

next_search : (width : ℕ) (k : SessionState) → (with_next width k).search ≡ k.search
unfolding with_next
next_search width k = refl

opened_search : (k : SessionState) → (with_arms (with_agenda k)).search ≡ k.search
unfolding with_arms with_agenda
opened_search k = refl

by_same : (k j : SessionState) → j.search ≡ k.search → Has k → Has j
by_same k j e h = subst IsHistory (sym e) h

-- ---- a quantum, and the end

has_done : (i : Inputs) (s : State) → Has s.kept → Has (state_done i s).kept
has_done i s h =
    let a = with_arms (with_frees (with_samples s.kept)) in
    let v = with_verdicts (tests_now i s) a in
    by_same v (with_next i.settings.width v) (next_search i.settings.width v)
    (has_verdicts (tests_now i s) a (by_same s.kept a (armed_search (with_samples s.kept) ∙ samples_search s.kept) h))

has_quiet : (s : State) → Has s.kept → Has (state_quiet s).kept
has_quiet s h = by_same s.kept (state_quiet s).kept (quiet_search s.kept) h

has_tend : (i : Inputs) (h n : ℕ) (s : State) → Has s.kept → Has (after_quantum i h n s).kept
unfolding after_quantum
has_tend i h n s b =
    let a = state_admitted i s in
    let t = state_turned h n a in
    let x = state_handed t in
    let here : Has x.kept = by_same a.kept x.kept (entries_search t.kept ∙ turned_search h n a.kept) (admission_kept i Has (keeps i) s.kept b) in
    cond_both (is_due x.kept) (state_done i (state_quiet x)) x (λ (y : State). Has y.kept) (λ _. has_done i (state_quiet x) (has_quiet x here)) (λ _. here)

has_end : (k : SessionState) → Has k → Has (with_search_end k)
unfolding with_search_end
has_end k h = end_keeps k.search h

has_closed : (i : Inputs) (s : State) → Has s.kept → Has (final_state i s).kept
unfolding final_state
has_closed i s h =
    let q = state_quiet s in
    cond_both (nat_lt q.kept.last q.kept.time) (state_last i q) q (λ (x : State). Has (with_search_end x.kept))
    (λ _. has_end (state_last i q).kept (has_verdicts (tests_now i q) (with_samples q.kept) (by_same q.kept (with_samples q.kept) (samples_search q.kept) (has_quiet s h))))
    (λ _. has_end q.kept (has_quiet s h))

-- ---- the beginning, and all quanta

has_first : (i : Inputs) → Has (first_state i).kept
unfolding wished
has_first i =
    let w = all_kept i Has (of_wishes i Has (keeps i)) (first_wishes i) (first_kept i) (new_keeps (rules_of i)) in
    by_same (with_tests i (wished i)) (first_state i).kept (opened_search (with_tests i (wished i))) (tests_kept i Has (of_nodes i Has (keeps i)) (wished i) w)

has_from : (i : Inputs) (quanta : List Quantum) (s : State) → Has s.kept → Has (after_quanta_from i quanta s).kept
has_from i [] s h = h
has_from i (q ∷ quanta) s h = has_from i quanta (after_quantum i q.hart q.turns s) (has_tend i q.hart q.turns s h)

has_work : (i : Inputs) (quanta : List Quantum) → Has (after_quanta i quanta).kept
unfolding after_quanta
has_work i quanta = has_from i quanta (first_state i) (has_first i)

-- The nodes of a closed session are a history.
pub history : (i : Inputs) (quanta : List Quantum) → IsHistory (final_state i (after_quanta i quanta)).kept.search
history i quanta = has_closed i (after_quanta i quanta) (has_work i quanta)
