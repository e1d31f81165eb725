-- A node that is barred was barred when the search took it, by the cause that it has.
use Rattle.std.proofs.Common.{◌≡◌, ℕ, Bool, true, false, Option, Some, None, Ok, Err, List, [], ◌∷◌, ◌++◌, refl, sym, ap, subst, ◌∙◌, inl, inr, ◌⊎◌, ⊎_elim, append_assoc}
use Rattle.std.specs.Prelude.{Result, nat_lt, slice_get, take}
use Rattle.std.proofs.lemmas.Bool.{true≢false, cond-true, cond-false, cond_both, cases_eq}
use Rattle.pn_types.specs.declared.pick.BarCause.{BarCause}
use Rattle.pn_types.specs.declared.plan.Plan.{Plan}
use Rattle.prim_code.specs.Counts.{predicted}
use Rattle.mdl_plan.specs.declared.fault.PlanFault.{PlanFault}
use Rattle.pn_types.specs.declared.quantum.Quantum.{Quantum}
use Rattle.instrument.specs.Placements.{Placements, admission}
use Rattle.instrument.specs.declared.number.Refused.{Refused}
use Rattle.w3_search.specs.declared.node.Node.{Node}
use Rattle.w3_search.specs.declared.node.NodeSample.{NodeSample}
use Rattle.w3_search.specs.declared.node.NodeState.{NodeState}
use Rattle.w3_search.specs.declared.node.NodeState.TheVariants.{Active, Barred}
use Rattle.w3_search.specs.Nodes.{with_node_changed, in_state, is_waiting, waiting_of}
use Rattle.w3_search.specs.Steps.{SearchData, search_step, with_all_samples}
use Rattle.session_spec.specs.Inputs.{Inputs, first_wishes, planned}
use Rattle.session_spec.specs.Searches.{bar_of_plan, bar_of_refusal, metric_of, rules_of}
use Rattle.session_spec.specs.States.{SessionState, State, first_kept}
use Rattle.session_spec.specs.Admission.{with_admission, with_wishes}
use Rattle.session_spec.specs.Due.{with_arms, with_frees, with_next}
use Rattle.session_spec.specs.Due as due
use Rattle.session_spec.specs.Opening.{opening_state, wished, with_agenda}
use Rattle.session_spec.specs.Tests.{barred, in_force, is_full, must_wait, taken_at_once, with_cost, with_node, with_nodes, with_plan_of, with_test, with_tests, with_waiting}
use Rattle.session_spec.specs.Turns.{with_entries, with_hart, with_quiet}
use Rattle.session_spec.specs.Verdicts.{with_search_end, with_verdicts}
use Rattle.session_spec.specs.Work.{final_state, first_state, is_due, state_admitted, state_armed, state_done, state_ended, state_handed, state_last, state_quiet, state_sampled, state_turned, state_worked, after_quantum, tests_now, after_quanta, after_quanta_from}
use Rattle.session_spec.proofs.Grown.{changed_here, changed_there, some_same}
use Rattle.session_spec.proofs.Leaving.{tests_alone}
use Rattle.session_spec.specs.Bars.{IsBarredBy, IsTurnOf, WasBarred, WasOffered}
use Rattle.session_spec.specs.Laws.{BarsTold}
use Rattle.session_spec.proofs.AdmittingSteps.{KeepsWish, all_kept, wishes_kept}
use Rattle.session_spec.proofs.Tried.{IsBack, back_finished, back_step, from_samples, is_old, is_tried, none_tried}

-- ---- what is barred in one list of nodes, and wasn't in another, was barred by B

abbrev IsNew : (ℕ → Node → BarCause → Type 0) → List Node → List Node → Type 0
IsNew B ns ms = (k : ℕ) (m : Node) (c : BarCause) → slice_get ms k ≡ Some m → m.state ≡ Barred c → (slice_get ns k ≡ Some m) ⊎ B k m c

-- all that are barred were barred by B
abbrev AllBy : (ℕ → Node → BarCause → Type 0) → List Node → Type 0
AllBy B ns = (k : ℕ) (m : Node) (c : BarCause) → slice_get ns k ≡ Some m → m.state ≡ Barred c → B k m c

all_by : (B : ℕ → Node → BarCause → Type 0) (ns ms : List Node) → AllBy B ns → IsNew B ns ms → AllBy B ms
all_by B ns ms a n k m c e s = ⊎_elim (λ z. a k m c z s) (λ z. z) (n k m c e s)

tried_bars : (c : BarCause) → is_tried (Barred c) ≡ true → ⊥
tried_bars c e = true≢false (sym e)

module _ (i : Inputs) where
  -- ---- one node's turn

  module _ (n : ℕ) (k : SessionState) where
    abbrev nodes : List Node
    nodes = k.search.nodes

    abbrev By : ℕ → Node → BarCause → Type 0
    By m node c = (m ≡ n) × IsBarredBy i k node c

    abbrev Turned : SessionState → Type 0
    Turned j = IsNew By nodes j.search.nodes

    as_was : Turned k
    as_was m node c e s = inl e

    -- the node of another state
    changed_to : (node : Node) (q : NodeState) → slice_get nodes n ≡ Some node → ((c : BarCause) → q ≡ Barred c → IsBarredBy i k (in_state q node) c) → IsNew By nodes (with_node_changed (in_state q) n nodes)
    changed_to node q stands f m y c e s = by (cases_eq m n)
      where
        by : (m ≡ n) ⊎ (m ≡ n → ⊥) → (slice_get nodes m ≡ Some y) ⊎ By m y c
        by (inl z) =
            let same : in_state q node ≡ y = some_same (in_state q node) y (sym (changed_here (in_state q) nodes n node stands) ∙ (ap (slice_get (with_node_changed (in_state q) n nodes)) (sym z) ∙ e)) in
            inr (z, subst (λ (v : Node). IsBarredBy i k v c) same (f c (ap (λ (v : Node). v.state) same ∙ s)))
        by (inr z) = inl (sym (changed_there (in_state q) nodes n m z) ∙ e)

    metric_in : (q : NodeState) (node : Node) → metric_of i (in_state q node) ≡ metric_of i node
    unfolding metric_of
    metric_in q node = refl

    module _ (node : Node) (stands : slice_get nodes n ≡ Some node) where
      bars : (o : Option BarCause) → ((c : BarCause) → o ≡ Some c → (q : NodeState) → IsBarredBy i k (in_state q node) c) → Turned (barred o n k)
      bars None f = as_was
      bars (Some cause) f = changed_to node (Barred cause) stands (λ c e. f c (let z : cause ≡ c = cc in ap (λ (v : BarCause). Some v) z) (Barred cause))

      module _ (plan : Plan) (is : planned i (metric_of i node) node.focus ≡ Ok plan) where
        tests_it : must_wait (rules_of i).decl.cost (predicted plan) (in_force i k.machine.placer k.shown) ≡ false
            → (a : Result Placements Refused) → admission k.machine.placer plan (Some (rules_of i).decl.cost) ≡ a → Turned (with_test a i n node plan k)
        tests_it room (Err refused) e = bars (bar_of_refusal refused) (λ c f q. inr (record {
          plan = plan;
          planned = ap (λ (v : ℕ). planned i v node.focus) (metric_in q node) ∙ is;
          waits = room;
          refused = refused;
          refusal = e;
          cause = f;
        }))
        tests_it room (Ok placer) e = changed_to node Active stands (λ c z. absurd cc)

        costs_it : Turned (with_cost i n node plan k)
        costs_it =
            let a = admission k.machine.placer plan (Some (rules_of i).decl.cost) in
            cond_both (must_wait (rules_of i).decl.cost (predicted plan) (in_force i k.machine.placer k.shown)) k (with_test a i n node plan k) Turned (λ _. as_was) (λ room. tests_it room a refl)

      plans_it : (r : Result Plan PlanFault) → planned i (metric_of i node) node.focus ≡ r → Turned (with_plan_of r i n node k)
      plans_it (Err fault) e = bars (Some (bar_of_plan fault)) (λ c f q. inl (record { fault = fault; planned = ap (λ (v : ℕ). planned i v node.focus) (metric_in q node) ∙ e; cause = some_same (bar_of_plan fault) c f }))
      plans_it (Ok plan) e = costs_it plan e

    waits_it : (o : Option Node) → slice_get nodes n ≡ o → Turned (with_waiting o i n k)
    waits_it None e = as_was
    waits_it (Some node) e =
        cond_both (is_waiting node.state) (with_plan_of (planned i (metric_of i node) node.focus) i n node k) k Turned
        (λ _. plans_it node e (planned i (metric_of i node) node.focus) refl) (λ _. as_was)

    turned : Turned (with_node i n k)
    unfolding with_node
    turned = waits_it (slice_get nodes n) refl

  -- ---- all that the search takes

  with_nodes_on : (before : List ℕ) (n : ℕ) (k : SessionState) → is_full (with_nodes i before k).machine.placer ≡ false
      → with_nodes i (before ++ n ∷ []) k ≡ with_node i n (with_nodes i before k)
  with_nodes_on [] n k e = cond-false (is_full k.machine.placer) k (with_node i n k) e
  with_nodes_on (b ∷ bs) n k e = by (is_full k.machine.placer) refl (with_nodes_on bs n (with_node i b k))
    where
      by : (f : Bool) → is_full k.machine.placer ≡ f
          → (is_full (with_nodes i bs (with_node i b k)).machine.placer ≡ false → with_nodes i (bs ++ n ∷ []) (with_node i b k) ≡ with_node i n (with_nodes i bs (with_node i b k)))
          → with_nodes i ((b ∷ bs) ++ n ∷ []) k ≡ with_node i n (with_nodes i (b ∷ bs) k)
      by true f again = absurd (true≢false (sym f ∙ (sym (ap (λ (j : SessionState). is_full j.machine.placer) (cond-true (is_full k.machine.placer) k (with_nodes i bs (with_node i b k)) f)) ∙ e)))
      by false f again =
          let one = cond-false (is_full k.machine.placer) k (with_nodes i bs (with_node i b k)) f in
          cond-false (is_full k.machine.placer) k (with_nodes i (bs ++ n ∷ []) (with_node i b k)) f
          ∙ (again (ap (λ (j : SessionState). is_full j.machine.placer) (sym one) ∙ e) ∙ ap (with_node i n) (sym one))

  module _ (k : SessionState) where
    abbrev ts : List ℕ
    ts = take taken_at_once (waiting_of k.search.nodes)

    -- its turn came, and it was barred then
    abbrev InTurn : ℕ → Node → BarCause → Type 0
    InTurn n node c = (j : SessionState) × IsTurnOf i k j n × IsBarredBy i j node c

    all_turns : nat_lt (rules_of i).decl.observed k.observed ≡ false → (ls before : List ℕ) (j : SessionState) → ts ≡ before ++ ls → j ≡ with_nodes i before k
        → IsNew InTurn k.search.nodes j.search.nodes → IsNew InTurn k.search.nodes (with_nodes i ls j).search.nodes
    all_turns low [] before j e f h = h
    all_turns low (l ∷ ls) before j e f h =
        let next = with_node i l j in
        cond_both (is_full j.machine.placer) j (with_nodes i ls next) (λ (x : SessionState). IsNew InTurn k.search.nodes x.search.nodes) (λ _. h)
        (λ q.
        let turn : IsTurnOf i k j l = record { observed = low; before = before; behind = ls; taken = e; is = f; room = q } in
        let room : is_full (with_nodes i before k).machine.placer ≡ false = ap (λ (x : SessionState). is_full x.machine.placer) (sym f) ∙ q in
        all_turns low ls (before ++ l ∷ []) next (e ∙ sym (append_assoc before (l ∷ []) ls)) (ap (with_node i l) f ∙ sym (with_nodes_on before l k room))
        (λ m y c g s.
        ⊎_elim (λ z. h m y c z s) (λ (b : (m ≡ l) × IsBarredBy i j y c). inr (j, subst (IsTurnOf i k j) (sym b.0) turn, b.1)) (turned l j m y c g s)))

    tests_turns : IsNew InTurn k.search.nodes (with_tests i k).search.nodes
    unfolding with_tests
    tests_turns =
        cond_both (nat_lt (rules_of i).decl.observed k.observed) k (with_nodes i ts k) (λ (x : SessionState). IsNew InTurn k.search.nodes x.search.nodes)
        (λ _ m y c e s. inl e) (λ low. all_turns low ts [] k refl refl (λ m y c e s. inl e))

  -- wishes leave the search as it is
  same_wish : (v : SearchData) → KeepsWish i (λ (j : SessionState). j.search ≡ v)
  same_wish v = record { beside = λ k j b e. b.search ∙ e; drops = λ k n e. e; wished = λ k plan w placer is a e. e }

  -- its turn came at an admission, and it was barred then
  abbrev AtAdmission : SessionState → ℕ → Node → BarCause → Type 0
  AtAdmission k n node c = (k.worked ≡ true) × InTurn (with_wishes i k.wishes k) n node c

  admission_turns : (k : SessionState) → IsNew (AtAdmission k) k.search.nodes (with_admission i k).search.nodes
  unfolding with_admission
  admission_turns k =
      let o = with_wishes i k.wishes k in
      let same : o.search ≡ k.search = wishes_kept i (λ (j : SessionState). j.search ≡ k.search) (same_wish k.search) k.wishes k refl in
      let new = subst (λ (v : SearchData). IsNew (InTurn o) v.nodes (with_tests i o).search.nodes) same (tests_turns o) in
      cond_both k.worked (record (with_tests i o) { worked = false }) k (λ (x : SessionState). IsNew (AtAdmission k) k.search.nodes x.search.nodes)
      (λ worked m y c e s. ⊎_elim (λ z. inl z) (λ t. inr (worked, t)) (new m y c e s)) (λ _ m y c e s. inl e)

  -- ---- what bars no node

  record IsKept (ns ms : List Node) : Type 0 where
    back : (k : ℕ) (m : Node) (c : BarCause) → slice_get ms k ≡ Some m → m.state ≡ Barred c → slice_get ns k ≡ Some m

  kept_none : (ns : List Node) → IsKept ns ns
  kept_none ns = record { back = λ k m c e s. e }

  kept_on : (ns ms os : List Node) → IsKept ns ms → IsKept ms os → IsKept ns os
  kept_on ns ms os a b = record { back = λ k m c e s. a.back k m c (b.back k m c e s) s }

  kept_back : (ns ms : List Node) → IsBack ns ms → IsKept ns ms
  kept_back ns ms b = record { back = λ k m c e s. b.back k m e (ap is_old s) }

  kept_same : (v w : SearchData) → w ≡ v → IsKept v.nodes w.nodes
  kept_same v w e = subst (λ (x : SearchData). IsKept v.nodes x.nodes) (sym e) (kept_none v.nodes)

  kept_samples : (t : ℕ) (samples : List NodeSample) (v : SearchData) → IsKept v.nodes (with_all_samples t samples v).nodes
  kept_samples t samples v = record {
    back = λ k m c e s.
        let f = from_samples v.rules.hypotheses v.rules.decl.window t samples v.nodes k m e in
        ⊎_elim (λ (z : m ≡ f.0). f.1 ∙ ap (λ (y : Node). Some y) (sym z)) (λ (z : ((f.0).state ≡ Active) × (is_tried m.state ≡ true)). absurd (tried_bars c (ap is_tried (sym s) ∙ z.1))) f.2;
  }

  kept_verdicts : (samples : List NodeSample) (a : SessionState) → IsKept a.search.nodes (with_verdicts samples a).search.nodes
  unfolding with_verdicts search_step
  kept_verdicts samples a =
      let v = search_step a.time samples a.search in
      let first = with_all_samples a.time samples a.search in
      subst (λ (x : SessionState). IsKept a.search.nodes x.search.nodes) (sym (tests_alone v.drops (record a { search = v })))
      (kept_on a.search.nodes first.nodes v.nodes (kept_samples a.time samples a.search) (kept_back first.nodes v.nodes (back_step a.time first)))

  armed_search : (s : State) → (state_armed (state_sampled i s)).kept.search ≡ s.kept.search
  unfolding with_arms with_frees due.with_samples
  armed_search s = refl

  sampled_search : (s : State) → (state_sampled i s).kept.search ≡ s.kept.search
  unfolding due.with_samples
  sampled_search s = refl

  next_search : (width : ℕ) (k : SessionState) → (with_next width k).search ≡ k.search
  unfolding with_next
  next_search width k = refl

  quiet_search : (s : State) → (state_quiet s).kept.search ≡ s.kept.search
  unfolding with_quiet
  quiet_search s = refl

  begun_search : (h n : ℕ) (s : State) → (state_handed (state_turned h n s)).kept.search ≡ s.kept.search
  unfolding with_hart with_entries
  begun_search h n s = refl

  kept_done : (s : State) → IsKept s.kept.search.nodes (state_done i s).kept.search.nodes
  kept_done s =
      let a = (state_armed (state_sampled i s)).kept in
      let v = with_verdicts (tests_now i s) a in
      kept_on s.kept.search.nodes a.search.nodes (state_done i s).kept.search.nodes (kept_same s.kept.search a.search (armed_search s))
      (kept_on a.search.nodes v.search.nodes (state_done i s).kept.search.nodes (kept_verdicts (tests_now i s) a) (kept_same v.search (with_next i.settings.width v).search (next_search i.settings.width v)))

  kept_last : (s : State) → IsKept s.kept.search.nodes (state_last i s).kept.search.nodes
  kept_last s =
      let a = (state_sampled i s).kept in
      kept_on s.kept.search.nodes a.search.nodes (state_last i s).kept.search.nodes (kept_same s.kept.search a.search (sampled_search s)) (kept_verdicts (tests_now i s) a)

  kept_worked : (s : State) → IsKept s.kept.search.nodes (state_worked i s).kept.search.nodes
  kept_worked s =
      let q = state_quiet s in
      cond_both (is_due s.kept) (state_done i q) s (λ (x : State). IsKept s.kept.search.nodes x.kept.search.nodes)
      (λ _. kept_on s.kept.search.nodes q.kept.search.nodes (state_done i q).kept.search.nodes (kept_same s.kept.search q.kept.search (quiet_search s)) (kept_done q)) (λ _. kept_none s.kept.search.nodes)

  -- a quantum after its admission
  kept_tend : (h n : ℕ) (s : State) → IsKept (state_admitted i s).kept.search.nodes (after_quantum i h n s).kept.search.nodes
  unfolding after_quantum
  kept_tend h n s =
      let a = state_admitted i s in
      let b = state_handed (state_turned h n a) in
      kept_on a.kept.search.nodes b.kept.search.nodes (state_worked i b).kept.search.nodes (kept_same a.kept.search b.kept.search (begun_search h n a)) (kept_worked b)

  ended_kept : (s : State) → IsKept s.kept.search.nodes (state_ended s).kept.search.nodes
  unfolding with_search_end
  ended_kept s = kept_back s.kept.search.nodes _ (back_finished s.kept.search.nodes)

  kept_closed : (s : State) → IsKept s.kept.search.nodes (final_state i s).kept.search.nodes
  unfolding final_state
  kept_closed s =
      let q = state_quiet s in
      let quiet = kept_same s.kept.search q.kept.search (quiet_search s) in
      cond_both (nat_lt q.kept.last q.kept.time) (state_last i q) q (λ (x : State). IsKept s.kept.search.nodes (state_ended x).kept.search.nodes)
      (λ _. kept_on s.kept.search.nodes (state_last i q).kept.search.nodes (state_ended (state_last i q)).kept.search.nodes
      (kept_on s.kept.search.nodes q.kept.search.nodes (state_last i q).kept.search.nodes quiet (kept_last q)) (ended_kept (state_last i q)))
      (λ _. kept_on s.kept.search.nodes q.kept.search.nodes (state_ended q).kept.search.nodes quiet (ended_kept q))

  -- ---- all quanta

  kept_by : (B : ℕ → Node → BarCause → Type 0) (ns ms : List Node) → IsKept ns ms → AllBy B ns → AllBy B ms
  kept_by B ns ms b a k m c e s = a k m c (b.back k m c e s) s

  abbrev Was : List Quantum → ℕ → Node → BarCause → Type 0
  Was quanta n node c = WasBarred i quanta n node c

  offered_on : (first rest : List Quantum) (k : SessionState) → WasOffered i first k → WasOffered i (first ++ rest) k
  offered_on first rest k (inl e) = inl e
  offered_on first rest k (inr o) =
      inr (o.0, o.1, o.2 ++ rest, ap (λ (qs : List Quantum). qs ++ rest) o.3 ∙ append_assoc o.0 (o.1 ∷ o.2) rest, o.4, o.5)

  was_on : (first rest : List Quantum) (n : ℕ) (node : Node) (c : BarCause) → Was first n node c → Was (first ++ rest) n node c
  was_on first rest n node c w = record { offer = w.offer; offered = offered_on first rest w.offer w.offered; now = w.now; turn = w.turn; cause = w.cause }

  was_turned : (quanta : List Quantum) (k : SessionState) → WasOffered i quanta k → (n : ℕ) (node : Node) (c : BarCause) → InTurn k n node c → Was quanta n node c
  was_turned quanta k o n node c t = record { offer = k; offered = o; now = t.0; turn = t.1; cause = t.2 }

  bars_tend : (first : List Quantum) (q : Quantum) (s : State) → s ≡ after_quanta i first → AllBy (Was first) s.kept.search.nodes → AllBy (Was (first ++ q ∷ [])) (after_quantum i q.hart q.turns s).kept.search.nodes
  bars_tend first q s e h =
      let now = first ++ q ∷ [] in
      let o = with_wishes i s.kept.wishes s.kept in
      let offered : s.kept.worked ≡ true → WasOffered i now o =
      λ worked. inr (first, q, [], refl, ap (λ (x : State). x.kept.worked) (sym e) ∙ worked, ap (λ (x : State). with_wishes i x.kept.wishes x.kept) e) in
      let before : AllBy (Was now) s.kept.search.nodes = λ n node c g f. was_on first (q ∷ []) n node c (h n node c g f) in
      let admitted : AllBy (Was now) (with_admission i s.kept).search.nodes =
      all_by (Was now) s.kept.search.nodes (with_admission i s.kept).search.nodes before
      (λ n node c g f. ⊎_elim (λ z. inl z) (λ (t : AtAdmission s.kept n node c). inr (was_turned now o (offered t.0) n node c t.1)) (admission_turns s.kept n node c g f)) in
      kept_by (Was now) (state_admitted i s).kept.search.nodes (after_quantum i q.hart q.turns s).kept.search.nodes (kept_tend q.hart q.turns s) admitted

  work_on : (first rest : List Quantum) (s : State) → after_quanta_from i (first ++ rest) s ≡ after_quanta_from i rest (after_quanta_from i first s)
  work_on [] rest s = refl
  work_on (a ∷ first) rest s = work_on first rest (after_quantum i a.hart a.turns s)

  work_next : (first : List Quantum) (q : Quantum) (s : State) → s ≡ after_quanta i first → after_quantum i q.hart q.turns s ≡ after_quanta i (first ++ q ∷ [])
  unfolding after_quanta
  work_next first q s e = ap (after_quantum i q.hart q.turns) e ∙ sym (work_on first (q ∷ []) (first_state i))

  bars_from : (rest first : List Quantum) (s : State) → s ≡ after_quanta i first → AllBy (Was first) s.kept.search.nodes → AllBy (Was (first ++ rest)) (after_quanta_from i rest s).kept.search.nodes
  bars_from [] first s e h = λ n node c g f. was_on first [] n node c (h n node c g f)
  bars_from (q ∷ rest) first s e h =
      subst (λ (qs : List Quantum). AllBy (Was qs) (after_quanta_from i (q ∷ rest) s).kept.search.nodes) (append_assoc first (q ∷ []) rest)
      (bars_from rest (first ++ q ∷ []) (after_quantum i q.hart q.turns s) (work_next first q s e) (bars_tend first q s e h))

  opened_search : (opening_state i).search ≡ (with_tests i (wished i)).search
  unfolding with_arms with_agenda
  opened_search = refl

  wished_search : (wished i).search ≡ (first_kept i).search
  unfolding wished
  wished_search = all_kept i (λ (j : SessionState). j.search ≡ (first_kept i).search) (same_wish (first_kept i).search) (first_wishes i) (first_kept i) refl

  bars_first : AllBy (Was []) (first_state i).kept.search.nodes
  bars_first =
      let start : IsKept [] (first_kept i).search.nodes = kept_back [] (first_kept i).search.nodes (none_tried (rules_of i)) in
      let w : IsKept [] (wished i).search.nodes = subst (λ (v : SearchData). IsKept [] v.nodes) (sym wished_search) start in
      let t : AllBy (Was []) (with_tests i (wished i)).search.nodes =
      all_by (Was []) (wished i).search.nodes (with_tests i (wished i)).search.nodes (kept_by (Was []) [] (wished i).search.nodes w (λ k m c e s. absurd cc))
      (λ n node c g f. ⊎_elim (λ z. inl z) (λ t. inr (was_turned [] (wished i) (inl refl) n node c t)) (tests_turns (wished i) n node c g f)) in
      subst (λ (v : SearchData). AllBy (Was []) v.nodes) (sym opened_search) t

  pub bars_work : (quanta : List Quantum) → AllBy (Was quanta) (after_quanta i quanta).kept.search.nodes
  unfolding after_quanta
  bars_work quanta = bars_from quanta [] (first_state i) refl bars_first

  pub bars_closed : (quanta : List Quantum) → AllBy (Was quanta) (final_state i (after_quanta i quanta)).kept.search.nodes
  bars_closed quanta = kept_by (Was quanta) (after_quanta i quanta).kept.search.nodes (final_state i (after_quanta i quanta)).kept.search.nodes (kept_closed (after_quanta i quanta)) (bars_work quanta)

pub bars_told : BarsTold
bars_told = record { works = λ i quanta. bars_work i quanta; closes = λ i quanta. bars_closed i quanta }
