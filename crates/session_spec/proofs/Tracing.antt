-- Each node that is or was under test has the instrument that tests it, or did, through each quantum. So each verdict has its own.
use Rattle.std.proofs.Common.{◌≡◌, ℕ, zero, suc, ◌^◌, ◌<◌, ◌≤◌, true, false, Some, List, [], ◌∷◌, ◌++◌, length, map, refl, sym, ap, subst, ◌∙◌, arith, inl, inr, ◌⊎◌, ⊎_elim}
use Rattle.std.specs.Prelude.{Bool, cond, nat_lt, slice_get}
use Rattle.std.proofs.lemmas.Bool.{true≢false, cond_both, cases_eq}
use Rattle.std.proofs.lemmas.List.{length_push}
use Rattle.fold_hist.specs.declared.bin.Bin.{Bin}
use Rattle.pn_types.specs.declared.quantum.Quantum.{Quantum}
use Rattle.pn_types.specs.declared.plan.Plan.{Plan}
use Rattle.instrument.specs.Placements.{Placements}
use Rattle.instrument.specs.Scenes.{Sweeps}
use Rattle.instrumented.specs.Instrumented.{repeated}
use Rattle.w3_search.specs.declared.node.Node.{Node}
use Rattle.w3_search.specs.declared.node.NodeSample.{NodeSample}
use Rattle.w3_search.specs.declared.node.NodeState.{NodeState}
use Rattle.w3_search.specs.declared.node.NodeState.TheVariants.{Active, Barred, Confirmed, Rejected, Waiting, Unfinished}
use Rattle.w3_search.specs.Nodes.{with_node_changed, in_state, is_waiting}
use Rattle.w3_search.specs.Steps.{SearchData, search_step, with_all_samples}
use Rattle.session_spec.specs.declared.data.MetricFocusPair.{MetricFocusPair}
use Rattle.session_spec.specs.Inputs.{Inputs, first_wishes}
use Rattle.session_spec.specs.Searches.{rules_of}
use Rattle.session_spec.specs.States.{SessionState, State, first_kept}
use Rattle.session_spec.specs.Admission.{with_admission, shown_next}
use Rattle.session_spec.specs.Turns.{with_entries, with_hart, with_quiet}
use Rattle.session_spec.specs.Due.{recorded_with, sampled_to, with_arms, with_frees, with_next}
use Rattle.session_spec.specs.Due as due
use Rattle.session_spec.specs.Opening.{opening_state, wished, with_agenda}
use Rattle.session_spec.specs.Tests.{tested, tests_next, with_tests}
use Rattle.session_spec.specs.Verdicts.{with_search_end, with_verdicts}
use Rattle.session_spec.specs.Work.{final_state, first_state, is_due, state_admitted, state_armed, state_done, state_ended, state_handed, state_last, state_quiet, state_sampled, state_turned, state_worked, after_quantum, tests_now, after_quanta, after_quanta_from}
use Rattle.w3_search.specs.Refining.{threshold_of}
use Rattle.w3_search.specs.Testing.{holds}
use Rattle.session_spec.proofs.Ends.{IsUnjudged}
use Rattle.session_spec.proofs.Grown.{changed_here, changed_there, some_same}
use Rattle.session_spec.proofs.Leaving.{tests_alone}
use Rattle.session_spec.proofs.Seen.{IsRuled, IsSeen, is_judged}
use Rattle.session_spec.proofs.Seeing.{metric_active, seen_keeps}
use Rattle.session_spec.proofs.Telling.{all_ended, all_judged, seen_done, seen_entries, seen_first, seen_hart, seen_last, seen_quiet, seen_start}
use Rattle.session_spec.specs.LastReadings.{handed_on}
use Rattle.session_spec.proofs.Timing.{time_before, time_closed, time_done, time_from}
use Rattle.session_spec.specs.Told.{IsTested}
use Rattle.session_spec.proofs.AdmittingSteps.{IsBeside, Keeps, admission_kept, all_kept, of_nodes, of_wishes, tests_kept}
use Rattle.session_spec.proofs.Keeping.{Tells, picked_telling, tell_agenda, tell_frees, tells_admitted, tells_closed, tells_done, tells_first, tells_handed, tells_last, tells_quiet, tells_sampled, tells_turned, tells_work}
use Rattle.session_spec.proofs.Testers.{AreTraced, HasTester, row, row_at, row_past, shown_last, tester_left, traced_armed, traced_back, traced_room, traced_sampled}
use Rattle.session_spec.proofs.Tried.{back_finished, back_step, is_tried, none_tried}

module _ (i : Inputs) where
  -- ---- an admission

  -- with what was recorded before it
  record IsTracing (owns : List ℕ) (rs : List (List Bin)) (k : SessionState) : Type 0 where
    seen : IsSeen i owns k
    few : length rs ≤ length k.shown
    traced : AreTraced i k.shown rs k.search.nodes

  module _ (owns : List ℕ) (rs : List (List Bin)) where
    abbrev P : SessionState → Type 0
    P k = IsTracing owns rs k

    trace_beside : (k j : SessionState) → IsBeside k j → P k → P j
    trace_beside k j b s = record {
      seen = (seen_keeps i owns).beside k j b s.seen;
      few = omega (arith, s.few, ap (λ (xs : List MetricFocusPair). length xs) b.shown);
      traced = subst (λ (v : SearchData). AreTraced i j.shown rs v.nodes) (sym b.search) (subst (λ (xs : List MetricFocusPair). AreTraced i xs rs k.search.nodes) (sym b.shown) s.traced);
    }

    -- a node that waits no more
    trace_state : (k : SessionState) (n : ℕ) (node : Node) (q : NodeState) → slice_get k.search.nodes n ≡ Some node → (xs : List MetricFocusPair) → AreTraced i xs rs k.search.nodes
        → (is_tried q ≡ true → HasTester i xs rs n (in_state q node)) → AreTraced i xs rs (with_node_changed (in_state q) n k.search.nodes)
    trace_state k n node q stands xs h new m y e tried = by (cases_eq m n)
      where
        by : (m ≡ n) ⊎ (m ≡ n → ⊥) → HasTester i xs rs m y
        by (inl z) =
            let same : in_state q node ≡ y = some_same (in_state q node) y (sym (changed_here (in_state q) k.search.nodes n node stands) ∙ (ap (slice_get (with_node_changed (in_state q) n k.search.nodes)) (sym z) ∙ e)) in
            let is : is_tried q ≡ true = ap (λ (v : Node). is_tried v.state) same ∙ tried in
            subst (λ (v : ℕ). HasTester i xs rs v y) (sym z) (subst (HasTester i xs rs n) same (new is))
        by (inr z) = h m y (sym (changed_there (in_state q) k.search.nodes n m z) ∙ e) tried

    left_all : (k : SessionState) (x : MetricFocusPair) → P k → AreTraced i (k.shown ++ x ∷ []) rs k.search.nodes
    left_all k x s n y e t = tester_left i k.shown (x ∷ []) rs n y (s.traced n y e t)

    more_few : (k : SessionState) (x : MetricFocusPair) → P k → length rs ≤ length (k.shown ++ x ∷ [])
    more_few k x s = let f = s.few in omega (arith, length_push k.shown x)

    trace_tested : (k : SessionState) (n : ℕ) (node : Node) (plan : Plan) → slice_get k.search.nodes n ≡ Some node → is_waiting node.state ≡ true → P k
        → AreTraced i (tested i n node plan k).shown rs (tested i n node plan k).search.nodes
    trace_tested k n node plan stands waits s =
        let x = tests_next i n node k in
        let xs = k.shown ++ x ∷ [] in
        let blank = (s.seen.nodes n node stands).blank waits in
        trace_state k n node Active stands xs (left_all k x s)
        (λ _. record {
          place = length k.shown;
          x = x;
          listed = shown_last k.shown x;
          node = refl;
          metric = sym (metric_active i node);
          focus = refl;
          seen = ap (λ (r : List Bin). length r) (row_past rs (length k.shown) s.few) ∙ sym blank.seen;
          judged = λ j. absurd (true≢false (sym j));
        })

    trace_keeps : Keeps i P
    trace_keeps = record {
      beside = trace_beside;
      drops = λ k n s. record { seen = (seen_keeps i owns).drops k n s.seen; few = s.few; traced = s.traced };
      wished = λ k plan w placer is e s. record { seen = (seen_keeps i owns).wished k plan w placer is e s.seen; few = more_few k (shown_next w k) s; traced = left_all k (shown_next w k) s };
      barred = λ k n node cause stands waits by s. record {
        seen = (seen_keeps i owns).barred k n node cause stands waits by s.seen;
        few = s.few;
        traced = trace_state k n node (Barred cause) stands k.shown s.traced (λ j. absurd (true≢false (sym j)));
      };
      tested = λ k n node plan placer stands waits is room e s. record {
        seen = (seen_keeps i owns).tested k n node plan placer stands waits is room e s.seen;
        few = more_few k (tests_next i n node k) s;
        traced = trace_tested k n node plan stands waits s;
      };
    }

  -- ---- the steps of a quantum

  -- what holds of a state
  pub record IsTraced (s : State) : Type 0 where
    pub seen : IsSeen i s.owns s.kept
    pub tells : Tells i s
    pub traced : AreTraced i s.kept.shown s.recorded s.kept.search.nodes

  traced_admitted : (s : State) → IsTraced s → IsTraced (state_admitted i s)
  traced_admitted s h =
      let few : length s.recorded ≤ length s.kept.shown = let m = h.tells.many in omega arith in
      let a = admission_kept i (IsTracing s.owns s.recorded) (trace_keeps s.owns s.recorded) s.kept (record { seen = h.seen; few = few; traced = h.traced }) in
      let k = with_admission i s.kept in
      record { seen = a.seen; tells = tells_admitted i s h.tells; traced = traced_room i k.shown s.recorded k.search.nodes a.traced }

  same_hart : (h n : ℕ) (k : SessionState) → ((with_hart h n k).shown ≡ k.shown) × ((with_hart h n k).search ≡ k.search)
  unfolding with_hart
  same_hart h n k = (refl, refl)

  same_quiet : (k : SessionState) → ((with_quiet k).shown ≡ k.shown) × ((with_quiet k).search ≡ k.search)
  unfolding with_quiet
  same_quiet k = (refl, refl)

  same_entries : (k : SessionState) → ((with_entries k).shown ≡ k.shown) × ((with_entries k).search ≡ k.search)
  unfolding with_entries
  same_entries k = (refl, refl)

  as_before : (k j : SessionState) (rs : List (List Bin)) → (j.shown ≡ k.shown) × (j.search ≡ k.search) → AreTraced i k.shown rs k.search.nodes → AreTraced i j.shown rs j.search.nodes
  as_before k j rs e h = subst (λ (v : SearchData). AreTraced i j.shown rs v.nodes) (sym e.1) (subst (λ (xs : List MetricFocusPair). AreTraced i xs rs k.search.nodes) (sym e.0) h)

  traced_turned : (h n : ℕ) (s : State) → IsTraced s → IsTraced (state_turned h n s)
  traced_turned h n s z = record {
    seen = seen_hart i s.owns h n s.kept z.seen;
    tells = tells_turned i h n s z.tells;
    traced = as_before s.kept (with_hart h n s.kept) s.recorded (same_hart h n s.kept) z.traced;
  }

  pub traced_quiet : (s : State) → IsTraced s → IsTraced (state_quiet s)
  traced_quiet s z = record {
    seen = seen_quiet i s.owns s.kept z.seen;
    tells = tells_quiet i s z.tells;
    traced = as_before s.kept (with_quiet s.kept) s.recorded (same_quiet s.kept) z.traced;
  }

  traced_handed : (s : State) → IsTraced s → IsTraced (state_handed s)
  traced_handed s z = record {
    seen = seen_entries i s.owns s.kept z.seen;
    tells = tells_handed i s z.tells;
    traced = as_before s.kept (with_entries s.kept) s.recorded (same_entries s.kept) z.traced;
  }

  -- ---- a due work

  module _ (some : 1 ≤ (rules_of i).decl.window) (s : State) (low : s.kept.time < 2 ^ 64) (z : IsTraced s) where
    abbrev k : SessionState
    k = s.kept

    abbrev p : Placements
    p = k.machine.placer

    abbrev samples : List NodeSample
    samples = tests_now i s

    abbrev xs1 : List MetricFocusPair
    xs1 = map (sampled_to p k.time) k.shown

    abbrev rs1 : List (List Bin)
    rs1 = recorded_with i p s.owns k.time k.shown s.recorded

    abbrev first : SearchData
    first = with_all_samples k.time samples k.search

    traced_first : AreTraced i xs1 rs1 first.nodes
    traced_first = traced_sampled i s.owns p k.time z.seen.time low k.search.rules.hypotheses k.search.rules.decl.window k.shown s.recorded k.search.nodes z.tells.many z.seen.alone z.seen.tests z.traced

    -- after the step of the search
    traced_judged : (a : SessionState) (rs : List (List Bin)) → a.time ≡ k.time → a.search ≡ k.search → AreTraced i a.shown rs first.nodes
        → AreTraced i (with_verdicts samples a).shown rs (with_verdicts samples a).search.nodes
    unfolding with_verdicts search_step
    traced_judged a rs t e h =
        let v = search_step a.time samples a.search in
        let same : v ≡ search_step k.time samples k.search = ap (λ (t : ℕ). search_step t samples a.search) t ∙ ap (search_step k.time samples) e in
        let w : SessionState = record a { search = v } in
        let b = traced_back i a.shown rs first.nodes (search_step k.time samples k.search).nodes (back_step k.time first) h in
        subst (λ (x : SessionState). AreTraced i x.shown rs x.search.nodes) (sym (tests_alone v.drops w)) (subst (λ (x : SearchData). AreTraced i a.shown rs x.nodes) (sym same) b)

    traced_arms : AreTraced i (state_armed (state_sampled i s)).kept.shown rs1 first.nodes
    unfolding with_arms with_frees due.with_samples
    traced_arms =
        let f = tell_frees i s.owns rs1 (state_sampled i s).kept (tells_sampled i s z.tells).kept in
        let m = repeated (length p.book.agenda) Sweeps k.machine in
        traced_armed i s.owns k.time z.seen.time xs1 rs1 first.nodes m f.roster f.apart f.pairs traced_first

    same_time : ((state_armed (state_sampled i s)).kept.time ≡ k.time) × ((state_armed (state_sampled i s)).kept.search ≡ k.search)
    unfolding with_arms with_frees due.with_samples
    same_time = (refl, refl)

    same_last : ((state_sampled i s).kept.time ≡ k.time) × ((state_sampled i s).kept.search ≡ k.search) × ((state_sampled i s).kept.shown ≡ xs1)
    unfolding due.with_samples
    same_last = (refl, refl, refl)

    traced_next : (width : ℕ) (a : SessionState) (rs : List (List Bin)) → AreTraced i a.shown rs a.search.nodes → AreTraced i (with_next width a).shown rs (with_next width a).search.nodes
    unfolding with_next
    traced_next width a rs h = h

    traced_done : IsTraced (state_done i s)
    traced_done =
        let a = (state_armed (state_sampled i s)).kept in
        record {
          seen = seen_done i some s low z.seen;
          tells = tells_done i s z.tells;
          traced = traced_next i.settings.width (with_verdicts samples a) rs1 (traced_judged a rs1 same_time.0 same_time.1 traced_arms);
        }

    traced_last : IsTraced (state_last i s)
    traced_last =
        let a = (state_sampled i s).kept in
        record {
          seen = seen_last i some s low z.seen;
          tells = tells_last i s z.tells;
          traced = traced_judged a rs1 same_last.0 same_last.1 (subst (λ (xs : List MetricFocusPair). AreTraced i xs rs1 first.nodes) (sym same_last.2) traced_first);
        }

  module _ (some : 1 ≤ (rules_of i).decl.window) where
    traced_worked : (s : State) → (state_worked i s).kept.time < 2 ^ 64 → IsTraced s → IsTraced (state_worked i s)
    traced_worked s low z =
        let q = state_quiet s in
        cond_both (is_due s.kept) (state_done i q) s (λ (x : State). x.kept.time < 2 ^ 64 → IsTraced x)
        (λ _ l. traced_done some q (omega (arith, l, time_done i q)) (traced_quiet s z)) (λ _ l. z) low

    pub traced_tend : (h n : ℕ) (s : State) → (after_quantum i h n s).kept.time < 2 ^ 64 → IsTraced s → IsTraced (after_quantum i h n s)
    unfolding after_quantum
    traced_tend h n s low z = traced_worked (handed_on i h n s) low (traced_handed (state_turned h n (state_admitted i s)) (traced_turned h n (state_admitted i s) (traced_admitted s z)))

    -- ---- all quanta

    -- nothing is under test before any wish
    start_tracing : IsTracing [] [] (first_kept i)
    start_tracing = record {
      seen = seen_start i some;
      few = omega arith;
      traced = traced_back i [] [] [] (first_kept i).search.nodes (none_tried (rules_of i)) (λ k n e t. absurd cc);
    }

    picked_tracing : IsTracing [] [] (with_tests i (wished i))
    unfolding wished
    picked_tracing = tests_kept i (IsTracing [] []) (of_nodes i (IsTracing [] []) (trace_keeps [] [])) (wished i) (all_kept i (IsTracing [] []) (of_wishes i (IsTracing [] []) (trace_keeps [] [])) (first_wishes i) (first_kept i) start_tracing)

    opened_traced : AreTraced i (opening_state i).shown [] (opening_state i).search.nodes
    unfolding with_arms with_agenda
    opened_traced =
        let k = with_tests i (wished i) in
        let a = tell_agenda i [] [] k (picked_telling i) in
        traced_armed i [] k.time a.time k.shown [] k.search.nodes (with_agenda k).machine a.roster a.apart a.pairs picked_tracing.traced

    row_blanks : (xs : List MetricFocusPair) (k : ℕ) → row (map (λ (s : MetricFocusPair). []) xs) k ≡ []
    row_blanks [] k = refl
    row_blanks (x ∷ xs) zero = refl
    row_blanks (x ∷ xs) (suc k) = row_blanks xs k

    blanks_traced : (xs : List MetricFocusPair) (ns : List Node) → AreTraced i xs [] ns → AreTraced i xs (map (λ (s : MetricFocusPair). []) xs) ns
    blanks_traced xs ns h k n e t =
        let o = h k n e t in
        record {
          place = o.place;
          x = o.x;
          listed = o.listed;
          node = o.node;
          metric = o.metric;
          focus = o.focus;
          seen = ap (λ (r : List Bin). length r) (row_blanks xs o.place) ∙ o.seen;
          judged = o.judged;
        }

    traced_first_state : IsTraced (first_state i)
    traced_first_state = record { seen = seen_first i some; tells = tells_first i; traced = blanks_traced (opening_state i).shown (opening_state i).search.nodes opened_traced }

    traced_from : (quanta : List Quantum) (s : State) → (after_quanta_from i quanta s).kept.time < 2 ^ 64 → IsTraced s → IsTraced (after_quanta_from i quanta s)
    traced_from [] s low z = z
    traced_from (q ∷ quanta) s low z =
        let t = after_quantum i q.hart q.turns s in
        traced_from quanta t low (traced_tend q.hart q.turns s (omega (arith, low, time_from i quanta t)) z)

    pub traced_work : (quanta : List Quantum) → (after_quanta i quanta).kept.time < 2 ^ 64 → IsTraced (after_quanta i quanta)
    unfolding after_quanta
    traced_work quanta low = traced_from quanta (first_state i) low traced_first_state

    -- ---- the end

    ended_traced : (s : State) → IsTraced s → AreTraced i (state_ended s).kept.shown s.recorded (state_ended s).kept.search.nodes
    unfolding with_search_end
    ended_traced s z = traced_back i s.kept.shown s.recorded s.kept.search.nodes _ (back_finished s.kept.search.nodes) z.traced

    pub closed_traced : (s : State) → (final_state i s).kept.time < 2 ^ 64 → IsTraced s → AreTraced i (final_state i s).kept.shown (final_state i s).recorded (final_state i s).kept.search.nodes
    unfolding final_state
    closed_traced s low z =
        let q = state_quiet s in
        let quiet = traced_quiet s z in
        let l : q.kept.time < 2 ^ 64 = omega (arith, low, time_closed i s) in
        cond_both (nat_lt q.kept.last q.kept.time) (state_last i q) q (λ (x : State). AreTraced i (state_ended x).kept.shown x.recorded (state_ended x).kept.search.nodes)
        (λ _. ended_traced (state_last i q) (traced_last some q l quiet)) (λ _. ended_traced q quiet)

  -- ---- what is told

  judged_tried : (n : Node) → is_judged n.state ≡ true → is_tried n.state ≡ true
  judged_tried n j = by n.state j
    where
      by : (q : NodeState) → is_judged q ≡ true → is_tried q ≡ true
      by Confirmed e = refl
      by Rejected e = refl
      by Waiting e = absurd (true≢false (sym e))
      by Active e = absurd (true≢false (sym e))
      by (Barred cause) e = absurd (true≢false (sym e))
      by (Unfinished k) e = absurd (true≢false (sym e))

  is_tested : (s : State) → length s.recorded ≡ length s.kept.shown → AreTraced i s.kept.shown s.recorded s.kept.search.nodes
      → (k : ℕ) (n : Node) → slice_get s.kept.search.nodes k ≡ Some n → is_judged n.state ≡ true → n.seen ≡ (rules_of i).decl.window → IsTested i s k n
  is_tested s many h k n e j w =
      let o = h k n e (judged_tried n j) in
      let z = o.judged j in
      record {
        place = o.place;
        x = o.x;
        samples = row s.recorded o.place;
        listed = o.listed;
        recorded = row_at s.kept.shown s.recorded o.place o.x many o.listed;
        node = o.node;
        metric = o.metric;
        focus = o.focus;
        armed = z.0;
        sampled = z.1;
        window = o.seen ∙ w;
      }

  has_verdict : (n : Node) → (n.state ≡ Confirmed) ⊎ (n.state ≡ Rejected) → is_judged n.state ≡ true
  has_verdict n (inl c) = ap is_judged c
  has_verdict n (inr c) = ap is_judged c

  -- it has its verdict, by the samples of its own instrument
  abbrev pub IsTraceable : State → ℕ → Node → Type 0
  IsTraceable s k n = IsRuled i s.owns n × IsTested i s k n

  pub judged_told : (some : 1 ≤ (rules_of i).decl.window) (quanta : List Quantum) → (after_quanta i quanta).kept.time < 2 ^ 64
      → (k : ℕ) (n : Node) → slice_get (after_quanta i quanta).kept.search.nodes k ≡ Some n → (n.state ≡ Confirmed) ⊎ (n.state ≡ Rejected) → IsTraceable (after_quanta i quanta) k n
  judged_told some quanta low k n e c =
      let z = traced_work some quanta low in
      let v = all_judged i some quanta low k n e (has_verdict n c) in
      (v, is_tested (after_quanta i quanta) z.tells.many z.traced k n e (has_verdict n c) v.window)

  pub ended_told : (some : 1 ≤ (rules_of i).decl.window) (quanta : List Quantum) → (final_state i (after_quanta i quanta)).kept.time < 2 ^ 64
      → (k : ℕ) (n : Node) → slice_get (final_state i (after_quanta i quanta)).kept.search.nodes k ≡ Some n → IsTraceable (final_state i (after_quanta i quanta)) k n ⊎ IsUnjudged i n
  ended_told some quanta low k n e =
      let s = after_quanta i quanta in
      let c = final_state i s in
      let h = closed_traced some s low (traced_work some quanta (omega (arith, low, time_before i s))) in
      let many = (tells_closed i s (tells_work i quanta)).many in
      ⊎_elim
      (λ (v : IsRuled i c.owns n). inl (v, is_tested c many h k n e (verdict_judged n v) v.window))
      (λ (v : IsUnjudged i n). inr v) (all_ended i some quanta low k n e)
    where
      ruled : (b : Bool) → is_judged (cond b Confirmed Rejected) ≡ true
      ruled true = refl
      ruled false = refl

      verdict_judged : (n : Node) → IsRuled i (final_state i (after_quanta i quanta)).owns n → is_judged n.state ≡ true
      verdict_judged n v = ap is_judged v.verdict ∙ ruled (holds n.value n.ticks (threshold_of (rules_of i).hypotheses n.hypothesis))
