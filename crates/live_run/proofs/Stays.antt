-- A hart that is halted after some quanta is halted after all that follow.
use Rattle.std.proofs.Common.{ℕ, List, [], ◌∷◌, ◌++◌, Option, Some, None, ap, ◌∙◌, inl, inr, length, length-append, arith}
use Rattle.std.proofs.lemmas.Bool.{cond_both}
use Rattle.pn_types.specs.declared.quantum.Quantum.{Quantum}
use Rattle.machine.specs.Turns.{is_runnable}
use Rattle.instrument.specs.Scenes.{Admits, Arms, Drops}
use Rattle.instrumented.specs.Instrumented.{Instrumented, after_act}
use Rattle.instrumented.proofs.Acts.{done_is}
use Rattle.w3_search.specs.declared.node.NodeSample.{NodeSample}
use Rattle.w3_search.specs.Steps.{search_step}
use Rattle.session_spec.specs.declared.data.MetricFocusPair.{MetricFocusPair}
use Rattle.session_spec.specs.Inputs.{Inputs}
use Rattle.session_spec.specs.Searches.{rules_of}
use Rattle.session_spec.specs.States.{SessionState, State}
use Rattle.session_spec.specs.Turns.{handed_at_once, with_entries, with_hart, with_quiet}
use Rattle.session_spec.specs.Due.{arm_all, is_ready, machine_armed, with_arms, with_frees, with_next, with_samples}
use Rattle.session_spec.specs.Admission.{with_admission}
use Rattle.session_spec.specs.Verdicts.{tester_of, with_verdicts, without_tester, without_tests}
use Rattle.session_spec.specs.Work.{Halted, first_state, is_due, state_admitted, state_done, state_handed, state_quiet, state_turned, state_worked, after_quantum, tests_now, after_quanta, after_quanta_from}
use Rattle.session_spec.proofs.AdmittingSteps.{Keeps, admission_kept}
use Rattle.live_run.proofs.Stopping.{IsStopped, arms_same, hands_all_same, quantum_taken, settling_taken, sweeps_all_same}

module _ (i : Inputs) (h : ℕ) where
  abbrev Stops : SessionState → Type 0
  Stops k = IsStopped h k.machine.core

  -- ---- an admission

  drops_stops : (n : ℕ) (m : Instrumented) → IsStopped h m.core → IsStopped h (after_act (Drops n) m).core
  drops_stops n m e = ap (λ (d : Instrumented). is_runnable d.core h) (done_is (Drops n) m) ∙ e

  stops_keeps : Keeps i Stops
  stops_keeps = record {
    beside = λ k j b e. ap (λ (m : Instrumented). is_runnable m.core h) b.machine ∙ e;
    drops = λ k n e. drops_stops n k.machine e;
    wished = λ k plan w placer is a e. ap (λ (m : Instrumented). is_runnable m.core h) (done_is (Admits plan None) k.machine) ∙ e;
    barred = λ k n node cause s w by e. e;
    tested = λ k n node plan placer s w p m a e. ap (λ (d : Instrumented). is_runnable d.core h) (done_is (Admits plan (Some (rules_of i).decl.cost)) k.machine) ∙ e;
  }

  admission_stops : (k : SessionState) → Stops k → Stops (with_admission i k)
  admission_stops k e = admission_kept i Stops stops_keeps k e

  -- ---- a quantum

  hart_stops : (g n : ℕ) (k : SessionState) → Stops k → Stops (with_hart g n k)
  unfolding with_hart
  hart_stops g n k e = quantum_taken h n g k.machine e

  entries_stops : (k : SessionState) → Stops k → Stops (with_entries k)
  unfolding with_entries
  entries_stops k e = hands_all_same h handed_at_once k.machine ∙ e

  quiet_stops : (k : SessionState) → Stops k → Stops (with_quiet k)
  unfolding with_quiet
  quiet_stops k e = settling_taken h k.machine e

  samples_stops : (k : SessionState) → Stops k → Stops (with_samples k)
  unfolding with_samples
  samples_stops k e = e

  frees_stops : (k : SessionState) → Stops k → Stops (with_frees k)
  unfolding with_frees
  frees_stops k e = sweeps_all_same h (length k.machine.placer.book.agenda) k.machine ∙ e

  armed_stops : (m : Instrumented) (s : MetricFocusPair) → IsStopped h m.core → IsStopped h (machine_armed m s).core
  armed_stops m s e = cond_both (is_ready m s) (after_act (Arms s.instrument.n) m) m (λ (d : Instrumented). IsStopped h d.core) (λ _. arms_same h s.instrument.n m ∙ e) (λ _. e)

  all_armed_stops : (ss : List MetricFocusPair) (m : Instrumented) → IsStopped h m.core → IsStopped h (arm_all m ss).core
  all_armed_stops [] m e = e
  all_armed_stops (s ∷ ss) m e = all_armed_stops ss (machine_armed m s) (armed_stops m s e)

  arms_stops : (k : SessionState) → Stops k → Stops (with_arms k)
  unfolding with_arms
  arms_stops k e = all_armed_stops k.shown k.machine e

  tester_stops : (o : Option MetricFocusPair) (k : SessionState) → Stops k → Stops (without_tester o k)
  tester_stops None k e = e
  tester_stops (Some s) k e = drops_stops s.instrument.n k.machine e

  tests_stops : (ns : List ℕ) (k : SessionState) → Stops k → Stops (without_tests ns k)
  tests_stops [] k e = e
  tests_stops (n ∷ ns) k e = let o = tester_of k.machine.placer n k.shown in tests_stops ns (without_tester o k) (tester_stops o k e)

  verdicts_stops : (samples : List NodeSample) (k : SessionState) → Stops k → Stops (with_verdicts samples k)
  unfolding with_verdicts
  verdicts_stops samples k e = let v = search_step k.time samples k.search in tests_stops v.drops (record k { search = v }) e

  next_stops : (width : ℕ) (k : SessionState) → Stops k → Stops (with_next width k)
  unfolding with_next
  next_stops width k e = e

  done_stops : (s : State) → Stops s.kept → Stops (state_done i s).kept
  done_stops s e =
      let sampled = with_samples s.kept in
      let freed = with_frees sampled in
      let armed = with_arms freed in
      next_stops i.settings.width (with_verdicts (tests_now i s) armed) (verdicts_stops (tests_now i s) armed (arms_stops freed (frees_stops sampled (samples_stops s.kept e))))

  worked_stops : (s : State) → Stops s.kept → Stops (state_worked i s).kept
  worked_stops s e = cond_both (is_due s.kept) (state_done i (state_quiet s)) s (λ (x : State). Stops x.kept) (λ _. done_stops (state_quiet s) (quiet_stops s.kept e)) (λ _. e)

  tend_stops : (g n : ℕ) (s : State) → Stops s.kept → Stops (after_quantum i g n s).kept
  unfolding after_quantum
  tend_stops g n s e =
      let admitted = state_admitted i s in
      let turned = state_turned g n admitted in
      worked_stops (state_handed turned) (entries_stops turned.kept (hart_stops g n admitted.kept (admission_stops s.kept e)))

  -- ---- many quanta

  from_stops : (quanta : List Quantum) (s : State) → Stops s.kept → Stops (after_quanta_from i quanta s).kept
  from_stops [] s e = e
  from_stops (q ∷ quanta) s e = from_stops quanta (after_quantum i q.hart q.turns s) (tend_stops q.hart q.turns s e)

  behind : (quanta later : List Quantum) (s : State) → Stops (after_quanta_from i quanta s).kept → Stops (after_quanta_from i (quanta ++ later) s).kept
  behind [] later s e = from_stops later s e
  behind (q ∷ quanta) later s e = behind quanta later (after_quantum i q.hart q.turns s) e

  work_stops : (quanta later : List Quantum) → Stops (after_quanta i quanta).kept → Stops (after_quanta i (quanta ++ later)).kept
  unfolding after_quanta
  work_stops quanta later e = behind quanta later (first_state i) e

-- Halted stays.
pub stays : (i : Inputs) (quanta later : List Quantum) (h : ℕ) → Halted i quanta h → Halted i (quanta ++ later) h
unfolding Halted
stays i quanta later h (inl e) = inl (work_stops i h quanta later e)
stays i quanta later h (inr full) = inr (omega (arith, length-append quanta later))
