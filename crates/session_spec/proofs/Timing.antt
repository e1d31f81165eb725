-- The time of a session never falls.
use Rattle.std.proofs.Common.{◌≡◌, ℕ, ◌≤◌, List, [], ◌∷◌, refl, ap, ◌∙◌, arith}
use Rattle.std.specs.Prelude.{nat_lt}
use Rattle.std.proofs.lemmas.Bool.{cond_both}
use Rattle.pn_types.specs.declared.quantum.Quantum.{Quantum}
use Rattle.w3_search.specs.declared.node.NodeSample.{NodeSample}
use Rattle.w3_search.specs.Steps.{search_step}
use Rattle.session_spec.specs.Inputs.{Inputs}
use Rattle.session_spec.specs.States.{SessionState, State}
use Rattle.session_spec.specs.Turns.{with_entries, with_hart, with_quiet}
use Rattle.session_spec.specs.Due.{with_arms, with_frees, with_next, with_samples}
use Rattle.session_spec.specs.Admission.{with_admission}
use Rattle.session_spec.specs.Verdicts.{with_search_end, with_verdicts}
use Rattle.session_spec.specs.Work.{final_state, is_due, state_admitted, state_done, state_last, state_quiet, state_turned, state_worked, after_quantum, tests_now, after_quanta_from}
use Rattle.session_spec.specs.LastReadings.{handed_on}
use Rattle.session_spec.proofs.AdmittingSteps.{Keeps, admission_kept}
use Rattle.session_spec.proofs.Leaving.{tests_alone}

-- ---- steps that take no time

time_keeps : (i : Inputs) (t : ℕ) → Keeps i (λ k. k.time ≡ t)
time_keeps i t = record {
  beside = λ k j b e. b.time ∙ e;
  drops = λ k n e. e;
  wished = λ k plan w placer is a e. e;
  barred = λ k n node cause s w by e. e;
  tested = λ k n node plan placer s w p m a e. e;
}

time_admission : (i : Inputs) (k : SessionState) → (with_admission i k).time ≡ k.time
time_admission i k = admission_kept i (λ j. j.time ≡ k.time) (time_keeps i k.time) k refl

time_entries : (k : SessionState) → (with_entries k).time ≡ k.time
unfolding with_entries
time_entries k = refl

time_samples : (k : SessionState) → (with_samples k).time ≡ k.time
unfolding with_samples
time_samples k = refl

time_frees : (k : SessionState) → (with_frees k).time ≡ k.time
unfolding with_frees
time_frees k = refl

time_arms : (k : SessionState) → (with_arms k).time ≡ k.time
unfolding with_arms
time_arms k = refl

time_verdicts : (samples : List NodeSample) (k : SessionState) → (with_verdicts samples k).time ≡ k.time
unfolding with_verdicts
time_verdicts samples k =
    let v = search_step k.time samples k.search in
    ap (λ (z : SessionState). z.time) (tests_alone v.drops (record k { search = v }))

time_next : (width : ℕ) (k : SessionState) → (with_next width k).time ≡ k.time
unfolding with_next
time_next width k = refl

time_end : (k : SessionState) → (with_search_end k).time ≡ k.time
unfolding with_search_end
time_end k = refl

-- ---- turns take time

time_hart : (h n : ℕ) (k : SessionState) → k.time ≤ (with_hart h n k).time
unfolding with_hart
time_hart h n k = omega arith

time_quiet : (k : SessionState) → k.time ≤ (with_quiet k).time
unfolding with_quiet
time_quiet k = omega arith

-- ---- a quantum, and the end

pub time_done : (i : Inputs) (s : State) → (state_done i s).kept.time ≡ s.kept.time
time_done i s =
    let sampled = with_samples s.kept in
    let freed = with_frees sampled in
    let armed = with_arms freed in
    time_next i.settings.width (with_verdicts (tests_now i s) armed) ∙ (time_verdicts (tests_now i s) armed ∙ (time_arms freed ∙ (time_frees sampled ∙ time_samples s.kept)))

pub time_last : (i : Inputs) (s : State) → (state_last i s).kept.time ≡ s.kept.time
time_last i s = time_verdicts (tests_now i s) (with_samples s.kept) ∙ time_samples s.kept

time_worked : (i : Inputs) (s : State) → s.kept.time ≤ (state_worked i s).kept.time
time_worked i s =
    let q = state_quiet s in
    cond_both (is_due s.kept) (state_done i q) s (λ (x : State). s.kept.time ≤ x.kept.time) (λ _. omega (arith, time_done i q, time_quiet s.kept)) (λ _. omega arith)

time_tend : (i : Inputs) (h n : ℕ) (s : State) → s.kept.time ≤ (after_quantum i h n s).kept.time
unfolding after_quantum
time_tend i h n s =
    let a = state_admitted i s in
    let t = state_turned h n a in
    omega (arith, time_admission i s.kept, time_hart h n a.kept, time_entries t.kept, time_worked i (handed_on i h n s))

pub time_from : (i : Inputs) (quanta : List Quantum) (s : State) → s.kept.time ≤ (after_quanta_from i quanta s).kept.time
time_from i [] s = omega arith
time_from i (q ∷ quanta) s = omega (arith, time_tend i q.hart q.turns s, time_from i quanta (after_quantum i q.hart q.turns s))

-- the end comes when the machine is quiet
pub time_closed : (i : Inputs) (s : State) → (final_state i s).kept.time ≡ (state_quiet s).kept.time
unfolding final_state
time_closed i s =
    let q = state_quiet s in
    cond_both (nat_lt q.kept.last q.kept.time) (state_last i q) q (λ (x : State). (with_search_end x.kept).time ≡ q.kept.time)
    (λ _. time_end (state_last i q).kept ∙ time_last i q) (λ _. time_end q.kept)

pub time_before : (i : Inputs) (s : State) → s.kept.time ≤ (final_state i s).kept.time
time_before i s = omega (arith, time_closed i s, time_quiet s.kept)
