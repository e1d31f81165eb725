-- The costs of the tests stay within the limit through a quantum and the end.
use Rattle.std.proofs.Common.{◌≡◌, ℕ, List, [], ◌∷◌, Option, Some, None, refl, sym, subst, arith}
use Rattle.std.specs.Prelude.{Bool, true, false, cond, length, nat_lt}
use Rattle.std.proofs.lemmas.Bool.{cond_both}
use Rattle.pn_types.specs.declared.quantum.Quantum.{Quantum}
use Rattle.machine.specs.Events.{Event}
use Rattle.machine.specs.States.{quantum_turns, settling}
use Rattle.instrument.specs.Placements.{Placements}
use Rattle.instrument.specs.Scenes.{Act, Arms, Drops, Hands, Sweeps}
use Rattle.instrument.proofs.Numbers as numbers
use Rattle.instrumented.specs.Instrumented.{Instrumented, after_act, repeated}
use Rattle.w3_search.specs.declared.node.NodeSample.{NodeSample}
use Rattle.w3_search.specs.Steps.{search_step}
use Rattle.session_spec.specs.declared.data.MetricFocusPair.{MetricFocusPair}
use Rattle.session_spec.specs.Inputs.{Inputs, first_wishes}
use Rattle.session_spec.specs.States.{SessionState, State, first_kept}
use Rattle.session_spec.specs.Turns.{handed_at_once, with_entries, with_hart, with_quiet, with_turns}
use Rattle.session_spec.specs.Due.{all_armed, arm_all, is_ready, machine_armed, with_arms, with_frees, with_next, with_samples}
use Rattle.session_spec.specs.Opening.{wished, with_agenda}
use Rattle.session_spec.specs.Tests.{with_tests}
use Rattle.session_spec.specs.Verdicts.{tester_of, with_search_end, with_verdicts, without_tester, without_tests}
use Rattle.session_spec.specs.Work.{final_state, first_state, is_due, state_admitted, state_done, state_handed, state_last, state_quiet, state_turned, state_worked, after_quantum, tests_now, after_quanta, after_quanta_from}
use Rattle.session_spec.specs.Rosters.{AreNumbered}
use Rattle.session_spec.proofs.Standing.{since_none}
use Rattle.session_spec.proofs.Acting.{IsNoArming, done_since, repeated_since, taken_placer}
use Rattle.session_spec.proofs.Arming.{ready_arms}
use Rattle.session_spec.proofs.AdmittingSteps.{admission_kept, all_kept, of_nodes, of_wishes, tests_kept}
use Rattle.session_spec.proofs.Likes.{like_armed, like_itself, like_sampled}
use Rattle.session_spec.proofs.TestCosts.{IsCounted, Later, counted_keeps, counted_later, counted_machine, later_since}

-- ---- later instruments

pub later_none : (p : Placements) → AreNumbered p → Later p p
later_none p r = later_since p p (since_none p r)

pub later_on : (p q r : Placements) → Later p q → Later q r → Later p r
later_on p q r a b =
    let c = a.count in
    let d = b.count in
    record { roster = b.roster; count = omega arith; gone = λ n l e. b.gone n (omega arith) (a.gone n l e) }

pub later_ready : (b : Bool) (m : Instrumented) (s : MetricFocusPair) → is_ready m s ≡ b → AreNumbered m.placer → Later m.placer (machine_armed m s).placer
later_ready true m s e r =
    let a = ready_arms m s r e in
    let c = a.count in
    subst (λ (z : Bool). Later m.placer (cond z (after_act (Arms s.instrument.n) m) m).placer) (sym e) (record { roster = a.roster; count = omega arith; gone = λ n l g. a.gone n g })
later_ready false m s e r = subst (λ (z : Bool). Later m.placer (cond z (after_act (Arms s.instrument.n) m) m).placer) (sym e) (later_none m.placer r)

pub later_arms : (m : Instrumented) (ss : List MetricFocusPair) → AreNumbered m.placer → Later m.placer (arm_all m ss).placer
later_arms m [] r = later_none m.placer r
later_arms m (s ∷ ss) r =
    let a = later_ready (is_ready m s) m s refl r in
    later_on m.placer (machine_armed m s).placer (arm_all (machine_armed m s) ss).placer a (later_arms (machine_armed m s) ss a.roster)

-- ---- each step

counted_turns : (i : Inputs) (turns : List Event) (k : SessionState) → IsCounted i k → IsCounted i (with_turns turns k)
counted_turns i turns k c =
    counted_later i k (with_turns turns k) (subst (Later k.machine.placer) (sym (taken_placer turns k.machine)) (later_none k.machine.placer c.roster)) (like_itself k.shown) c

pub counted_hart : (i : Inputs) (h n : ℕ) (k : SessionState) → IsCounted i k → IsCounted i (with_hart h n k)
unfolding with_hart
counted_hart i h n k c = counted_turns i (quantum_turns n h k.machine.core) k c

pub counted_quiet : (i : Inputs) (k : SessionState) → IsCounted i k → IsCounted i (with_quiet k)
unfolding with_quiet
counted_quiet i k c = counted_turns i (settling k.machine.core) k c

counted_repeated : (i : Inputs) (n : ℕ) (a : Act) → IsNoArming a → (k : SessionState) → IsCounted i k → IsCounted i (record k { machine = repeated n a k.machine })
counted_repeated i n a o k c =
    counted_machine i k (repeated n a k.machine) (repeated_since n a o k.machine c.roster) c

pub counted_entries : (i : Inputs) (k : SessionState) → IsCounted i k → IsCounted i (with_entries k)
unfolding with_entries
counted_entries i k c = counted_repeated i handed_at_once Hands tt k c

counted_agenda : (i : Inputs) (k : SessionState) → IsCounted i k → IsCounted i (with_agenda k)
unfolding with_agenda
counted_agenda i k c = counted_repeated i (length k.machine.placer.book.agenda) Hands tt k c

pub counted_frees : (i : Inputs) (k : SessionState) → IsCounted i k → IsCounted i (with_frees k)
unfolding with_frees
counted_frees i k c = counted_repeated i (length k.machine.placer.book.agenda) Sweeps tt k c

pub counted_arms : (i : Inputs) (k : SessionState) → IsCounted i k → IsCounted i (with_arms k)
unfolding with_arms
counted_arms i k c =
    counted_later i k (record k { machine = arm_all k.machine k.shown; shown = all_armed k.time k.machine k.shown })
    (later_arms k.machine k.shown c.roster) (like_armed k.time k.machine k.shown) c

pub counted_samples : (i : Inputs) (k : SessionState) → IsCounted i k → IsCounted i (with_samples k)
unfolding with_samples
counted_samples i k c = counted_later i k (with_samples k) (later_none k.machine.placer c.roster) (like_sampled k.machine.placer k.time k.shown) c

counted_tester : (i : Inputs) (o : Option MetricFocusPair) (k : SessionState) → IsCounted i k → IsCounted i (without_tester o k)
counted_tester i None k c = c
counted_tester i (Some s) k c =
    counted_machine i k (after_act (Drops s.instrument.n) k.machine) (done_since (Drops s.instrument.n) tt k.machine c.roster) c

counted_drops : (i : Inputs) (ns : List ℕ) (k : SessionState) → IsCounted i k → IsCounted i (without_tests ns k)
counted_drops i [] k c = c
counted_drops i (n ∷ ns) k c = counted_drops i ns (without_tester (tester_of k.machine.placer n k.shown) k) (counted_tester i (tester_of k.machine.placer n k.shown) k c)

counted_verdicts : (i : Inputs) (samples : List NodeSample) (k : SessionState) → IsCounted i k → IsCounted i (with_verdicts samples k)
unfolding with_verdicts
counted_verdicts i samples k c =
    let v = search_step k.time samples k.search in
    counted_drops i v.drops (record k { search = v }) (record { roster = c.roster; below = c.below; within = c.within })

counted_next : (i : Inputs) (width : ℕ) (k : SessionState) → IsCounted i k → IsCounted i (with_next width k)
unfolding with_next
counted_next i width k c = record { roster = c.roster; below = c.below; within = c.within }

counted_end : (i : Inputs) (k : SessionState) → IsCounted i k → IsCounted i (with_search_end k)
unfolding with_search_end
counted_end i k c = record { roster = c.roster; below = c.below; within = c.within }

-- ---- a quantum, and the end

counted_done : (i : Inputs) (s : State) → IsCounted i s.kept → IsCounted i (state_done i s).kept
counted_done i s c =
    let a = with_arms (with_frees (with_samples s.kept)) in
    counted_next i i.settings.width (with_verdicts (tests_now i s) a)
    (counted_verdicts i (tests_now i s) a (counted_arms i (with_frees (with_samples s.kept)) (counted_frees i (with_samples s.kept) (counted_samples i s.kept c))))

counted_worked : (i : Inputs) (s : State) → IsCounted i s.kept → IsCounted i (state_worked i s).kept
counted_worked i s c =
    cond_both (is_due s.kept) (state_done i (state_quiet s)) s (λ (x : State). IsCounted i x.kept) (λ _. counted_done i (state_quiet s) (counted_quiet i s.kept c)) (λ _. c)

pub counted_tend : (i : Inputs) (h n : ℕ) (s : State) → IsCounted i s.kept → IsCounted i (after_quantum i h n s).kept
unfolding after_quantum
counted_tend i h n s c =
    let a = state_admitted i s in
    counted_worked i (state_handed (state_turned h n a))
    (counted_entries i (state_turned h n a).kept (counted_hart i h n a.kept (admission_kept i (IsCounted i) (counted_keeps i) s.kept c)))

pub counted_closed : (i : Inputs) (s : State) → IsCounted i s.kept → IsCounted i (final_state i s).kept
unfolding final_state
counted_closed i s c =
    let q = state_quiet s in
    let d = counted_quiet i s.kept c in
    cond_both (nat_lt q.kept.last q.kept.time) (state_last i q) q (λ (x : State). IsCounted i (with_search_end x.kept))
    (λ _. counted_end i (state_last i q).kept (counted_verdicts i (tests_now i q) (with_samples q.kept) (counted_samples i q.kept d))) (λ _. counted_end i q.kept d)

-- ---- the beginning, and all quanta

counted_start : (i : Inputs) → IsCounted i (first_kept i)
counted_start i = record {
  roster = record { numbered = (numbers.states_stay).first i.image i.settings.instruments; single = λ x y h k e. absurd h };
  below = tt;
  within = omega arith;
}

counted_wished : (i : Inputs) → IsCounted i (wished i)
unfolding wished
counted_wished i = all_kept i (IsCounted i) (of_wishes i (IsCounted i) (counted_keeps i)) (first_wishes i) (first_kept i) (counted_start i)

pub counted_first : (i : Inputs) → IsCounted i (first_state i).kept
counted_first i =
    let tested = with_tests i (wished i) in
    counted_arms i (with_agenda tested) (counted_agenda i tested (tests_kept i (IsCounted i) (of_nodes i (IsCounted i) (counted_keeps i)) (wished i) (counted_wished i)))

counted_from : (i : Inputs) (quanta : List Quantum) (s : State) → IsCounted i s.kept → IsCounted i (after_quanta_from i quanta s).kept
counted_from i [] s c = c
counted_from i (q ∷ quanta) s c = counted_from i quanta (after_quantum i q.hart q.turns s) (counted_tend i q.hart q.turns s c)

pub counted_work : (i : Inputs) (quanta : List Quantum) → IsCounted i (after_quanta i quanta).kept
unfolding after_quanta
counted_work i quanta = counted_from i quanta (first_state i) (counted_first i)
