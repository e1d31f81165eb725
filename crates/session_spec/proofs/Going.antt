-- What a session goes on from stays tied to how it came about, step by step.
use Rattle.std.proofs.Common.{◌≡◌, ℕ, List, ◌++◌, refl, sym, subst}
use Rattle.std.specs.Prelude.{Bool, true, false, cond}
use Rattle.mdl_check.specs.declared.checked.CheckedWish.{CheckedWish}
use Rattle.machine.specs.Events.{IsQuiet}
use Rattle.machine.specs.Replays.{owns}
use Rattle.machine.specs.States.{quantum_turns, settling}
use Rattle.machine.proofs.Settled.{settled_quiet}
use Rattle.instrumented.specs.Instrumented.{Instrumented, after_turns}
use Rattle.instrumented.proofs.Turns.{are_taken, machine_reached, quantum_all, quantum_legal, settling_all, settling_legal}
use Rattle.session_spec.specs.declared.data.MetricFocusPair.{MetricFocusPair}
use Rattle.session_spec.specs.Inputs.{Inputs}
use Rattle.session_spec.specs.States.{SessionState}
use Rattle.session_spec.specs.Admission.{with_admission, with_wish, with_wishes}
use Rattle.session_spec.specs.Tests.{with_tests}
use Rattle.session_spec.specs.Ties.{IsTied}
use Rattle.session_spec.specs.Plans.{ArePlansGood}
use Rattle.session_spec.specs.Readings.{lasts_with}
use Rattle.session_spec.proofs.Admitting.{same_moved}
pub use Rattle.session_spec.proofs.Admitting.{program_is}
use Rattle.session_spec.proofs.Armings.{led_reached}
use Rattle.session_spec.proofs.Lasting.{led_of}
use Rattle.session_spec.proofs.Testing.{tests_moved, tests_once}
use Rattle.session_spec.proofs.Tied.{turns_tied}
use Rattle.session_spec.proofs.Wishing.{IsAtOnce, Moves, on, once_on, wish_once, wishes_moved, wishes_once}

-- a wish takes no time
pub wish_time : (i : Inputs) (w : CheckedWish) (k : SessionState) → (with_wish i w k).time ≡ k.time
wish_time i w k = (wish_once i w k).time

-- ---- an admission: no time passes in it, and it keeps the tie

pub admission_once : (i : Inputs) (k : SessionState) → IsAtOnce k (with_admission i k)
unfolding with_admission
admission_once i k = by k.worked
  where
    by : (b : Bool) → IsAtOnce k (cond b (record (with_tests i (with_wishes i k.wishes k)) { worked = false }) k)
    by true =
        let d = with_wishes i k.wishes k in
        let all = once_on k d (with_tests i d) (wishes_once i k.wishes k) (tests_once i d) in
        record { time = all.time; last = all.last }
    by false = record { time = refl; last = refl }

pub admission_moved : (i : Inputs) → ArePlansGood i → (own lasts : List ℕ) (k : SessionState) → IsTied i k.machine own k.shown lasts → Moves i own lasts k (with_admission i k)
unfolding with_admission
admission_moved i good own lasts k t = by k.worked
  where
    by : (b : Bool) → Moves i own lasts k (cond b (record (with_tests i (with_wishes i k.wishes k)) { worked = false }) k)
    by true =
        let d = with_wishes i k.wishes k in
        let w = wishes_moved i good own k.wishes lasts k t in
        on i own lasts k d (with_tests i d) w (tests_moved i good own (lasts_with d.shown lasts) d w.tied)
    by false = same_moved i k.machine own k.shown lasts t

-- ---- turns

pub hart_tied : (n h : ℕ) (i : Inputs) (m : Instrumented) (own : List ℕ) (ss : List MetricFocusPair) (lasts : List ℕ) → IsTied i m own ss lasts → IsTied i (after_turns (quantum_turns n h m.core) m) (own ++ owns (quantum_turns n h m.core) m.core) ss lasts
hart_tied n h i m own ss lasts t = turns_tied (quantum_turns n h m.core) i m own ss lasts (quantum_all n h m.core) (quantum_legal n h m) t

-- settled, and quiet
pub record IsQuietTied (i : Inputs) (m : Instrumented) (own : List ℕ) (ss : List MetricFocusPair) (lasts : List ℕ) : Type 0 where
  pub tied : IsTied i (after_turns (settling m.core) m) (own ++ owns (settling m.core) m.core) ss lasts
  pub quiet : IsQuiet (after_turns (settling m.core) m).core

pub quiet_tied : (i : Inputs) (m : Instrumented) (own : List ℕ) (ss : List MetricFocusPair) (lasts : List ℕ) → IsTied i m own ss lasts → IsQuietTied i m own ss lasts
quiet_tied i m own ss lasts t =
    let r = led_reached i m own (led_of i m own ss lasts t) in
    let legal = settling_legal m r in
    let taken_is = (are_taken (settling m.core) m (settling_all m.core) legal r).is in
    record {
      tied = turns_tied (settling m.core) i m own ss lasts (settling_all m.core) legal t;
      quiet = subst (λ (d : Instrumented). IsQuiet d.core) (sym taken_is) (settled_quiet m.core (machine_reached m r));
    }
