-- Each sample is a difference of readings, and the session's machine is the unpatched program's.
use Rattle.std.proofs.Common.{◌≡◌, ℕ, ◌≤◌, List, [], ◌∷◌, refl, sym, ap, ◌∙◌, arith}
use Rattle.std.specs.Prelude.{Bool, true, false, cond}
use Rattle.std.proofs.lemmas.Bool.{ltb-false}
use Rattle.w3_search.specs.Steps.{search_step}
use Rattle.w3_search.specs.declared.node.NodeSample.{NodeSample}
use Rattle.session_spec.specs.Verdicts.{with_search_end, with_verdicts}
use Rattle.session_spec.proofs.Leaving.{tests_alone}
use Rattle.pn_types.specs.declared.quantum.Quantum.{Quantum}
use Rattle.pn_types.specs.declared.limits.TheConstants.{MAX_BUDGET}
use Rattle.machine.specs.Events.{IsQuiet}
use Rattle.machine.specs.Laws.{IsProgram}
use Rattle.session_spec.specs.Inputs.{Inputs}
use Rattle.session_spec.specs.States.{SessionState, State}
use Rattle.session_spec.specs.Due.{recorded_with, with_samples}
use Rattle.session_spec.specs.Plans.{ArePlansGood}
use Rattle.session_spec.specs.Readings.{lasts_armed, lasts_now, recorded_read}
use Rattle.session_spec.specs.Reads.{IsSoundState}
use Rattle.session_spec.specs.Due.{with_frees}
use Rattle.session_spec.specs.Work.{final_state, first_state, is_due, state_admitted, state_armed, state_done, state_ended, state_judged, state_last, state_quiet, state_sampled, state_turned, after_quantum, tests_now, after_quanta, after_quanta_from}
use Rattle.session_spec.proofs.Begins.{opens}
use Rattle.session_spec.proofs.Samples.{recorded_is}
use Rattle.session_spec.proofs.Sound.{admitted_sound, armed_sound, ended_sound, handed_sound, is_quiet, judged_sound, next_sound, quiet_sound, sampled_sound, turned_sound}
use Rattle.std.specs.Prelude.{nat_lt}
use Rattle.session_spec.proofs.Runs.{is_run}
use Rattle.session_spec.specs.LastReadings.{AreRead, handed_on, lasts_done, lasts_first, lasts_from, lasts_handed, lasts_of, lasts_tended}
use Rattle.session_spec.specs.Laws.{RunsTold, SamplesRead}

same_quiet : (i : Inputs) (s : State) → IsQuiet s.kept.machine.core → IsQuiet (state_sampled i s).kept.machine.core
unfolding with_samples
same_quiet i s q = q

sampled_now : (i : Inputs) (s : State) → (state_sampled i s).kept.last ≡ (state_sampled i s).kept.time
unfolding with_samples
sampled_now i s = refl

module _ (i : Inputs) (good : ArePlansGood i) where
  done_sound : (s : State) (lasts : List ℕ) → IsSoundState i s lasts → IsQuiet s.kept.machine.core → IsSoundState i (state_done i s) (lasts_done i s lasts)
  done_sound s lasts k quiet =
      let read = lasts_now i s.kept.machine s.kept.shown lasts in
      let sampled = state_sampled i s in
      let armed_lasts = lasts_armed i (with_frees sampled.kept).machine (with_frees sampled.kept).shown read in
      let a = armed_sound i sampled read (sampled_sound i s lasts k quiet) (same_quiet i s quiet) (sampled_now i s) in
      let j = judged_sound i (state_armed sampled) armed_lasts a (tests_now i s) in
      next_sound i (state_judged (tests_now i s) (state_armed sampled)) armed_lasts j i.settings.width

  handed_on_sound : (h n : ℕ) (s : State) (lasts : List ℕ) → IsSoundState i s lasts → IsSoundState i (handed_on i h n s) (lasts_handed i s lasts)
  handed_on_sound h n s lasts k =
      let read = lasts_handed i s lasts in
      let a = admitted_sound i s lasts k good in
      let t = turned_sound i (state_admitted i s) read a h n in
      handed_sound i (state_turned h n (state_admitted i s)) read t

  tend_sound : (h n : ℕ) (s : State) (lasts : List ℕ) → IsSoundState i s lasts → IsSoundState i (after_quantum i h n s) (lasts_tended i h n s lasts)
  unfolding after_quantum
  tend_sound h n s lasts k = by (is_due (handed_on i h n s).kept)
    where
      by : (w : Bool)
          → IsSoundState i (cond w (state_done i (state_quiet (handed_on i h n s))) (handed_on i h n s)) (cond w (lasts_done i (state_quiet (handed_on i h n s)) (lasts_handed i s lasts)) (lasts_handed i s lasts))
      by true =
          let b = handed_on i h n s in
          let read = lasts_handed i s lasts in
          let z = handed_on_sound h n s lasts k in
          done_sound (state_quiet b) read (quiet_sound i b read z) (is_quiet i b read z)
      by false = handed_on_sound h n s lasts k

  from_sound : (quanta : List Quantum) (s : State) (lasts : List ℕ) → IsSoundState i s lasts → IsSoundState i (after_quanta_from i quanta s) (lasts_from i quanta s lasts)
  from_sound [] s lasts k = k
  from_sound (q ∷ quanta) s lasts k = from_sound quanta (after_quantum i q.hart q.turns s) (lasts_tended i q.hart q.turns s lasts) (tend_sound q.hart q.turns s lasts k)

  pub work_sound : (quanta : List Quantum) → IsProgram i.image → IsSoundState i (after_quanta i quanta) (lasts_of i quanta)
  unfolding after_quanta lasts_of
  work_sound quanta p = from_sound quanta (first_state i) (lasts_first i) (opens i p good)

  -- after the end
  last_sound : (s : State) (lasts : List ℕ) → IsSoundState i s lasts → IsQuiet s.kept.machine.core → IsSoundState i (state_last i s) (lasts_now i s.kept.machine s.kept.shown lasts)
  last_sound s lasts k quiet =
      let read = lasts_now i s.kept.machine s.kept.shown lasts in
      judged_sound i (state_sampled i s) read (sampled_sound i s lasts k quiet) (tests_now i s)

  -- and all that is armed was sampled to the end
  pub record IsEndSound (s : State) : Type 0 where
    pub lasts : List ℕ
    pub sound : IsSoundState i s lasts
    pub last : s.kept.last ≡ s.kept.time

  verdicts_last : (samples : List NodeSample) (k : SessionState) → ((with_verdicts samples k).last ≡ k.last) × ((with_verdicts samples k).time ≡ k.time)
  unfolding with_verdicts
  verdicts_last samples k =
      let v = search_step k.time samples k.search in
      let e = tests_alone v.drops (record k { search = v }) in
      (ap (λ (z : SessionState). z.last) e, ap (λ (z : SessionState). z.time) e)

  ended_last : (s : State) → s.kept.last ≡ s.kept.time → (state_ended s).kept.last ≡ (state_ended s).kept.time
  unfolding with_search_end
  ended_last s e = e

  pub closed_sound : (s : State) (lasts : List ℕ) → IsSoundState i s lasts → IsEndSound (final_state i s)
  unfolding final_state
  closed_sound s lasts k = by (nat_lt (state_quiet s).kept.last (state_quiet s).kept.time) refl
    where
      by : (b : Bool) → nat_lt (state_quiet s).kept.last (state_quiet s).kept.time ≡ b → IsEndSound (state_ended (cond b (state_last i (state_quiet s)) (state_quiet s)))
      by true e =
          let q = state_quiet s in
          let read = lasts_now i q.kept.machine q.kept.shown lasts in
          let v = verdicts_last (tests_now i q) (state_sampled i q).kept in
          record {
            lasts = read;
            sound = ended_sound i (state_last i q) read (last_sound q lasts (quiet_sound i s lasts k) (is_quiet i s lasts k));
            last = ended_last (state_last i q) (v.0 ∙ (sampled_now i q ∙ sym v.1));
          }
      by false e =
          let q = state_quiet s in
          let z = quiet_sound i s lasts k in
          let low : q.kept.last ≤ q.kept.time = z.last in
          let high : q.kept.time ≤ q.kept.last = ltb-false q.kept.last q.kept.time e in
          record { lasts = lasts; sound = ended_sound i q lasts z; last = ended_last q (omega (arith, low, high)) }

  -- ---- what is told

  are_read : i.settings.budget ≤ MAX_BUDGET → (s : State) (lasts : List ℕ) → IsSoundState i s lasts → AreRead i (state_quiet s) lasts
  are_read low s lasts k =
      let q = state_quiet s in
      let z = quiet_sound i s lasts k in
      let quiet = is_quiet i s lasts k in
      let is = recorded_is i q.kept.machine q.owns q.kept.shown lasts z.tied quiet low q.kept.shown lasts q.recorded z.tied.shown in
      record {
        quiet = quiet;
        read = ap (λ (t : ℕ). recorded_with i q.kept.machine.placer q.owns t q.kept.shown q.recorded) z.time
            ∙ (sym is ∙ ap (λ (t : ℕ). recorded_read i q.kept.machine t q.kept.shown lasts q.recorded) (sym z.time));
      }

pub runs_told : RunsTold
runs_told = record {
  works = λ i quanta p good. is_run i (after_quanta i quanta) (lasts_of i quanta) (work_sound i good quanta p);
  closes = λ i quanta p good.
      let c = closed_sound i good (after_quanta i quanta) (lasts_of i quanta) (work_sound i good quanta p) in
      is_run i (final_state i (after_quanta i quanta)) c.lasts c.sound;
}

pub samples_read : SamplesRead
samples_read i quanta p good low =
    let s = after_quanta i quanta in
    let z = work_sound i good quanta p in
    record {
      due = λ h n. are_read i good low (handed_on i h n s) (lasts_handed i s (lasts_of i quanta)) (handed_on_sound i good h n s (lasts_of i quanta) z);
      last = are_read i good low s (lasts_of i quanta) z;
    }
