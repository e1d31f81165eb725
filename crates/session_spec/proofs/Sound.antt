-- Each step keeps the state of a session sound.
use Rattle.std.proofs.Common.{◌≡◌, ℕ, suc, ◌-◌, List, [], ◌∷◌, ◌++◌, refl, sym, ap, ◌∙◌, subst, arith, length, map}
use Rattle.std.specs.Prelude.{replicate}
use Rattle.std.proofs.lemmas.List.{length-append, length-map, length-replicate}
use Rattle.fold_hist.specs.declared.bin.Bin.{Bin}
use Rattle.machine.specs.Events.{IsQuiet}
use Rattle.machine.specs.Replays.{owns}
use Rattle.machine.specs.States.{quantum_turns, settling}
use Rattle.instrument.specs.Placements.{Placements}
use Rattle.instrumented.specs.Instrumented.{Instrumented, after_turns}
use Rattle.w3_search.specs.declared.node.NodeSample.{NodeSample}
use Rattle.session_spec.specs.declared.data.MetricFocusPair.{MetricFocusPair}
use Rattle.session_spec.specs.Inputs.{Inputs}
use Rattle.session_spec.specs.States.{State}
use Rattle.session_spec.specs.Admission.{with_admission}
use Rattle.session_spec.specs.Turns.{with_entries, with_hart, with_quiet}
use Rattle.session_spec.specs.Due.{all_armed, arm_all, machine_armed, recorded_with, sampled_to, with_arms, with_frees, with_next, with_samples}
use Rattle.session_spec.specs.Verdicts.{with_search_end, with_verdicts}
use Rattle.session_spec.specs.Work.{state_admitted, state_armed, state_ended, state_handed, state_judged, state_next, state_quiet, state_sampled, state_turned}
use Rattle.session_spec.specs.Ties.{IsTied}
use Rattle.session_spec.specs.Plans.{ArePlansGood}
use Rattle.session_spec.specs.Readings.{lasts_armed, lasts_now, lasts_with}
use Rattle.session_spec.specs.Reads.{AreFromLast, IsSoundState}
use Rattle.session_spec.proofs.Admitting.{many_lasts, more_shown}
use Rattle.session_spec.proofs.Armings.{arms_tied}
use Rattle.session_spec.proofs.Going.{admission_moved, admission_once, hart_tied, quiet_tied}
use Rattle.session_spec.proofs.Lasting.{armed_last, hands_back, led_of, sampled_last, sweeps_back, turns_same}
use Rattle.session_spec.proofs.Samples.{samples_tied}
use Rattle.session_spec.proofs.Testing.{judged_tied, verdicts_judged}
use Rattle.session_spec.proofs.Ticking.{ticks_tied}
use Rattle.session_spec.proofs.Tied.{hands_tied, sweeps_tied}

-- ---- lengths

recorded_many : (i : Inputs) (p : Placements) (own : List ℕ) (time : ℕ) (ss : List MetricFocusPair) (rs : List (List Bin)) → length rs ≡ length ss
    → length (recorded_with i p own time ss rs) ≡ length ss
recorded_many i p own time [] rs e = e
recorded_many i p own time (s ∷ ss) [] e = e
recorded_many i p own time (s ∷ ss) (r ∷ rs) e = ap suc (recorded_many i p own time ss rs (omega arith))

armed_many : (time : ℕ) (m : Instrumented) (ss : List MetricFocusPair) → length (all_armed time m ss) ≡ length ss
armed_many time m [] = refl
armed_many time m (s ∷ ss) = ap suc (armed_many time (machine_armed m s) ss)

-- ---- steps

module _ (i : Inputs) (s : State) (lasts : List ℕ) (k : IsSoundState i s lasts) where
  -- an admission
  pub admitted_sound : ArePlansGood i → IsSoundState i (state_admitted i s) (lasts_with (with_admission i s.kept).shown lasts)
  admitted_sound good =
      let d = with_admission i s.kept in
      let a = admission_moved i good s.owns lasts s.kept k.tied in
      let once = admission_once i s.kept in
      let many = many_lasts i s.kept.machine s.owns s.kept.shown lasts k.tied in
      let more = more_shown i d.machine s.owns d.shown lasts a.tied in
      let rs = k.many in
      let len = length-append s.recorded (replicate (length d.shown - length s.recorded) []) in
      let room : length (replicate {A = List Bin} (length d.shown - length s.recorded) []) ≡ length d.shown - length s.recorded = length-replicate (length d.shown - length s.recorded) [] in
      record {
        tied = a.tied;
        time = once.time ∙ k.time;
        many = omega arith;
        ticks = ticks_tied i d.machine s.owns d.shown (lasts_with d.shown lasts) a.tied;
        last = let low = k.last in let last = once.last in let time = once.time in omega arith;
        from = λ x h e. let was = a.back x h e in k.from x was.0 was.1 ∙ sym once.last;
      }

  -- a hart's turns
  pub turned_sound : (h n : ℕ) → IsSoundState i (state_turned h n s) lasts
  unfolding with_hart
  turned_sound h n =
      let turns = quantum_turns n h s.kept.machine.core in
      let len = length-append s.owns (owns turns s.kept.machine.core) in
      let time = k.time in
      let low = k.last in
      let tied = hart_tied n h i s.kept.machine s.owns s.kept.shown lasts k.tied in
      record {
        tied = tied;
        time = omega arith;
        many = k.many;
        ticks = ticks_tied i (after_turns turns s.kept.machine) (s.owns ++ owns turns s.kept.machine.core) s.kept.shown lasts tied;
        last = omega arith;
        from = subst (λ p. AreFromLast p s.kept.last s.kept.shown) (sym (turns_same turns s.kept.machine)) k.from;
      }

  -- entries of the agenda
  pub handed_sound : IsSoundState i (state_handed s) lasts
  unfolding with_entries
  handed_sound =
      let tied = hands_tied 8 i s.kept.machine s.owns s.kept.shown lasts k.tied in
      record {
        tied = tied;
        time = k.time;
        many = k.many;
        ticks = ticks_tied i (with_entries s.kept).machine s.owns s.kept.shown lasts tied;
        last = k.last;
        from = λ x h e. k.from x h (hands_back 8 i s.kept.machine s.owns (led_of i s.kept.machine s.owns s.kept.shown lasts k.tied) x e);
      }

  -- settling
  pub quiet_sound : IsSoundState i (state_quiet s) lasts
  unfolding with_quiet
  quiet_sound =
      let turns = settling s.kept.machine.core in
      let len = length-append s.owns (owns turns s.kept.machine.core) in
      let time = k.time in
      let low = k.last in
      let tied = (quiet_tied i s.kept.machine s.owns s.kept.shown lasts k.tied).tied in
      record {
        tied = tied;
        time = omega arith;
        many = k.many;
        ticks = ticks_tied i (after_turns turns s.kept.machine) (s.owns ++ owns turns s.kept.machine.core) s.kept.shown lasts tied;
        last = omega arith;
        from = subst (λ p. AreFromLast p s.kept.last s.kept.shown) (sym (turns_same turns s.kept.machine)) k.from;
      }

  pub is_quiet : IsQuiet (state_quiet s).kept.machine.core
  unfolding with_quiet
  is_quiet = (quiet_tied i s.kept.machine s.owns s.kept.shown lasts k.tied).quiet

  module _ (quiet : IsQuiet s.kept.machine.core) where
    -- samples
    pub sampled_sound : IsSoundState i (state_sampled i s) (lasts_now i s.kept.machine s.kept.shown lasts)
    unfolding with_samples
    sampled_sound =
        let tied = subst (λ (time : ℕ). IsTied i s.kept.machine s.owns (map (sampled_to s.kept.machine.placer time) s.kept.shown) (lasts_now i s.kept.machine s.kept.shown lasts)) (sym k.time)
        (samples_tied i s.kept.machine s.owns s.kept.shown lasts k.tied quiet) in
        record {
          tied = tied;
          time = k.time;
          many = recorded_many i s.kept.machine.placer s.owns s.kept.time s.kept.shown s.recorded k.many ∙ sym (length-map s.kept.shown (sampled_to s.kept.machine.placer s.kept.time));
          ticks = k.ticks;
          last = omega arith;
          from = sampled_last s.kept.machine.placer s.kept.time s.kept.shown;
        }

    -- Frees, and armings, where all were sampled just now
    pub armed_sound : s.kept.last ≡ s.kept.time → IsSoundState i (state_armed s) (lasts_armed i (with_frees s.kept).machine (with_frees s.kept).shown lasts)
    unfolding with_frees with_arms
    armed_sound now =
        let n = length s.kept.machine.placer.book.agenda in
        let m = (with_frees s.kept).machine in
        let f = sweeps_tied n i s.kept.machine s.owns s.kept.shown lasts quiet k.tied in
        let a = arms_tied i m s.owns s.kept.shown lasts f.quiet f.tied in
        let tied = subst (λ (time : ℕ). IsTied i (arm_all m s.kept.shown) s.owns (all_armed time m s.kept.shown) (lasts_armed i m s.kept.shown lasts)) (sym k.time) a.tied in
        let from : AreFromLast m.placer s.kept.time s.kept.shown = λ x h e. k.from x h (sweeps_back n i s.kept.machine s.owns quiet (led_of i s.kept.machine s.owns s.kept.shown lasts k.tied) x e) ∙ now in
        let armed = armed_last i m s.owns s.kept.time s.kept.shown (led_of i m s.owns s.kept.shown lasts f.tied) f.quiet k.tied.apart from in
        record {
          tied = tied;
          time = k.time;
          many = k.many ∙ sym (armed_many s.kept.time m s.kept.shown);
          ticks = ticks_tied i (arm_all m s.kept.shown) s.owns (all_armed s.kept.time m s.kept.shown) (lasts_armed i m s.kept.shown lasts) tied;
          last = k.last;
          from = λ x h e. armed x h e ∙ sym now;
        }

  -- what the samples tell the search
  pub judged_sound : (samples : List NodeSample) → IsSoundState i (state_judged samples s) lasts
  judged_sound samples =
      let d = with_verdicts samples s.kept in
      let j = verdicts_judged i s.owns lasts samples s.kept k.tied in
      let tied = judged_tied i s.owns lasts s.kept d k.tied j in
      let once = j.once in
      record {
        tied = tied;
        time = once.time ∙ k.time;
        many = k.many ∙ ap (λ (ss : List MetricFocusPair). length ss) (sym j.shown);
        ticks = ticks_tied i d.machine s.owns d.shown lasts tied;
        last = let low = k.last in let last = once.last in let time = once.time in omega arith;
        from = λ x h e. let was = j.moved.back x h e in k.from x was.0 was.1 ∙ sym once.last;
      }

  pub next_sound : (width : ℕ) → IsSoundState i (state_next width s) lasts
  unfolding with_next
  next_sound width = record { tied = k.tied; time = k.time; many = k.many; ticks = k.ticks; last = k.last; from = k.from }

  pub ended_sound : IsSoundState i (state_ended s) lasts
  unfolding with_search_end
  ended_sound = record { tied = k.tied; time = k.time; many = k.many; ticks = k.ticks; last = k.last; from = k.from }
