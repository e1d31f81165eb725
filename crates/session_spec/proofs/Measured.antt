-- What the code reads and keeps of a session, step by step, is the state's.
use Rattle.std.proofs.Common.{◌≡◌, ℕ, ◌≤◌, List, ◌++◌, refl, sym, ap, ◌∙◌, subst, arith, map, take}
use Rattle.std.specs.List.{range_with_len}
use Rattle.std.proofs.lemmas.List.{take-append-le, take_all}
use Rattle.pn_types.specs.declared.limits.TheConstants.{MAX_BUDGET}
use Rattle.machine.specs.Events.{IsQuiet}
use Rattle.machine.specs.Replays.{owns}
use Rattle.machine.specs.States.{quantum_turns, settling}
use Rattle.w3_search.specs.declared.node.NodeSample.{NodeSample}
use Rattle.session_spec.specs.Inputs.{Inputs}
use Rattle.session_spec.specs.States.{State}
use Rattle.session_spec.specs.Turns.{with_entries, with_hart, with_quiet}
use Rattle.session_spec.specs.Due.{latest_from, recorded_with, with_arms, with_frees, with_next, with_samples}
use Rattle.session_spec.specs.Verdicts.{node_samples, with_search_end}
use Rattle.session_spec.specs.Work.{samples_now, state_admitted, state_armed, state_ended, state_handed, state_judged, state_next, state_quiet, state_sampled, state_turned, tests_now}
use Rattle.session_spec.specs.Readings.{recorded_read, ticks_of}
use Rattle.session_spec.specs.Reads.{IsSoundState, latest_read, marks_of, nodes_read, ticks_by}
use Rattle.session_spec.proofs.Counting.{nodes_are}
use Rattle.session_spec.proofs.Going.{admission_once}
use Rattle.session_spec.proofs.Samples.{latest_is, recorded_is}
use Rattle.session_spec.proofs.Testing.{verdicts_judged}

-- how many ticks each hart has in a run
abbrev marks_in : Inputs → List ℕ → List ℕ
marks_in i own = map (ticks_by own) (range_with_len 0 i.settings.harts)

module _ (i : Inputs) (s : State) (lasts : List ℕ) (k : IsSoundState i s lasts) where
  -- ---- how many ticks each hart had at the last sample

  -- what the run goes on by is no part of it
  marks_stay : (more : List ℕ) → marks_of i s ≡ marks_in i (take s.kept.last (s.owns ++ more))
  marks_stay more = ap (marks_in i) (sym (take-append-le s.kept.last s.owns more (let low = k.last in let time = k.time in omega arith)))

  pub marks_admitted : marks_of i s ≡ marks_of i (state_admitted i s)
  marks_admitted = ap (λ last. marks_in i (take last s.owns)) (sym (admission_once i s.kept).last)

  pub marks_turned : (h n : ℕ) → marks_of i s ≡ marks_of i (state_handed (state_turned h n s))
  unfolding with_hart with_entries
  marks_turned h n = marks_stay (owns (quantum_turns n h s.kept.machine.core) s.kept.machine.core)

  pub marks_quiet : marks_of i s ≡ marks_of i (state_quiet s)
  unfolding with_quiet
  marks_quiet = marks_stay (owns (settling s.kept.machine.core) s.kept.machine.core)

  pub marks_sampled : ticks_of s.kept.machine ≡ marks_of i (state_sampled i s)
  unfolding with_samples
  marks_sampled = k.ticks ∙ ap (marks_in i) (sym (take_all s.kept.time s.owns (let time = k.time in omega arith)))

  pub marks_armed : marks_of i s ≡ marks_of i (state_armed s)
  unfolding with_frees with_arms
  marks_armed = refl

  pub marks_judged : (samples : List NodeSample) → marks_of i s ≡ marks_of i (state_judged samples s)
  marks_judged samples = ap (λ (last : ℕ). marks_in i (take last s.owns)) (sym (verdicts_judged i s.owns lasts samples s.kept k.tied).once.last)

  pub marks_next : (width : ℕ) → marks_of i s ≡ marks_of i (state_next width s)
  unfolding with_next
  marks_next width = refl

  pub marks_ended : marks_of i s ≡ marks_of i (state_ended s)
  unfolding with_search_end
  marks_ended = refl

  -- ---- what is read is what was measured

  module _ (quiet : IsQuiet s.kept.machine.core) (low : i.settings.budget ≤ MAX_BUDGET) where
    pub recorded_now : recorded_read i s.kept.machine s.kept.time s.kept.shown lasts s.recorded ≡ recorded_with i s.kept.machine.placer s.owns s.kept.time s.kept.shown s.recorded
    recorded_now = subst (λ (time : ℕ). recorded_read i s.kept.machine time s.kept.shown lasts s.recorded ≡ recorded_with i s.kept.machine.placer s.owns time s.kept.shown s.recorded) (sym k.time)
        (recorded_is i s.kept.machine s.owns s.kept.shown lasts k.tied quiet low s.kept.shown lasts s.recorded k.tied.shown)

    pub latest_now : latest_read 0 i s.kept.machine s.kept.time s.kept.shown lasts ≡ samples_now i s
    latest_now = subst (λ (time : ℕ). latest_read 0 i s.kept.machine time s.kept.shown lasts ≡ latest_from 0 i s.kept.machine.placer s.owns time s.kept.shown) (sym k.time)
        (latest_is i s.kept.machine s.owns s.kept.shown lasts k.tied quiet low 0 s.kept.shown lasts k.tied.shown)

    -- of the nodes under test
    pub nodes_now : nodes_read i s.kept.machine s.kept.time (marks_of i s) s.kept.shown lasts ≡ tests_now i s
    nodes_now = subst (λ (time : ℕ). nodes_read i s.kept.machine time (marks_of i s) s.kept.shown lasts ≡ node_samples i s.kept.machine.placer s.owns time s.kept.shown) (sym k.time)
        (nodes_are i s.kept.machine s.owns s.kept.shown lasts k.tied s.kept.last quiet low s.kept.shown lasts k.tied.shown k.from)
