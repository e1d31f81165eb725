-- What a quantum and the end add to the samples.
use Rattle.std.proofs.Common.{◌≡◌, ◌≢◌, ◌⊎◌, inl, inr, ◌∙◌, ℕ, ◌+◌, ◌-◌, ◌^◌, ◌≤◌, List, [], ◌∷◌, ◌++◌, length, length-append, refl, sym, ap, subst, arith}
use Rattle.std.specs.Prelude.{Bool, true, false, cond, min, nat_lt}
use Rattle.std.proofs.lemmas.Bool.{cases_eq}
use Rattle.pn_types.specs.declared.quantum.Quantum.{Quantum}
use Rattle.session_spec.specs.Inputs.{Inputs}
use Rattle.session_spec.specs.States.{State}
use Rattle.session_spec.specs.Turns.{with_entries, with_hart, with_quiet}
use Rattle.session_spec.specs.Due.{with_arms, with_frees, with_next, with_samples}
use Rattle.session_spec.specs.Verdicts.{with_search_end}
use Rattle.session_spec.specs.Work.{final_state, is_due, state_admitted, state_armed, state_done, state_ended, state_handed, state_judged, state_last, state_next, state_quiet, state_sampled, state_turned, after_quantum, tests_now, after_quanta}
use Rattle.session.specs.Sessions.{SessionData, new_session, session_at, state_of}
use Rattle.whole_run.proofs.Ordered.{work_push}
use Rattle.session_spec.specs.declared.data.LatestSample.{LatestSample}
use Rattle.visi_run.specs.Readings.{MayFollow}
use Rattle.visi_run.specs.Feed.{feed_of, last_reading, reading_of}
use Rattle.visi_run.specs.Steps.{IsSampleStep}
use Rattle.visi_run.proofs.Sampling.{Same, admission_same, opened_early, verdicts_same}

-- no samples were taken, and time went on
record Idle (s t : State) : Type 0 where
  time : s.kept.time ≤ t.kept.time
  samples : t.kept.samples ≡ s.kept.samples
  feed : t.feed ≡ s.feed

idles : (s t u : State) → Idle s t → Idle t u → Idle s u
idles s t u a b = let x = a.time in let y = b.time in record { time = omega arith; samples = b.samples ∙ a.samples; feed = b.feed ∙ a.feed }

step_idle : (s t : State) → Idle s t → IsSampleStep s t
step_idle s t a = record { time = a.time; none = λ _. a.feed; some = λ risen. absurd (risen a.samples) }

admitted_idle : (i : Inputs) (s : State) → Idle s (state_admitted i s)
admitted_idle i s = let e = admission_same i s.kept in let t = e.1 in record { time = omega arith; samples = e.0; feed = refl }

turned_idle : (h n : ℕ) (s : State) → Idle s (state_turned h n s)
unfolding with_hart
turned_idle h n s = record { time = omega arith; samples = refl; feed = refl }

handed_idle : (s : State) → Idle s (state_handed s)
unfolding with_entries
handed_idle s = record { time = omega arith; samples = refl; feed = refl }

quiet_idle : (s : State) → Idle s (state_quiet s)
unfolding with_quiet
quiet_idle s = record { time = omega arith; samples = refl; feed = refl }

-- all that is armed was sampled
record Sampled (s t : State) : Type 0 where
  time : t.kept.time ≡ s.kept.time
  samples : t.kept.samples ≡ s.kept.samples + 1
  feed : t.feed ≡ s.feed ++ t.latest

sampled_is : (i : Inputs) (s : State) → Sampled s (state_sampled i s)
unfolding with_samples
sampled_is i s = record { time = refl; samples = refl; feed = refl }

-- the rest of the work takes no time and no samples
record Beside (s t : State) : Type 0 where
  kept : Same s.kept t.kept
  feed : t.feed ≡ s.feed
  latest : t.latest ≡ s.latest

armed_beside : (s : State) → Beside s (state_armed s)
unfolding with_arms with_frees
armed_beside s = record { kept = (refl, refl); feed = refl; latest = refl }

next_beside : (width : ℕ) (s : State) → Beside s (state_next width s)
unfolding with_next
next_beside width s = record { kept = (refl, refl); feed = refl; latest = refl }

ended_idle : (s : State) → Idle s (state_ended s)
unfolding with_search_end
ended_idle s = record { time = omega arith; samples = refl; feed = refl }

step_sampled : (s q m t : State) → Idle s q → Sampled q m → Beside m t → IsSampleStep s t
step_sampled s q m t a b c =
    let time = a.time in let now = b.time in let same = c.kept.1 in
    let before = a.samples in let more = b.samples in let still = c.kept.0 in
    record {
      time = omega arith;
      none = λ e. absurd (omega arith);
      some = λ _. c.feed ∙ (b.feed ∙ (λ k. a.feed k ++ sym c.latest k));
    }

done_step : (i : Inputs) (s t : State) → Idle s t → IsSampleStep s (state_done i t)
done_step i s t a =
    let m = state_sampled i t in
    let r = state_armed m in
    let j = state_judged (tests_now i t) r in
    let armed = armed_beside m in
    let judged = verdicts_same (tests_now i t) r.kept in
    let next = next_beside i.settings.width j in
    step_sampled s t m (state_next i.settings.width j) a (sampled_is i t)
    (record { kept = (next.kept.0 ∙ (judged.0 ∙ armed.kept.0), next.kept.1 ∙ (judged.1 ∙ armed.kept.1)); feed = next.feed ∙ armed.feed; latest = next.latest ∙ armed.latest })

-- a quantum
pub tend_step : (i : Inputs) (h n : ℕ) (s : State) → IsSampleStep s (after_quantum i h n s)
unfolding after_quantum
tend_step i h n s = by (is_due t.kept)
  where
    a : State
    a = state_admitted i s

    u : State
    u = state_turned h n a

    t : State
    t = state_handed u

    idle : Idle s t
    idle = idles s a t (admitted_idle i s) (idles a u t (turned_idle h n a) (handed_idle u))

    by : (b : Bool) → IsSampleStep s (cond b (state_done i (state_quiet t)) t)
    by true = done_step i s (state_quiet t) (idles s t (state_quiet t) idle (quiet_idle t))
    by false = step_idle s t idle

-- the end
step_ended : (s t : State) → IsSampleStep s t → IsSampleStep s (state_ended t)
unfolding with_search_end
step_ended s t a = record { time = a.time; none = a.none; some = a.some }

pub closed_step : (i : Inputs) (s : State) → IsSampleStep s (final_state i s)
unfolding final_state
closed_step i s = by (nat_lt q.kept.last q.kept.time)
  where
    q : State
    q = state_quiet s

    by : (b : Bool) → IsSampleStep s (state_ended (cond b (state_last i q) q))
    by true =
        let m = state_sampled i q in
        step_ended s (state_last i q) (step_sampled s q m (state_last i q) (quiet_idle s) (sampled_is i q) (record { kept = verdicts_same (tests_now i q) m.kept; feed = refl; latest = refl }))
    by false = step_ended s q (step_idle s q (quiet_idle s))

-- ---- of a session

open_state : (s : SessionData) → s.closed ≡ false → state_of s ≡ after_quanta s.inputs s.quanta
open_state s e = ap (λ b. cond b (final_state s.inputs (after_quanta s.inputs s.quanta)) (after_quanta s.inputs s.quanta)) e

pub closed_state : (s : SessionData) → s.closed ≡ true → state_of s ≡ final_state s.inputs (after_quanta s.inputs s.quanta)
closed_state s e = ap (λ b. cond b (final_state s.inputs (after_quanta s.inputs s.quanta)) (after_quanta s.inputs s.quanta)) e

pub quantum_step : (s t : SessionData) (q : Quantum) → s.closed ≡ false → t.closed ≡ false → t.inputs ≡ s.inputs → t.quanta ≡ s.quanta ++ q ∷ [] → IsSampleStep (state_of s) (state_of t)
quantum_step s t q a b same more =
    let was = open_state s a in
    let now : state_of t ≡ after_quantum s.inputs q.hart q.turns (after_quanta s.inputs s.quanta) = open_state t b ∙ ((λ k. after_quanta (same k) (more k)) ∙ work_push s.inputs s.quanta q) in
    subst (λ (x : State). IsSampleStep x (state_of t)) (sym was) (subst (λ (x : State). IsSampleStep (after_quanta s.inputs s.quanta) x) (sym now) (tend_step s.inputs q.hart q.turns (after_quanta s.inputs s.quanta)))

pub close_step : (s t : SessionData) → s.closed ≡ false → t ≡ session_at s.inputs s.quanta true → IsSampleStep (state_of s) (state_of t)
close_step s t a is =
    subst (λ (x : State). IsSampleStep x (state_of t)) (sym (open_state s a))
    (subst (λ (x : SessionData). IsSampleStep (after_quanta s.inputs s.quanta) (state_of x)) (sym is) (closed_step s.inputs (after_quanta s.inputs s.quanta)))

-- the feed of a session that was closed
pub feed_is : (s : SessionData) → s.closed ≡ true → (state_of s).feed ≡ feed_of s.inputs s.quanta
unfolding feed_of
feed_is s e = ap (λ (x : State). x.feed) (closed_state s e)

-- the gauge of a session that was closed
pub last_is : (s : SessionData) → s.closed ≡ true → reading_of (state_of s) true ≡ last_reading s.inputs s.quanta
unfolding last_reading
last_is s e = ap (λ (x : State). reading_of x true) (closed_state s e)

-- the gauge counts the feed at last
pub last_count : (i : Inputs) (quanta : List Quantum) → (last_reading i quanta).published ≡ min (length (feed_of i quanta)) (2 ^ 64 - 1)
unfolding last_reading feed_of
last_count i quanta = refl

-- one that just began has none
pub begun_feed : (s : SessionData) → s ≡ new_session s.inputs → (state_of s).feed ≡ []
unfolding after_quanta
begun_feed s e = ap (λ (x : SessionData). (state_of x).feed) e

-- it is at time 0
pub begun_time : (s : SessionData) → s ≡ new_session s.inputs → (state_of s).kept.time ≡ 0
unfolding after_quanta
begun_time s e = ap (λ (x : SessionData). (state_of x).kept.time) e ∙ opened_early s.inputs

-- the gauge after a step may follow the one before it
pub reading_follows : (s t : State) (ended : Bool) → IsSampleStep s t → MayFollow (reading_of s false) (reading_of t ended)
reading_follows s t ended step = (refl, more, step.time)
  where
    longer : (t.kept.samples ≡ s.kept.samples) ⊎ (t.kept.samples ≢ s.kept.samples) → length s.feed ≤ length t.feed
    longer (inl same) = omega (arith, ap (λ (l : List LatestSample). length l) (step.none same))
    longer (inr risen) = omega (arith, ap (λ (l : List LatestSample). length l) (step.some risen), length-append s.feed t.latest)

    more : min (length s.feed) (2 ^ 64 - 1) ≤ min (length t.feed) (2 ^ 64 - 1)
    more = let l = longer (cases_eq t.kept.samples s.kept.samples) in grind arith
