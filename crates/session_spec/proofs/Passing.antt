-- Time passes between the samples of an instrument: none of them is empty.
use Rattle.std.proofs.Common.{◌≡◌, ℕ, zero, suc, ◌+◌, ◌-◌, ◌/◌, ◌<◌, ◌≤◌, Some, List, [], ◌∷◌, ◌++◌, length, map, refl, sym, subst, ◌∙◌, arith}
use Rattle.std.specs.Prelude.{Bool, true, false, cond, nat_lt, replicate}
use Rattle.std.proofs.lemmas.Bool.{cond_both, leb-true, ltb-true}
use Rattle.std.proofs.lemmas.Nat.{le-div}
use Rattle.fold_hist.specs.declared.bin.Bin.{Bin}
use Rattle.pn_types.specs.declared.quantum.Quantum.{Quantum}
use Rattle.instrument.specs.Placements.{Placements}
use Rattle.instrumented.specs.Instrumented.{Instrumented}
use Rattle.w3_search.specs.Steps.{search_step}
use Rattle.w3_search.specs.declared.node.NodeSample.{NodeSample}
use Rattle.session_spec.specs.declared.data.MetricFocusPair.{MetricFocusPair}
use Rattle.session_spec.specs.Inputs.{Inputs, first_wishes}
use Rattle.session_spec.specs.States.{SessionState, State, first_kept}
use Rattle.session_spec.specs.Turns.{with_entries, with_hart, with_quiet}
use Rattle.session_spec.specs.Admission.{with_admission, shown_next}
use Rattle.session_spec.specs.Due.{all_armed, is_armed, is_ready, machine_armed, next_due, recorded_with, sample_of, sampled_to, with_arms, with_frees, with_next, with_samples}
use Rattle.session_spec.specs.Opening.{opening_state, wished, with_agenda}
use Rattle.session_spec.specs.Tests.{tests_next, with_tests}
use Rattle.session_spec.specs.Verdicts.{with_verdicts}
use Rattle.session_spec.specs.Work.{final_state, first_state, is_due, state_admitted, state_done, state_ended, state_handed, state_last, state_quiet, state_turned, state_worked, after_quantum, tests_now, after_quanta, after_quanta_from}
use Rattle.session_spec.proofs.Testing.{tests_once}
use Rattle.session_spec.proofs.Wishing.{all_once}
use Rattle.session_spec.proofs.AdmittingSteps.{Keeps, admission_kept, all_kept, of_nodes, of_wishes, tests_kept}
use Rattle.session_spec.proofs.Leaving.{tests_alone}
use Rattle.session_spec.proofs.Intervals.{NoneEmpty, NoneEmptyIn}

-- ---- instruments

-- none of these was armed or sampled later
abbrev AreUntil : ℕ → List MetricFocusPair → Type 0
AreUntil last [] = Unit {0}
AreUntil last (x ∷ xs) = (x.from ≤ last) × AreUntil last xs

until_push : (last : ℕ) (xs : List MetricFocusPair) (x : MetricFocusPair) → x.from ≤ last → AreUntil last xs → AreUntil last (xs ++ x ∷ [])
until_push last [] x l u = (l, tt)
until_push last (y ∷ xs) x l u = (u.0, until_push last xs x l u.1)

until_sampled : (p : Placements) (last time : ℕ) (xs : List MetricFocusPair) → last ≤ time → AreUntil last xs → AreUntil time (map (sampled_to p time) xs)
until_sampled p last time [] l u = tt
until_sampled p last time (x ∷ xs) l u = (by (is_armed p x), until_sampled p last time xs l u.1)
  where
    by : (b : Bool) → (cond b (record x { from = time }) x).from ≤ time
    by true = omega arith
    by false = omega (arith, u.0, l)

until_armed : (last time : ℕ) (m : Instrumented) (xs : List MetricFocusPair) → time ≤ last → AreUntil last xs → AreUntil last (all_armed time m xs)
until_armed last time m [] l u = tt
until_armed last time m (x ∷ xs) l u = (by (is_ready m x), until_armed last time (machine_armed m x) xs l u.1)
  where
    by : (b : Bool) → (cond b (record x { armed = Some time; from = time }) x).from ≤ last
    by true = l
    by false = u.0

-- ---- samples

none_push : (bs : List Bin) (b : Bin) → b.from < b.to → NoneEmpty bs → NoneEmpty (bs ++ b ∷ [])
none_push [] b l n = (l, tt)
none_push (c ∷ bs) b l n = (n.0, none_push bs b l n.1)

none_sampled : (i : Inputs) (p : Placements) (owns : List ℕ) (last time : ℕ) (xs : List MetricFocusPair) (rs : List (List Bin)) → last < time → AreUntil last xs → NoneEmptyIn rs
    → NoneEmptyIn (recorded_with i p owns time xs rs)
none_sampled i p owns last time [] rs l u n = n
none_sampled i p owns last time (x ∷ xs) [] l u n = tt
none_sampled i p owns last time (x ∷ xs) (r ∷ rs) l u n = (by (is_armed p x), none_sampled i p owns last time xs rs l u.1 n.1)
  where
    by : (b : Bool) → NoneEmpty (cond b (r ++ sample_of i owns time x ∷ []) r)
    by true = none_push r (sample_of i owns time x) (omega (arith, u.0, l)) n.0
    by false = n.0

none_room : (k : ℕ) (rs : List (List Bin)) → NoneEmptyIn rs → NoneEmptyIn (rs ++ replicate k [])
none_room zero [] n = tt
none_room (suc k) [] n = (tt, none_room k [] n)
none_room k (r ∷ rs) n = (n.0, none_room k rs n.1)

none_first : (xs : List MetricFocusPair) → NoneEmptyIn (map (λ s. []) xs)
none_first [] = tt
none_first (x ∷ xs) = (tt, none_first xs)

-- ---- the steps of a quantum

-- Between quanta nothing was armed or sampled later than the last samples were taken, and work is due later than that.
record IsPassing (k : SessionState) : Type 0 where
  until : AreUntil k.last k.shown
  due : k.last < k.due

record Passes (s : State) : Type 0 where
  kept : IsPassing s.kept
  none : NoneEmptyIn s.recorded

-- after the samples of a due work
record IsSampled (k : SessionState) : Type 0 where
  until : AreUntil k.last k.shown
  now : k.last ≡ k.time

passing_keeps : (i : Inputs) → Keeps i IsPassing
passing_keeps i = record {
  beside = λ k j b z.
      let due = z.due in
      record { until = subst (λ (xs : List MetricFocusPair). AreUntil j.last xs) (sym b.shown) (subst (λ (t : ℕ). AreUntil t k.shown) (sym b.last) z.until); due = omega (arith, due, b.last, b.due) };
  drops = λ k n z. record { until = z.until; due = z.due };
  wished = λ k plan w placer is e z. record { until = until_push k.last k.shown (shown_next w k) (omega arith) z.until; due = z.due };
  barred = λ k n node cause stands waits by z. record { until = z.until; due = z.due };
  tested = λ k n node plan placer stands waits is room e z. record { until = until_push k.last k.shown (tests_next i n node k) (omega arith) z.until; due = z.due };
}

samples_passed : (k : SessionState) → k.last < k.time → AreUntil k.last k.shown → IsSampled (with_samples k)
unfolding with_samples
samples_passed k l u = record { until = until_sampled k.machine.placer k.last k.time k.shown (omega (arith, l)) u; now = refl }

arms_passed : (k : SessionState) → IsSampled k → IsSampled (with_arms (with_frees k))
unfolding with_arms with_frees
arms_passed k z = let now = z.now in record { until = until_armed k.last k.time (with_frees k).machine k.shown (omega (arith, now)) z.until; now = now }

verdicts_passed : (samples : List NodeSample) (k : SessionState) → IsSampled k → IsSampled (with_verdicts samples k)
unfolding with_verdicts
verdicts_passed samples k z =
    let v = search_step k.time samples k.search in
    subst IsSampled (sym (tests_alone v.drops (record k { search = v }))) (record { until = z.until; now = z.now })

-- work is due later than now
next_later : (width time : ℕ) → 1 ≤ width → time < next_due width time
next_later width time wide = omega (arith, le-div (time / width + 1) time width)

next_passes : (width : ℕ) (k : SessionState) → 1 ≤ width → IsSampled k → IsPassing (with_next width k)
unfolding with_next
next_passes width k wide z = let now = z.now in record { until = z.until; due = omega (arith, now, next_later width k.time wide) }

-- due work comes later than the last samples
due_later : (k : SessionState) → IsPassing k → is_due k ≡ true → (with_quiet k).last < (with_quiet k).time
unfolding with_quiet
due_later k z e =
    let low = z.due in
    let due : k.due ≤ k.time = leb-true k.due k.time e in
    omega (arith, low, due)

module _ (i : Inputs) where
  quiet_passes : (s : State) → Passes s → Passes (state_quiet s)
  unfolding with_quiet
  quiet_passes s z = record { kept = record { until = z.kept.until; due = z.kept.due }; none = z.none }

  turned_passes : (h n : ℕ) (s : State) → Passes s → Passes (state_turned h n s)
  unfolding with_hart
  turned_passes h n s z = record { kept = record { until = z.kept.until; due = z.kept.due }; none = z.none }

  handed_passes : (s : State) → Passes s → Passes (state_handed s)
  unfolding with_entries
  handed_passes s z = record { kept = record { until = z.kept.until; due = z.kept.due }; none = z.none }

  admitted_passes : (s : State) → Passes s → Passes (state_admitted i s)
  admitted_passes s z = record {
    kept = admission_kept i IsPassing (passing_keeps i) s.kept z.kept;
    none = none_room (length (with_admission i s.kept).shown - length s.recorded) s.recorded z.none;
  }

  none_more : (s : State) → s.kept.last < s.kept.time → Passes s → NoneEmptyIn (recorded_with i s.kept.machine.placer s.owns s.kept.time s.kept.shown s.recorded)
  none_more s l z = none_sampled i s.kept.machine.placer s.owns s.kept.last s.kept.time s.kept.shown s.recorded l z.kept.until z.none

  module _ (wide : 1 ≤ i.settings.width) where
    done_passes : (s : State) → s.kept.last < s.kept.time → Passes s → Passes (state_done i s)
    done_passes s l z =
        let sampled = with_samples s.kept in
        let armed = with_arms (with_frees sampled) in
        record {
          kept = next_passes i.settings.width (with_verdicts (tests_now i s) armed) wide
              (verdicts_passed (tests_now i s) armed (arms_passed sampled (samples_passed s.kept l z.kept.until)));
          none = none_more s l z;
        }

    worked_passes : (s : State) → Passes s → Passes (state_worked i s)
    worked_passes s z =
        let q = state_quiet s in
        cond_both (is_due s.kept) (state_done i q) s Passes (λ e. done_passes q (due_later s.kept z.kept e) (quiet_passes s z)) (λ _. z)

    tend_passes : (h n : ℕ) (s : State) → Passes s → Passes (after_quantum i h n s)
    unfolding after_quantum
    tend_passes h n s z =
        let a = state_admitted i s in
        let t = state_turned h n a in
        worked_passes (state_handed t) (handed_passes t (turned_passes h n a (admitted_passes s z)))

    -- ---- all quanta

    picked_passes : IsPassing (with_tests i (wished i))
    unfolding wished
    picked_passes =
        tests_kept i IsPassing (of_nodes i IsPassing (passing_keeps i)) (wished i)
        (all_kept i IsPassing (of_wishes i IsPassing (passing_keeps i)) (first_wishes i) (first_kept i) (record { until = tt; due = wide }))

    picked_early : (with_tests i (wished i)).time ≡ 0
    unfolding wished
    picked_early = (tests_once i (wished i)).time ∙ (all_once i (first_wishes i) (first_kept i)).time

    first_passes : Passes (first_state i)
    unfolding with_agenda with_arms
    first_passes =
        let k = with_tests i (wished i) in
        let z = picked_passes in
        record {
          kept = record { until = until_armed k.last k.time (with_agenda k).machine k.shown (omega (arith, picked_early)) z.until; due = z.due };
          none = none_first (opening_state i).shown;
        }

    from_passes : (quanta : List Quantum) (s : State) → Passes s → Passes (after_quanta_from i quanta s)
    from_passes [] s z = z
    from_passes (q ∷ quanta) s z = from_passes quanta (after_quantum i q.hart q.turns s) (tend_passes q.hart q.turns s z)

    work_passes : (quanta : List Quantum) → Passes (after_quanta i quanta)
    unfolding after_quanta
    work_passes quanta = from_passes quanta (first_state i) first_passes

    -- ---- what is told

    -- after each quantum no sample is empty
    pub none_worked : (quanta : List Quantum) → NoneEmptyIn (after_quanta i quanta).recorded
    none_worked quanta = (work_passes quanta).none

    none_behind : (s : State) → Passes s → NoneEmptyIn (final_state i s).recorded
    unfolding final_state
    none_behind s z =
        let q = state_quiet s in
        let quiet = quiet_passes s z in
        cond_both (nat_lt q.kept.last q.kept.time) (state_last i q) q (λ (x : State). NoneEmptyIn (state_ended x).recorded)
        (λ e. none_more q (ltb-true q.kept.last q.kept.time e) quiet) (λ _. quiet.none)

    -- nor after the end
    pub none_closed : (quanta : List Quantum) → NoneEmptyIn (final_state i (after_quanta i quanta)).recorded
    none_closed quanta = none_behind (after_quanta i quanta) (work_passes quanta)
