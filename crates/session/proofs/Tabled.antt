-- A table stays a state's, step by step.
use Rattle.std.proofs.Common.{◌≡◌, ℕ, ◌+◌, ◌-◌, ◌≤◌, List, [], ◌∷◌, ◌++◌, refl, sym, ap, ◌∙◌, subst, length, arith}
use Rattle.std.specs.Prelude.{Bool, true, false, cond, nat_le, nat_lt, replicate}
use Rattle.std.specs.List.{AllByRecursion}
use Rattle.std.proofs.lemmas.List.{length-append, length-map}
use Rattle.fold_hist.specs.declared.bin.Bin.{Bin}
use Rattle.pn_types.specs.declared.limits.TheConstants.{MAX_BUDGET}
use Rattle.machine.specs.Events.{IsQuiet}
use Rattle.mdl_check.specs.declared.checked.CheckedWish.{CheckedWish}
use Rattle.session_spec.specs.Inputs.{Inputs}
use Rattle.session_spec.specs.States.{SessionState, State}
use Rattle.session_spec.specs.Admission.{with_admission}
use Rattle.session_spec.specs.Due.{with_arms, with_frees, with_next, with_samples}
use Rattle.session_spec.specs.Plans.{ArePlansGood}
use Rattle.session_spec.specs.Readings.{lasts_armed, lasts_now, lasts_with, recorded_read, ticks_of}
use Rattle.session_spec.specs.Reads.{IsSoundState, latest_read, marks_of, nodes_read}
use Rattle.session_spec.specs.Turns.{with_entries, with_hart, with_quiet}
use Rattle.session_spec.specs.Verdicts.{with_search_end, with_verdicts}
use Rattle.session_spec.specs.Work.{final_state, is_due, state_admitted, state_armed, state_done, state_ended, state_handed, state_judged, state_last, state_next, state_quiet, state_sampled, state_turned, state_worked, after_quantum, tests_now, with_room}
use Rattle.session_spec.proofs.Measured.{latest_now, marks_admitted, marks_armed, marks_ended, marks_judged, marks_next, marks_quiet, marks_sampled, marks_turned, nodes_now, recorded_now}
use Rattle.session_spec.proofs.Sound.{admitted_sound, armed_sound, ended_sound, handed_sound, is_quiet, judged_sound, next_sound, quiet_sound, sampled_sound, turned_sound}
use Rattle.session_pairs.specs.declared.pair.SampledPair.{SampledPair}
use Rattle.session.specs.Kept.{IsSoundPair}
use Rattle.session.specs.Tables.{AreFolded, IsMore, IsNew, IsTableOf, StateTable, kept_of, lasts_in, shown_in, table_armed, table_begun, table_closed, table_ended, table_freed, table_judged, table_last, table_next, table_quiet, table_sampled, table_tended, table_worked}
use Rattle.session.proofs.Admitted.{lasts_more}
use Rattle.session.proofs.Simulated.{IsOf, armed_is, ended_is, folded_armed, folded_sampled, freed_is, judged_is, lasts_all, lasts_sampled, latest_sampled, next_is, quiet_is, sampled_is, tests_sampled, turned_is}
use Rattle.session.proofs.SoundPairs.{all_of, all_sampled}

-- ---- an admission

-- new pairs have no sample
folded_new : (i : Inputs) (more : List SampledPair) → AllByRecursion (IsNew i) more → AreFolded i more (replicate (length more) [])
folded_new i [] a = tt
folded_new i (k ∷ more) a = ((a.0).hist, folded_new i more a.1)

folded_both : (i : Inputs) (old more : List SampledPair) (rs ss : List (List Bin)) → AreFolded i old rs → AreFolded i more ss → AreFolded i (old ++ more) (rs ++ ss)
folded_both i [] more [] ss f g = g
folded_both i [] more (r ∷ rs) ss f g = absurd f
folded_both i (k ∷ old) more [] ss f g = absurd f
folded_both i (k ∷ old) more (r ∷ rs) ss f g = (f.0, folded_both i old more rs ss f.1 g)

folded_many : (i : Inputs) (pairs : List SampledPair) (rs : List (List Bin)) → AreFolded i pairs rs → length rs ≡ length pairs
folded_many i [] [] f = refl
folded_many i [] (r ∷ rs) f = absurd f
folded_many i (k ∷ pairs) [] f = absurd f
folded_many i (k ∷ pairs) (r ∷ rs) f = let e = folded_many i pairs rs f.1 in omega arith

folded_more : (i : Inputs) (old new : List SampledPair) (rs : List (List Bin)) → IsMore i old new → AreFolded i old rs → AreFolded i new (with_room (shown_in new) rs)
folded_more i old new rs m f =
    let many = folded_many i old rs f in
    let shown = length-map new (λ (k : SampledPair). k.shown) in
    let len = ap (λ (l : List SampledPair). length l) m.is ∙ length-append old m.more in
    let n : length (shown_in new) - length rs ≡ length m.more = omega arith in
    subst (λ (l : List SampledPair). AreFolded i l (with_room (shown_in new) rs)) (sym m.is)
    (subst (λ (c : ℕ). AreFolded i (old ++ m.more) (rs ++ replicate c [])) (sym n) (folded_both i old m.more rs (replicate (length m.more) []) f (folded_new i m.more m.each)))

module _ (i : Inputs) (later left : List CheckedWish) (s : State) (t new : StateTable) (k : IsTableOf i s later t) where
  pub admitted_table : ArePlansGood i → kept_of left new ≡ with_admission i (kept_of later t) → IsMore i t.pairs new.pairs → new.latest ≡ t.latest → new.marks ≡ t.marks → IsTableOf i (state_admitted i s) left new
  admitted_table good kept more latest marks =
      let is : kept_of left new ≡ with_admission i s.kept = kept ∙ ap (with_admission i) k.kept in
      let shown : shown_in new.pairs ≡ (with_admission i s.kept).shown = ap (λ (x : SessionState). x.shown) is in
      record {
        kept = is;
        hists = subst (λ ss. AreFolded i new.pairs (with_room ss s.recorded)) shown (folded_more i t.pairs new.pairs s.recorded more k.hists);
        latest = latest ∙ k.latest;
        marks = marks ∙ (k.marks ∙ marks_admitted i s (lasts_in t.pairs) k.sound);
        sound = subst (IsSoundState i (state_admitted i s)) (sym (lasts_more i t.pairs new.pairs more ∙ ap (λ ss. lasts_with ss (lasts_in t.pairs)) shown)) (admitted_sound i s (lasts_in t.pairs) k.sound good);
      }

-- ---- the steps

module _ (i : Inputs) (later : List CheckedWish) (s : State) (t : StateTable) (k : IsTableOf i s later t) where
  abbrev lasts : List ℕ
  lasts = lasts_in t.pairs

  turned_table : (h n : ℕ) → IsTableOf i (state_handed (state_turned h n s)) later (table_begun h n t)
  turned_table h n = record {
    kept = turned_is i later t h n ∙ ap (λ x. with_entries (with_hart h n x)) k.kept;
    hists = k.hists;
    latest = k.latest;
    marks = k.marks ∙ marks_turned i s lasts k.sound h n;
    sound = handed_sound i (state_turned h n s) lasts (turned_sound i s lasts k.sound h n);
  }

  quiet_table : IsTableOf i (state_quiet s) later (table_quiet t)
  quiet_table = record {
    kept = quiet_is i later t ∙ ap with_quiet k.kept;
    hists = k.hists;
    latest = k.latest;
    marks = k.marks ∙ marks_quiet i s lasts k.sound;
    sound = quiet_sound i s lasts k.sound;
  }

  judged_table : IsTableOf i (state_judged t.tests s) later (table_judged t)
  judged_table = record {
    kept = judged_is i later t ∙ ap (with_verdicts t.tests) k.kept;
    hists = k.hists;
    latest = k.latest;
    marks = k.marks ∙ marks_judged i s lasts k.sound t.tests;
    sound = judged_sound i s lasts k.sound t.tests;
  }

  next_table : (width : ℕ) → IsTableOf i (state_next width s) later (table_next width t)
  next_table width = record {
    kept = next_is i later t width ∙ ap (with_next width) k.kept;
    hists = k.hists;
    latest = k.latest;
    marks = k.marks ∙ marks_next i s lasts k.sound width;
    sound = next_sound i s lasts k.sound width;
  }

  ended_table : IsTableOf i (state_ended s) later (table_ended t)
  ended_table = record {
    kept = ended_is i later t ∙ ap with_search_end k.kept;
    hists = k.hists;
    latest = k.latest;
    marks = k.marks ∙ marks_ended i s lasts k.sound;
    sound = ended_sound i s lasts k.sound;
  }

  module _ (quiet : IsQuiet s.kept.machine.core) (of : AllByRecursion (IsOf i) t.pairs) where
    sampled_table : i.settings.budget ≤ MAX_BUDGET → 1 ≤ i.settings.bins → IsTableOf i (state_sampled i s) later (table_sampled t)
    sampled_table low some =
        let recorded = subst (λ (x : SessionState). recorded_read i x.machine x.time x.shown lasts s.recorded ≡ (state_sampled i s).recorded) (sym k.kept) (recorded_now i s lasts k.sound quiet low) in
        let latest = subst (λ (x : SessionState). latest_read 0 i x.machine x.time x.shown lasts ≡ (state_sampled i s).latest) (sym k.kept) (latest_now i s lasts k.sound quiet low) in
        let read : lasts_in (table_sampled t).pairs ≡ lasts_now i s.kept.machine s.kept.shown lasts =
        lasts_sampled i t.machine.state t.time t.pairs of ∙ ap (λ (x : SessionState). lasts_now i x.machine x.shown lasts) k.kept in
        record {
          kept = sampled_is i later t of ∙ ap with_samples k.kept;
          hists = subst (AreFolded i (table_sampled t).pairs) recorded (folded_sampled i t.machine.state t.time some t.pairs of s.recorded k.hists);
          latest = latest_sampled i t.machine.state t.time 0 t.pairs of ∙ latest;
          marks = ap (λ (x : SessionState). ticks_of x.machine) k.kept ∙ marks_sampled i s lasts k.sound;
          sound = subst (IsSoundState i (state_sampled i s)) (sym read) (sampled_sound i s lasts k.sound quiet);
        }

    tests_are : i.settings.budget ≤ MAX_BUDGET → (table_sampled t).tests ≡ tests_now i s
    tests_are low =
        tests_sampled i t.machine.state t.time t.marks t.pairs of
        ∙ (ap (λ marks. nodes_read i t.machine.state t.time marks (shown_in t.pairs) lasts) k.marks
        ∙ subst (λ (x : SessionState). nodes_read i x.machine x.time (marks_of i s) x.shown lasts ≡ tests_now i s) (sym k.kept) (nodes_now i s lasts k.sound quiet low))

    armed_table : s.kept.last ≡ s.kept.time → IsTableOf i (state_armed s) later (table_armed (table_freed t))
    armed_table now =
        let f = table_freed t in
        let freed : kept_of later f ≡ with_frees s.kept = freed_is i later t ∙ ap with_frees k.kept in
        let read : lasts_in (table_armed f).pairs ≡ lasts_armed i (with_frees s.kept).machine (with_frees s.kept).shown lasts =
        lasts_all i t.time f.machine.state t.pairs of ∙ ap (λ (x : SessionState). lasts_armed i x.machine x.shown lasts) freed in
        record {
          kept = armed_is i later f of ∙ ap with_arms freed;
          hists = folded_armed i t.time f.machine.state t.pairs of s.recorded k.hists;
          latest = k.latest;
          marks = k.marks ∙ marks_armed i s lasts k.sound;
          sound = subst (IsSoundState i (state_armed s)) (sym read) (armed_sound i s lasts k.sound quiet now);
        }

-- ---- the due work, and the last samples, of a quiet machine

same_quiet : (i : Inputs) (s : State) → IsQuiet s.kept.machine.core → IsQuiet (state_sampled i s).kept.machine.core
unfolding with_samples
same_quiet i s q = q

-- samples are the last ones, now
sampled_now : (i : Inputs) (s : State) → (state_sampled i s).kept.last ≡ (state_sampled i s).kept.time
unfolding with_samples
sampled_now i s = refl

module _ (i : Inputs) (low : i.settings.budget ≤ MAX_BUDGET) (some : 1 ≤ i.settings.bins) (later : List CheckedWish) where
  module _ (s : State) (t : StateTable) (k : IsTableOf i s later t) (quiet : IsQuiet s.kept.machine.core) (of : AllByRecursion (IsSoundPair i t.samples) t.pairs) where
    abbrev sampled : StateTable
    sampled = table_sampled t

    tests : sampled.tests ≡ tests_now i s
    tests = tests_are i later s t k quiet (all_of i t.samples t.pairs of) low

    samples : IsTableOf i (state_sampled i s) later sampled
    samples = sampled_table i later s t k quiet (all_of i t.samples t.pairs of) low some

    done : IsTableOf i (state_done i s) later (table_next i.settings.width (table_judged (table_armed (table_freed sampled))))
    done =
        let armed = armed_table i later (state_sampled i s) sampled samples (same_quiet i s quiet) (all_of i (t.samples + 1) sampled.pairs (all_sampled i t.samples t.machine.state t.time t.pairs of)) (sampled_now i s) in
        let judged = judged_table i later (state_armed (state_sampled i s)) (table_armed (table_freed sampled)) armed in
        subst (λ ns. IsTableOf i (state_next i.settings.width (state_judged ns (state_armed (state_sampled i s)))) later (table_next i.settings.width (table_judged (table_armed (table_freed sampled))))) tests
        (next_table i later (state_judged sampled.tests (state_armed (state_sampled i s))) (table_judged (table_armed (table_freed sampled))) judged i.settings.width)

    last : IsTableOf i (state_last i s) later (table_last t)
    last = subst (λ ns. IsTableOf i (state_judged ns (state_sampled i s)) later (table_last t)) tests (judged_table i later (state_sampled i s) sampled samples)

  -- ---- a quantum, and the end

  module _ (s : State) (t : StateTable) (k : IsTableOf i s later t) (of : AllByRecursion (IsSoundPair i t.samples) t.pairs) where
    abbrev settled : StateTable
    settled = table_quiet t

    settles : IsTableOf i (state_quiet s) later settled
    settles = quiet_table i later s t k

    quiet : IsQuiet (state_quiet s).kept.machine.core
    quiet = is_quiet i s (lasts_in t.pairs) k.sound

    worked_table : IsTableOf i (state_worked i s) later (cond (nat_le t.due t.time) (table_worked i.settings.width t) t)
    worked_table =
        subst (λ (x : SessionState). IsTableOf i (cond (is_due x) (state_done i (state_quiet s)) s) later (cond (nat_le t.due t.time) (table_worked i.settings.width t) t)) k.kept (by (nat_le t.due t.time))
      where
        by : (b : Bool) → IsTableOf i (cond b (state_done i (state_quiet s)) s) later (cond b (table_worked i.settings.width t) t)
        by true = done (state_quiet s) settled settles quiet of
        by false = k

    if_last : IsTableOf i (cond (nat_lt (state_quiet s).kept.last (state_quiet s).kept.time) (state_last i (state_quiet s)) (state_quiet s)) later (cond (nat_lt settled.last settled.time) (table_last settled) settled)
    if_last =
        subst (λ (x : SessionState). IsTableOf i (cond (nat_lt x.last x.time) (state_last i (state_quiet s)) (state_quiet s)) later (cond (nat_lt settled.last settled.time) (table_last settled) settled)) settles.kept
        (by (nat_lt settled.last settled.time))
      where
        by : (b : Bool) → IsTableOf i (cond b (state_last i (state_quiet s)) (state_quiet s)) later (cond b (table_last settled) settled)
        by true = last (state_quiet s) settled settles quiet of
        by false = settles

    -- The end.
    pub closed_table : IsTableOf i (final_state i s) later (table_closed t)
    unfolding final_state
    closed_table =
        ended_table i later (cond (nat_lt (state_quiet s).kept.last (state_quiet s).kept.time) (state_last i (state_quiet s)) (state_quiet s)) (cond (nat_lt settled.last settled.time) (table_last settled) settled) if_last

  -- A quantum after its admission.
  pub tended_table : (s : State) (t : StateTable) → IsTableOf i (state_admitted i s) later t → AllByRecursion (IsSoundPair i t.samples) t.pairs → (h n : ℕ) → IsTableOf i (after_quantum i h n s) later (table_tended i.settings.width h n t)
  unfolding after_quantum
  tended_table s t k of h n = worked_table (state_handed (state_turned h n (state_admitted i s))) (table_begun h n t) (turned_table i later (state_admitted i s) t k h n) of
