-- What was recorded for each instrument stays recorded through each quantum, and through the end.
use Rattle.std.proofs.Common.{◌≡◌, ℕ, ◌+◌, List, [], ◌∷◌, ◌++◌, None, Ok, length, map, refl, sym, ap, subst, ◌∙◌, arith}
use Rattle.std.specs.Prelude.{Option, nat_lt}
use Rattle.std.proofs.lemmas.Bool.{cond_both}
use Rattle.std.proofs.lemmas.List.{length-append}
use Rattle.fold_hist.specs.declared.bin.Bin.{Bin}
use Rattle.pn_types.specs.declared.plan.Plan.{Plan}
use Rattle.pn_types.specs.declared.quantum.Quantum.{Quantum}
use Rattle.machine.specs.Events.{Event}
use Rattle.machine.specs.Replays as replays
use Rattle.machine.specs.States.{quantum_turns, settling}
use Rattle.instrument.specs.Placements.{Placements, admission, or_same, state_of}
use Rattle.instrument.specs.Scenes.{Admits, Drops, Hands, Sweeps}
use Rattle.instrument.specs.declared.number.State.TheVariants.{Placing}
use Rattle.instrument.proofs.Numbers as numbers
use Rattle.instrumented.specs.Instrumented.{Instrumented, after_act, repeated, after_turns}
use Rattle.w3_search.specs.Steps.{SearchData, search_step}
use Rattle.w3_search.specs.declared.node.NodeSample.{NodeSample}
use Rattle.session_spec.specs.declared.data.MetricFocusPair.{MetricFocusPair}
use Rattle.session_spec.specs.Inputs.{Inputs, first_wishes, planned}
use Rattle.session_spec.specs.States.{SessionState, State, first_kept}
use Rattle.session_spec.specs.Turns.{handed_at_once, with_entries, with_hart, with_quiet, with_turns}
use Rattle.session_spec.specs.Due.{all_armed, arm_all, sampled_to, with_arms, with_frees, with_next, with_samples}
use Rattle.session_spec.specs.Admission.{with_admission}
use Rattle.session_spec.specs.Opening.{opening_state, wished, with_agenda}
use Rattle.session_spec.specs.Tests.{with_tests}
use Rattle.session_spec.specs.Verdicts.{tester_of, with_search_end, with_verdicts, without_tester, without_tests}
use Rattle.session_spec.specs.Work.{final_state, first_state, is_due, state_admitted, state_armed, state_done, state_ended, state_handed, state_judged, state_last, state_next, state_quiet, state_sampled, state_turned, state_worked, after_quantum, tests_now, after_quanta, after_quanta_from}
use Rattle.session_spec.specs.Rosters.{AreBelow, AreNumbered}
use Rattle.session_spec.proofs.Standing.{Since, since_none, since_on}
use Rattle.session_spec.proofs.Acting.{admitted_placer, done_since, repeated_since, taken_placer}
use Rattle.session_spec.proofs.Leaving.{since_tester, tests_alone}
use Rattle.session_spec.proofs.Likes.{below_like, below_more, below_push, like_armed, like_sampled}
use Rattle.session_spec.proofs.Seen.{AreApart, tags}
use Rattle.session_spec.proofs.Tagged.{apart_push, tags_like}
use Rattle.session_spec.specs.Bins.{AreRecorded}
use Rattle.session_spec.specs.Laws.{BinsTold}
use Rattle.session_spec.proofs.AdmittingSteps.{IsBeside, Keeps, admission_kept, all_kept, of_nodes, of_wishes, tests_kept}
use Rattle.session_spec.proofs.Intervals.{NoneEmptyIn}
use Rattle.session_spec.proofs.Passing.{none_closed, none_worked}
use Rattle.session_spec.proofs.Pairs.{ArePairs, arms_are, many_armed, many_room, many_sampled, new_pair, pairs_armed, pairs_longer, pairs_push, pairs_room, pairs_sampled, pairs_since, pairs_tell}

-- What holds of a session whose run has these harts, and for whose instruments this was recorded.
pub record IsTelling (i : Inputs) (owns : List ℕ) (rs : List (List Bin)) (k : SessionState) : Type 0 where
  pub time : k.time ≡ length owns
  pub roster : AreNumbered k.machine.placer
  pub below : AreBelow k.machine.placer.count k.shown
  pub apart : AreApart (tags k.shown)
  pub pairs : ArePairs i owns k.machine.placer k.shown rs

-- and each has a place
pub record Tells (i : Inputs) (s : State) : Type 0 where
  pub kept : IsTelling i s.owns s.recorded s.kept
  pub many : length s.recorded ≡ length s.kept.shown

module _ (i : Inputs) where
  module _ (owns : List ℕ) (rs : List (List Bin)) where
    abbrev P : SessionState → Type 0
    P k = IsTelling i owns rs k

    tell_beside : (k j : SessionState) → IsBeside k j → P k → P j
    tell_beside k j b s =
        subst P
        (ap (λ (m : Instrumented). record j { machine = m; shown = k.shown; time = k.time }) (sym b.machine)
        ∙ (ap (λ (ss : List MetricFocusPair). record j { shown = ss; time = k.time }) (sym b.shown)
        ∙ ap (λ (t : ℕ). record j { time = t }) (sym b.time)))
        (record { time = s.time; roster = s.roster; below = s.below; apart = s.apart; pairs = s.pairs })

    -- a machine in which no instrument was armed since
    tell_machine : (k : SessionState) (m : Instrumented) → Since k.machine.placer m.placer → P k → P (record k { machine = m })
    tell_machine k m a s = record {
      time = s.time;
      roster = a.roster;
      below = below_more k.machine.placer.count m.placer.count k.shown a.count s.below;
      apart = s.apart;
      pairs = pairs_since i owns k.machine.placer m.placer k.shown rs a s.below s.pairs;
    }

    -- another search
    pub tell_search : (k : SessionState) (v : SearchData) → P k → P (record k { search = v })
    tell_search k v s = record { time = s.time; roster = s.roster; below = s.below; apart = s.apart; pairs = s.pairs }

    -- ---- an instrument more

    tell_more : (k : SessionState) (plan : Plan) (cost : Option ℕ) (placer : Placements) (x : MetricFocusPair) (v : SearchData) → admission k.machine.placer plan cost ≡ Ok placer
        → x.instrument.n ≡ k.machine.placer.count → x.armed ≡ None → planned i x.metric x.focus ≡ Ok plan → P k
        → P (record k { machine = after_act (Admits plan cost) k.machine; search = v; shown = k.shown ++ x ∷ [] })
    tell_more k plan cost placer x v e number none is s =
        let p = k.machine.placer in
        let m = after_act (Admits plan cost) k.machine in
        let since = done_since (Admits plan cost) tt k.machine s.roster in
        let placer_is : m.placer ≡ placer = admitted_placer plan cost k.machine ∙ ap (or_same p) e in
        let told = numbers.admissions_tell p plan cost placer (s.roster).numbered e in
        let count_is : m.placer.count ≡ p.count + 1 = ap (λ (q : Placements). q.count) placer_is ∙ told.count in
        let placing : state_of m.placer x.instrument.n ≡ Placing =
        ap (state_of m.placer) number ∙ (ap (λ (q : Placements). state_of q p.count) placer_is ∙ told.state) in
        record {
          time = s.time;
          roster = since.roster;
          below = below_push m.placer.count k.shown x (below_more p.count m.placer.count k.shown since.count s.below) (omega (arith, number, count_is));
          apart = apart_push p.count k.shown x number s.below s.apart;
          pairs = pairs_push i owns m.placer k.shown rs x (pairs_since i owns p m.placer k.shown rs since s.below s.pairs)
              (new_pair i owns (state_of m.placer x.instrument.n) x plan is placing none);
        }

    pub tell_keeps : Keeps i P
    tell_keeps = record {
      beside = tell_beside;
      drops = λ k n s. tell_machine k (after_act (Drops n) k.machine) (done_since (Drops n) tt k.machine s.roster) s;
      wished = λ k plan w placer is e s. tell_more k plan None placer _ k.search e refl refl is s;
      barred = λ k n node cause stands waits by s. tell_search k _ s;
      tested = λ k n node plan placer stands waits is room e s. tell_more k plan _ placer _ _ e refl refl is s;
    }

    tell_admission : (k : SessionState) → P k → P (with_admission i k)
    tell_admission k s = admission_kept i P tell_keeps k s

    -- ---- entries of the agenda, and what is freed

    pub tell_entries : (k : SessionState) → P k → P (with_entries k)
    unfolding with_entries
    tell_entries k s = tell_machine k (repeated handed_at_once Hands k.machine) (repeated_since handed_at_once Hands tt k.machine s.roster) s

    pub tell_agenda : (k : SessionState) → P k → P (with_agenda k)
    unfolding with_agenda
    tell_agenda k s =
        let n = length k.machine.placer.book.agenda in
        tell_machine k (repeated n Hands k.machine) (repeated_since n Hands tt k.machine s.roster) s

    pub tell_frees : (k : SessionState) → P k → P (with_frees k)
    unfolding with_frees
    tell_frees k s =
        let n = length k.machine.placer.book.agenda in
        tell_machine k (repeated n Sweeps k.machine) (repeated_since n Sweeps tt k.machine s.roster) s

    -- ---- armings

    pub tell_arms : (k : SessionState) → P k → P (with_arms k)
    unfolding with_arms
    tell_arms k s =
        let ss = all_armed k.time k.machine k.shown in
        let like = like_armed k.time k.machine k.shown in
        let a = arms_are i owns k.time s.time k.machine k.shown s.roster s.apart in
        record {
          time = s.time;
          roster = a.roster;
          below = below_like (arm_all k.machine k.shown).placer.count k.shown ss like (subst (λ c. AreBelow c k.shown) (sym a.count) s.below);
          apart = subst AreApart (sym (tags_like k.shown ss like)) s.apart;
          pairs = pairs_armed i owns k.time s.time k.shown rs k.machine s.roster s.apart s.pairs;
        }

    -- ---- verdicts

    since_tests : (ds : List ℕ) (k : SessionState) → AreNumbered k.machine.placer → Since k.machine.placer (without_tests ds k).machine.placer
    since_tests [] k r = since_none k.machine.placer r
    since_tests (d ∷ ds) k r =
        let j = without_tester (tester_of k.machine.placer d k.shown) k in
        let s = since_tester (tester_of k.machine.placer d k.shown) k r in
        since_on k.machine.placer j.machine.placer (without_tests ds j).machine.placer s (since_tests ds j s.roster)

    tell_verdicts : (samples : List NodeSample) (k : SessionState) → P k → P (with_verdicts samples k)
    unfolding with_verdicts
    tell_verdicts samples k s =
        let v = search_step k.time samples k.search in
        let w : SessionState = record k { search = v } in
        let m = (without_tests v.drops w).machine in
        subst P (sym (tests_alone v.drops w)) (tell_machine w m (since_tests v.drops w s.roster) (tell_search k v s))

    pub tell_next : (width : ℕ) (k : SessionState) → P k → P (with_next width k)
    unfolding with_next
    tell_next width k s = record { time = s.time; roster = s.roster; below = s.below; apart = s.apart; pairs = s.pairs }

    pub tell_end : (k : SessionState) → P k → P (with_search_end k)
    unfolding with_search_end
    tell_end k s = record { time = s.time; roster = s.roster; below = s.below; apart = s.apart; pairs = s.pairs }

  -- ---- turns

  pub tell_turns : (owns : List ℕ) (rs : List (List Bin)) (turns : List Event) (k : SessionState) → IsTelling i owns rs k → IsTelling i (owns ++ replays.owns turns k.machine.core) rs (with_turns turns k)
  tell_turns owns rs turns k s =
      let more = replays.owns turns k.machine.core in
      let later : SessionState = record k { time = k.time + length more; idle = (with_turns turns k).idle } in
      tell_machine (owns ++ more) rs later (after_turns turns k.machine) (subst (Since k.machine.placer) (sym (taken_placer turns k.machine)) (since_none k.machine.placer s.roster))
      (record {
        time = omega (arith, s.time, length-append owns more);
        roster = s.roster;
        below = s.below;
        apart = s.apart;
        pairs = pairs_longer i owns more k.machine.placer k.shown rs s.pairs;
      })

  -- ---- the steps of a quantum

  pub tells_admitted : (s : State) → Tells i s → Tells i (state_admitted i s)
  tells_admitted s h =
      let k = with_admission i s.kept in
      let a = tell_admission s.owns s.recorded s.kept h.kept in
      record {
        kept = record { time = a.time; roster = a.roster; below = a.below; apart = a.apart; pairs = pairs_room i s.owns k.machine.placer k.shown s.recorded a.pairs };
        many = many_room i s.owns k.machine.placer k.shown s.recorded a.pairs;
      }

  pub tells_turned : (h n : ℕ) (s : State) → Tells i s → Tells i (state_turned h n s)
  unfolding with_hart
  tells_turned h n s z = record { kept = tell_turns s.owns s.recorded (quantum_turns n h s.kept.machine.core) s.kept z.kept; many = z.many }

  pub tells_quiet : (s : State) → Tells i s → Tells i (state_quiet s)
  unfolding with_quiet
  tells_quiet s z = record { kept = tell_turns s.owns s.recorded (settling s.kept.machine.core) s.kept z.kept; many = z.many }

  many_entries : (s : State) → (with_entries s.kept).shown ≡ s.kept.shown
  unfolding with_entries
  many_entries s = refl

  pub tells_handed : (s : State) → Tells i s → Tells i (state_handed s)
  tells_handed s z = record { kept = tell_entries s.owns s.recorded s.kept z.kept; many = z.many ∙ ap (λ (xs : List MetricFocusPair). length xs) (sym (many_entries s)) }

  pub tells_sampled : (s : State) → Tells i s → Tells i (state_sampled i s)
  unfolding with_samples
  tells_sampled s z =
      let k = s.kept in
      let p = k.machine.placer in
      let a = z.kept in
      let ss = map (sampled_to p k.time) k.shown in
      let like = like_sampled p k.time k.shown in
      record {
        kept = record {
          time = a.time;
          roster = a.roster;
          below = below_like p.count k.shown ss like a.below;
          apart = subst AreApart (sym (tags_like k.shown ss like)) a.apart;
          pairs = pairs_sampled i s.owns k.time a.time p k.shown s.recorded z.many a.pairs;
        };
        many = many_sampled i s.owns k.time a.time p k.shown s.recorded z.many ∙ sym (same_many p k.time k.shown);
      }
    where
      same_many : (p : Placements) (t : ℕ) (xs : List MetricFocusPair) → length (map (sampled_to p t) xs) ≡ length xs
      same_many p t [] = refl
      same_many p t (x ∷ xs) = omega (arith, same_many p t xs)

  arms_many : (s : State) → Tells i s → length s.recorded ≡ length (with_arms (with_frees s.kept)).shown
  unfolding with_arms with_frees
  arms_many s z = z.many ∙ sym (many_armed i s.owns s.kept.time z.kept.time (with_frees s.kept).machine s.kept.shown)

  pub tells_armed : (s : State) → Tells i s → Tells i (state_armed s)
  tells_armed s z = record { kept = tell_arms s.owns s.recorded (with_frees s.kept) (tell_frees s.owns s.recorded s.kept z.kept); many = arms_many s z }

  pub verdicts_shown : (samples : List NodeSample) (k : SessionState) → (with_verdicts samples k).shown ≡ k.shown
  unfolding with_verdicts
  verdicts_shown samples k =
      let v = search_step k.time samples k.search in
      ap (λ (z : SessionState). z.shown) (tests_alone v.drops (record k { search = v }))

  pub tells_judged : (samples : List NodeSample) (s : State) → Tells i s → Tells i (state_judged samples s)
  tells_judged samples s z = record { kept = tell_verdicts s.owns s.recorded samples s.kept z.kept; many = z.many ∙ ap (λ (xs : List MetricFocusPair). length xs) (sym (verdicts_shown samples s.kept)) }

  next_shown : (width : ℕ) (k : SessionState) → (with_next width k).shown ≡ k.shown
  unfolding with_next
  next_shown width k = refl

  pub tells_next : (width : ℕ) (s : State) → Tells i s → Tells i (state_next width s)
  tells_next width s z = record { kept = tell_next s.owns s.recorded width s.kept z.kept; many = z.many ∙ ap (λ (xs : List MetricFocusPair). length xs) (sym (next_shown width s.kept)) }

  end_shown : (k : SessionState) → (with_search_end k).shown ≡ k.shown
  unfolding with_search_end
  end_shown k = refl

  pub tells_ended : (s : State) → Tells i s → Tells i (state_ended s)
  tells_ended s z = record { kept = tell_end s.owns s.recorded s.kept z.kept; many = z.many ∙ ap (λ (xs : List MetricFocusPair). length xs) (sym (end_shown s.kept)) }

  -- ---- a due work, and a quantum

  pub tells_done : (s : State) → Tells i s → Tells i (state_done i s)
  tells_done s z =
      let a = state_armed (state_sampled i s) in
      let j = state_judged (tests_now i s) a in
      tells_next i.settings.width j (tells_judged (tests_now i s) a (tells_armed (state_sampled i s) (tells_sampled s z)))

  pub tells_last : (s : State) → Tells i s → Tells i (state_last i s)
  tells_last s z = tells_judged (tests_now i s) (state_sampled i s) (tells_sampled s z)

  tells_worked : (s : State) → Tells i s → Tells i (state_worked i s)
  tells_worked s z = cond_both (is_due s.kept) (state_done i (state_quiet s)) s (Tells i) (λ _. tells_done (state_quiet s) (tells_quiet s z)) (λ _. z)

  pub tells_tend : (h n : ℕ) (s : State) → Tells i s → Tells i (after_quantum i h n s)
  unfolding after_quantum
  tells_tend h n s z =
      let a = state_admitted i s in
      let t = state_turned h n a in
      tells_worked (state_handed t) (tells_handed t (tells_turned h n a (tells_admitted s z)))

  -- ---- all quanta

  pub start_telling : IsTelling i [] [] (first_kept i)
  start_telling = record {
    time = refl;
    roster = record { numbered = (numbers.states_stay).first i.image i.settings.instruments; single = λ x y h k e. absurd h };
    below = tt;
    apart = tt;
    pairs = tt;
  }

  pub picked_telling : IsTelling i [] [] (with_tests i (wished i))
  unfolding wished
  picked_telling =
      tests_kept i (IsTelling i [] []) (of_nodes i (IsTelling i [] []) (tell_keeps [] [])) (wished i) (all_kept i (IsTelling i [] []) (of_wishes i (IsTelling i [] []) (tell_keeps [] [])) (first_wishes i) (first_kept i) start_telling)

  opened_telling : IsTelling i [] [] (opening_state i)
  opened_telling = tell_arms [] [] (with_agenda (with_tests i (wished i))) (tell_agenda [] [] (with_tests i (wished i)) picked_telling)

  blanks : (p : Placements) (xs : List MetricFocusPair) → ArePairs i [] p xs [] → ArePairs i [] p xs (map (λ s. []) xs)
  blanks p [] h = tt
  blanks p (x ∷ xs) h = (h.0, blanks p xs h.1)

  many_blanks : (xs : List MetricFocusPair) → length (map {B = List Bin} (λ (s : MetricFocusPair). []) xs) ≡ length xs
  many_blanks [] = refl
  many_blanks (x ∷ xs) = omega (arith, many_blanks xs)

  pub tells_first : Tells i (first_state i)
  tells_first =
      let o = opened_telling in
      record {
        kept = record { time = o.time; roster = o.roster; below = o.below; apart = o.apart; pairs = blanks (opening_state i).machine.placer (opening_state i).shown o.pairs };
        many = many_blanks (opening_state i).shown;
      }

  tells_from : (quanta : List Quantum) (s : State) → Tells i s → Tells i (after_quanta_from i quanta s)
  tells_from [] s z = z
  tells_from (q ∷ quanta) s z = tells_from quanta (after_quantum i q.hart q.turns s) (tells_tend q.hart q.turns s z)

  pub tells_work : (quanta : List Quantum) → Tells i (after_quanta i quanta)
  unfolding after_quanta
  tells_work quanta = tells_from quanta (first_state i) tells_first

  pub tells_closed : (s : State) → Tells i s → Tells i (final_state i s)
  unfolding final_state
  tells_closed s z =
      let q = state_quiet s in
      let quiet = tells_quiet s z in
      cond_both (nat_lt q.kept.last q.kept.time) (state_last i q) q (λ (x : State). Tells i (state_ended x))
      (λ _. tells_ended (state_last i q) (tells_last q quiet)) (λ _. tells_ended q quiet)

  pub recorded_told : (s : State) → NoneEmptyIn s.recorded → Tells i s → AreRecorded i s
  recorded_told s none z = record { many = z.many; each = λ n x r e f. pairs_tell i s.owns s.kept.machine.placer s.kept.shown s.recorded none z.kept.pairs n x r e f }

pub bins_told : BinsTold
bins_told = record {
  works = λ i quanta wide. recorded_told i (after_quanta i quanta) (none_worked i wide quanta) (tells_work i quanta);
  closes = λ i quanta wide. recorded_told i (final_state i (after_quanta i quanta)) (none_closed i wide quanta) (tells_closed i (after_quanta i quanta) (tells_work i quanta));
}
