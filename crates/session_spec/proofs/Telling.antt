-- What holds of the nodes and their tests goes on holding through each quantum. So each verdict tells what it must.
use Rattle.std.proofs.Common.{◌≡◌, ℕ, true, Some, ◌+◌, ◌^◌, ◌<◌, ◌≤◌, List, [], ◌∷◌, ◌++◌, length, refl, sym, subst, arith, ◌⊎◌}
use Rattle.std.specs.Prelude.{nat_lt, slice_get}
use Rattle.std.proofs.lemmas.Bool.{cond_both}
use Rattle.std.proofs.lemmas.List.{length-append}
use Rattle.pn_types.specs.declared.quantum.Quantum.{Quantum}
use Rattle.machine.specs.Events.{Event}
use Rattle.machine.specs.Replays as replays
use Rattle.machine.specs.States.{quantum_turns, settling}
use Rattle.instrument.specs.Scenes.{Hands}
use Rattle.instrument.proofs.Numbers as numbers
use Rattle.instrumented.specs.Instrumented.{repeated, after_turns}
use Rattle.w3_search.specs.Refining.{roots}
use Rattle.w3_search.specs.declared.node.Node.{Node}
use Rattle.session_spec.specs.Inputs.{Inputs, first_wishes}
use Rattle.session_spec.specs.Searches.{rules_of}
use Rattle.session_spec.specs.States.{SessionState, State, first_kept}
use Rattle.session_spec.specs.Turns.{handed_at_once, with_entries, with_hart, with_quiet, with_turns}
use Rattle.session_spec.specs.Due.{all_armed, arm_all, with_arms, with_frees, with_next, with_samples}
use Rattle.session_spec.specs.Opening.{wished, with_agenda}
use Rattle.session_spec.specs.Tests.{with_tests}
use Rattle.session_spec.specs.Verdicts.{with_search_end, with_verdicts}
use Rattle.session_spec.specs.Work.{final_state, first_state, is_due, state_admitted, state_done, state_last, state_quiet, state_turned, state_worked, after_quantum, tests_now, after_quanta, after_quanta_from}
use Rattle.session_spec.specs.Rosters.{AreBelow}
use Rattle.session_spec.proofs.Standing.{Since, since_none}
use Rattle.session_spec.proofs.Acting.{repeated_since, taken_placer}
use Rattle.session_spec.proofs.AdmittingSteps.{admission_kept, all_kept, of_nodes, of_wishes, tests_kept}
use Rattle.session_spec.proofs.Likes.{below_like, like_armed}
use Rattle.session_spec.proofs.Grown.{Each, grows_none, grows_roots}
use Rattle.session_spec.proofs.Seen.{AreAlone, AreApart, AreTaken, IsNode, IsRuled, IsSeen, is_judged, no_node}
use Rattle.session_spec.proofs.Tagged.{tags_like}
use Rattle.session_spec.proofs.Carrying.{all_arm, node_longer, tests_longer}
use Rattle.session_spec.proofs.Seeing.{seen_keeps, seen_machine}
use Rattle.session_spec.proofs.Ends.{IsUnjudged, new_is, told_ends, unfinished_is}
use Rattle.session_spec.proofs.Judging.{ready_arms, ready_samples, seen_verdicts}
use Rattle.session_spec.specs.LastReadings.{handed_on}
use Rattle.session_spec.proofs.Timing.{time_before, time_closed, time_done, time_from}

module _ (i : Inputs) where
  -- ---- turns, and entries of the agenda

  seen_turns : (owns : List ℕ) (turns : List Event) (k : SessionState) → IsSeen i owns k → IsSeen i (owns ++ replays.owns turns k.machine.core) (with_turns turns k)
  seen_turns owns turns k s =
      let more = replays.owns turns k.machine.core in
      let later : SessionState = record k { time = k.time + length more; idle = (with_turns turns k).idle } in
      seen_machine i (owns ++ more) later (after_turns turns k.machine) (subst (Since k.machine.placer) (sym (taken_placer turns k.machine)) (since_none k.machine.placer s.roster))
      (record {
        rules = s.rules;
        time = omega (arith, s.time, length-append owns more);
        roster = s.roster;
        below = s.below;
        apart = s.apart;
        alone = s.alone;
        taken = s.taken;
        nodes = λ n x e. node_longer i owns more x (s.nodes n x e);
        tests = tests_longer i owns more k.machine.placer k.search.nodes no_node k.shown s.tests;
      })

  pub seen_hart : (owns : List ℕ) (h n : ℕ) (k : SessionState) → IsSeen i owns k → IsSeen i (owns ++ replays.owns (quantum_turns n h k.machine.core) k.machine.core) (with_hart h n k)
  unfolding with_hart
  seen_hart owns h n k s = seen_turns owns (quantum_turns n h k.machine.core) k s

  pub seen_quiet : (owns : List ℕ) (k : SessionState) → IsSeen i owns k → IsSeen i (owns ++ replays.owns (settling k.machine.core) k.machine.core) (with_quiet k)
  unfolding with_quiet
  seen_quiet owns k s = seen_turns owns (settling k.machine.core) k s

  pub seen_entries : (owns : List ℕ) (k : SessionState) → IsSeen i owns k → IsSeen i owns (with_entries k)
  unfolding with_entries
  seen_entries owns k s = seen_machine i owns k (repeated handed_at_once Hands k.machine) (repeated_since handed_at_once Hands tt k.machine s.roster) s

  -- ---- the opening

  seen_agenda : (owns : List ℕ) (k : SessionState) → IsSeen i owns k → IsSeen i owns (with_agenda k)
  unfolding with_agenda
  seen_agenda owns k s =
      let n = length k.machine.placer.book.agenda in
      seen_machine i owns k (repeated n Hands k.machine) (repeated_since n Hands tt k.machine s.roster) s

  seen_arms : (owns : List ℕ) (k : SessionState) → IsSeen i owns k → IsSeen i owns (with_arms k)
  unfolding with_arms
  seen_arms owns k s =
      let a = all_arm i owns k.search.nodes no_node k.time s.time k.shown k.machine s.roster s.apart s.tests in
      let ss = all_armed k.time k.machine k.shown in
      let like = like_armed k.time k.machine k.shown in
      let alike = sym (tags_like k.shown ss like) in
      record {
        rules = s.rules;
        time = s.time;
        roster = a.roster;
        below = below_like (arm_all k.machine k.shown).placer.count k.shown ss like (subst (λ c. AreBelow c k.shown) (sym a.count) s.below);
        apart = subst AreApart alike s.apart;
        alone = subst AreAlone alike s.alone;
        taken = subst (AreTaken k.search.nodes) alike s.taken;
        nodes = s.nodes;
        tests = a.tests;
      }

  -- ---- what is told

  ended_told : (owns : List ℕ) (k : SessionState) → IsSeen i owns k → Each (λ n. IsRuled i owns n ⊎ IsUnjudged i n) (with_search_end k).search.nodes
  unfolding with_search_end
  ended_told owns k s = told_ends i owns k.search.nodes s.nodes

  -- ---- a due work

  seen_next : (owns : List ℕ) (width : ℕ) (k : SessionState) → IsSeen i owns k → IsSeen i owns (with_next width k)
  unfolding with_next
  seen_next owns width k s =
      record { rules = s.rules; time = s.time; roster = s.roster; below = s.below; apart = s.apart; alone = s.alone; taken = s.taken; nodes = s.nodes; tests = s.tests }

  module _ (some : 1 ≤ (rules_of i).decl.window) where
    pub seen_done : (s : State) → s.kept.time < 2 ^ 64 → IsSeen i s.owns s.kept → IsSeen i s.owns (state_done i s).kept
    seen_done s low h =
        let a = with_arms (with_frees (with_samples s.kept)) in
        seen_next s.owns i.settings.width (with_verdicts (tests_now i s) a) (seen_verdicts i s.owns s.kept some low h a (ready_arms i s.owns s.kept h))

    pub seen_last : (s : State) → s.kept.time < 2 ^ 64 → IsSeen i s.owns s.kept → IsSeen i s.owns (state_last i s).kept
    seen_last s low h = seen_verdicts i s.owns s.kept some low h (with_samples s.kept) (ready_samples i s.owns s.kept h)

    seen_worked : (s : State) → (state_worked i s).kept.time < 2 ^ 64 → IsSeen i s.owns s.kept → IsSeen i (state_worked i s).owns (state_worked i s).kept
    seen_worked s low h =
        let q = state_quiet s in
        cond_both (is_due s.kept) (state_done i q) s (λ (x : State). x.kept.time < 2 ^ 64 → IsSeen i x.owns x.kept)
        (λ _ l. seen_done q (omega (arith, l, time_done i q)) (seen_quiet s.owns s.kept h)) (λ _ l. h) low

    -- ---- a quantum

    pub seen_tend : (h n : ℕ) (s : State) → (after_quantum i h n s).kept.time < 2 ^ 64 → IsSeen i s.owns s.kept → IsSeen i (after_quantum i h n s).owns (after_quantum i h n s).kept
    unfolding after_quantum
    seen_tend h n s low z =
        let a = state_admitted i s in
        let t = state_turned h n a in
        seen_worked (handed_on i h n s) low (seen_entries t.owns t.kept (seen_hart s.owns h n a.kept (admission_kept i (IsSeen i s.owns) (seen_keeps i s.owns) s.kept z)))

    -- ---- all quanta

    pub seen_start : IsSeen i [] (first_kept i)
    seen_start = record {
      rules = refl;
      time = refl;
      roster = record { numbered = (numbers.states_stay).first i.image i.settings.instruments; single = λ x y h k e. absurd h };
      below = tt;
      apart = tt;
      alone = tt;
      taken = tt;
      nodes = (grows_roots (IsNode i []) (new_is i [] some) (unfinished_is i []) no_node 0 (roots (rules_of i).hypotheses) [] [] (grows_none (IsNode i []) no_node [])).each (λ n x e. absurd cc);
      tests = tt;
    }

    pub seen_first : IsSeen i [] (first_state i).kept
    unfolding wished
    seen_first =
        let w = all_kept i (IsSeen i []) (of_wishes i (IsSeen i []) (seen_keeps i [])) (first_wishes i) (first_kept i) seen_start in
        seen_arms [] (with_agenda (with_tests i (wished i))) (seen_agenda [] (with_tests i (wished i)) (tests_kept i (IsSeen i []) (of_nodes i (IsSeen i []) (seen_keeps i [])) (wished i) w))

    seen_from : (quanta : List Quantum) (s : State) → (after_quanta_from i quanta s).kept.time < 2 ^ 64 → IsSeen i s.owns s.kept → IsSeen i (after_quanta_from i quanta s).owns (after_quanta_from i quanta s).kept
    seen_from [] s low z = z
    seen_from (q ∷ quanta) s low z =
        let t = after_quantum i q.hart q.turns s in
        seen_from quanta t low (seen_tend q.hart q.turns s (omega (arith, low, time_from i quanta t)) z)

    pub seen_work : (quanta : List Quantum) → (after_quanta i quanta).kept.time < 2 ^ 64 → IsSeen i (after_quanta i quanta).owns (after_quanta i quanta).kept
    unfolding after_quanta
    seen_work quanta low = seen_from quanta (first_state i) low seen_first

    -- ---- the end

    pub closed_told : (s : State) → (final_state i s).kept.time < 2 ^ 64 → IsSeen i s.owns s.kept → Each (λ n. IsRuled i (final_state i s).owns n ⊎ IsUnjudged i n) (final_state i s).kept.search.nodes
    unfolding final_state
    closed_told s low z =
        let q = state_quiet s in
        let quiet = seen_quiet s.owns s.kept z in
        let l : q.kept.time < 2 ^ 64 = omega (arith, low, time_closed i s) in
        cond_both (nat_lt q.kept.last q.kept.time) (state_last i q) q (λ (x : State). Each (λ n. IsRuled i x.owns n ⊎ IsUnjudged i n) (with_search_end x.kept).search.nodes)
        (λ _. ended_told q.owns (state_last i q).kept (seen_last q l quiet)) (λ _. ended_told q.owns q.kept quiet)

module _ (i : Inputs) (some : 1 ≤ (rules_of i).decl.window) (quanta : List Quantum) where
  -- each node that was judged has its verdict
  pub all_judged : (after_quanta i quanta).kept.time < 2 ^ 64 → (k : ℕ) (n : Node) → slice_get (after_quanta i quanta).kept.search.nodes k ≡ Some n → is_judged n.state ≡ true → IsRuled i (after_quanta i quanta).owns n
  all_judged low k n e j = ((seen_work i some quanta low).nodes k n e).judged j

  -- after the end each node has one, or none
  pub all_ended : (final_state i (after_quanta i quanta)).kept.time < 2 ^ 64 → Each (λ n. IsRuled i (final_state i (after_quanta i quanta)).owns n ⊎ IsUnjudged i n) (final_state i (after_quanta i quanta)).kept.search.nodes
  all_ended low = closed_told i some (after_quanta i quanta) low (seen_work i some quanta (omega (arith, low, time_before i (after_quanta i quanta))))
