-- What the tests of a session cost.
use Rattle.std.specs.Prelude.{◌≡◌, ℕ, ◌≤◌, nat_lt, true, List, ◌++◌, take}
use Rattle.pn_types.specs.declared.quantum.Quantum.{Quantum}
use Rattle.w3_search.specs.Nodes.{waiting_of}
use Rattle.session_spec.specs.Inputs.{Inputs}
use Rattle.session_spec.specs.Searches.{rules_of}
use Rattle.session_spec.specs.States.{SessionState, State}
use Rattle.session_spec.specs.Admission.{with_wishes}
use Rattle.session_spec.specs.Tests.{in_force, taken_at_once, with_nodes, with_tests}
use Rattle.session_spec.specs.LastReadings.{handed_on}
use Rattle.session_spec.specs.Work.{final_state, state_admitted, state_armed, state_quiet, state_sampled, state_turned, after_quanta}

-- the predicted costs of the tests whose instruments aren't gone are within the limit
abbrev pub IsWithinLimit : Inputs → SessionState → Type 0
IsWithinLimit i k = in_force i k.machine.placer k.shown ≤ (rules_of i).decl.cost

-- They are within the limit in each state through which a next quantum goes: at each node's turn, where the search takes nodes;
-- after the admission, the turns and the entries of the agenda; and at a due work when the machine is quiet, after the samples, and
-- after the armings.
pub record AreWithin (i : Inputs) (s : State) : Type 0 where
  pub taking : (before behind : List ℕ)
      → take taken_at_once (waiting_of (with_wishes i s.kept.wishes s.kept).search.nodes) ≡ before ++ behind
      → IsWithinLimit i (with_nodes i before (with_wishes i s.kept.wishes s.kept))
  pub admitted : IsWithinLimit i (state_admitted i s).kept
  pub turned : (h n : ℕ) → IsWithinLimit i (state_turned h n (state_admitted i s)).kept
  pub handed : (h n : ℕ) → IsWithinLimit i (handed_on i h n s).kept
  pub quiet : (h n : ℕ) → IsWithinLimit i (state_quiet (handed_on i h n s)).kept
  pub sampled : (h n : ℕ) → IsWithinLimit i (state_sampled i (state_quiet (handed_on i h n s))).kept
  pub armed : (h n : ℕ) → IsWithinLimit i (state_armed (state_sampled i (state_quiet (handed_on i h n s)))).kept

-- They are within the limit after each quantum, through the next one, and after the end. Where the observed cost is above its
-- limit, no node is taken.
pub record CostsStay : Type 0 where
  pub works : (i : Inputs) (quanta : List Quantum) → IsWithinLimit i (after_quanta i quanta).kept
  pub moments : (i : Inputs) (quanta : List Quantum) → AreWithin i (after_quanta i quanta)
  pub closes : (i : Inputs) (quanta : List Quantum) → IsWithinLimit i (final_state i (after_quanta i quanta)).kept
  pub observed : (i : Inputs) (k : SessionState) → nat_lt (rules_of i).decl.observed k.observed ≡ true → with_tests i k ≡ k
