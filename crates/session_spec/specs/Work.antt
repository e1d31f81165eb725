-- A quantum, and the state of a session after a list of quanta.
use Rattle.std.specs.Prelude.{◌≡◌, ℕ, ◌-◌, ◌<◌, ◌≤◌, ◌⊎◌, nat_le, nat_lt, if◌then◌else◌, Bool, false, IsTrue, List, [], ◌∷◌, ◌++◌, length, map, replicate}
use Rattle.fold_hist.specs.declared.bin.Bin.{Bin}
use Rattle.pn_types.specs.declared.limits.TheConstants.{MAX_QUANTA, MAX_QUANTUM, MAX_WORKERS}
use Rattle.pn_types.specs.declared.quantum.Quantum.{Quantum}
use Rattle.machine.specs.Cores.{Core}
use Rattle.machine.specs.Replays.{owns}
use Rattle.machine.specs.States.{quantum_turns, settling}
use Rattle.machine.specs.Turns.{is_runnable}
use Rattle.w3_search.specs.declared.node.NodeSample.{NodeSample}
use Rattle.session_spec.specs.declared.data.LatestSample.{LatestSample}
use Rattle.session_spec.specs.declared.data.MetricFocusPair.{MetricFocusPair}
use Rattle.session_spec.specs.Inputs.{Inputs}
use Rattle.session_spec.specs.States.{SessionState, State}
use Rattle.session_spec.specs.Admission.{with_admission}
use Rattle.session_spec.specs.Turns.{with_entries, with_hart, with_quiet}
use Rattle.session_spec.specs.Due.{latest_from, recorded_with, with_arms, with_frees, with_next, with_samples}
use Rattle.session_spec.specs.Verdicts.{node_samples, with_search_end, with_verdicts}
use Rattle.session_spec.specs.Opening.{opening_state}

-- ---- when work is due

abbrev pub is_due : SessionState → Bool
is_due k = nat_le k.due k.time

-- ---- the steps of a quantum

-- the harts whose ticks the turns of hart h are, and those of settling
abbrev pub owns_taken : ℕ → ℕ → Core → List ℕ
owns_taken h n c = owns (quantum_turns n h c) c

abbrev pub owns_settled : Core → List ℕ
owns_settled c = owns (settling c) c

-- an instrument that was admitted has no sample yet
abbrev pub with_room : List MetricFocusPair → List (List Bin) → List (List Bin)
with_room shown rs = rs ++ replicate (length shown - length rs) []

abbrev pub state_admitted : Inputs → State → State
state_admitted i s = record s { kept = with_admission i s.kept; recorded = with_room (with_admission i s.kept).shown s.recorded }

abbrev pub state_turned : ℕ → ℕ → State → State
state_turned h n s = record s { kept = with_hart h n s.kept; owns = s.owns ++ owns_taken h n s.kept.machine.core }

abbrev pub state_handed : State → State
state_handed s = record s { kept = with_entries s.kept }

abbrev pub state_quiet : State → State
state_quiet s = record s { kept = with_quiet s.kept; owns = s.owns ++ owns_settled s.kept.machine.core }

abbrev pub samples_now : Inputs → State → List LatestSample
samples_now i s = latest_from 0 i s.kept.machine.placer s.owns s.kept.time s.kept.shown

abbrev pub state_sampled : Inputs → State → State
state_sampled i s = record {
  kept = with_samples s.kept;
  owns = s.owns;
  recorded = recorded_with i s.kept.machine.placer s.owns s.kept.time s.kept.shown s.recorded;
  latest = samples_now i s;
  feed = s.feed ++ samples_now i s;
}

-- the samples of the nodes under test
abbrev pub tests_now : Inputs → State → List NodeSample
tests_now i s = node_samples i s.kept.machine.placer s.owns s.kept.time s.kept.shown

-- what is freed and armed
abbrev pub state_armed : State → State
state_armed s = record s { kept = with_arms (with_frees s.kept) }

-- what the samples tell the search
abbrev pub state_judged : List NodeSample → State → State
state_judged samples s = record s { kept = with_verdicts samples s.kept }

abbrev pub state_next : ℕ → State → State
state_next width s = record s { kept = with_next width s.kept }

-- the due work of a quiet machine: sample, free, arm, judge
abbrev pub state_done : Inputs → State → State
state_done i s = state_next i.settings.width (state_judged (tests_now i s) (state_armed (state_sampled i s)))

abbrev pub state_worked : Inputs → State → State
state_worked i s = if is_due s.kept then state_done i (state_quiet s) else s

-- After a quantum of at most n turns of hart h: an admission, if work was done since the last; the turns; up to eight entries
-- of the agenda; and the due work, if it is time.
unfoldable pub after_quantum : Inputs → ℕ → ℕ → State → State
after_quantum i h n s = state_worked i (state_handed (state_turned h n (state_admitted i s)))

-- ---- lists of quanta

abbrev pub first_state : Inputs → State
first_state i = record { kept = opening_state i; owns = []; recorded = map (λ s. []) (opening_state i).shown; latest = []; feed = [] }

abbrev pub after_quanta_from : Inputs → List Quantum → State → State
after_quanta_from i [] s = s
after_quanta_from i (q ∷ quanta) s = after_quanta_from i quanta (after_quantum i q.hart q.turns s)

-- The state of a session after these quanta.
unfoldable pub after_quanta : Inputs → List Quantum → State
after_quanta i quanta = after_quanta_from i quanta (first_state i)

-- ---- which quanta there may be

-- the entry of a quantum of a hart that a worker asks for: its ticks are those of its turns
abbrev pub quantum_of : Inputs → ℕ → ℕ → ℕ → SessionState → Quantum
quantum_of i worker h n k =
    record { worker = worker; hart = h; turns = n; owns = length (owns_taken h n (with_admission i k).machine.core) }

-- the entry is in range, its hart is runnable, and it has the ticks of its turns
pub record IsAllowed (i : Inputs) (k : SessionState) (q : Quantum) : Type 0 where
  pub worker : q.worker < MAX_WORKERS
  pub hart : q.hart < i.settings.harts
  pub some : 1 ≤ q.turns
  pub few : q.turns ≤ MAX_QUANTUM
  pub runnable : IsTrue (is_runnable k.machine.core q.hart)
  pub owns : q ≡ quantum_of i q.worker q.hart q.turns k

abbrev pub AreAllowedFrom : Inputs → State → List Quantum → Type 0
AreAllowedFrom i s [] = Unit {0}
AreAllowedFrom i s (q ∷ quanta) = IsAllowed i s.kept q × AreAllowedFrom i (after_quantum i q.hart q.turns s) quanta

-- each entry is allowed when it comes, and there aren't too many
pub record AreAllowed (i : Inputs) (quanta : List Quantum) : Type 0 where
  pub each : AreAllowedFrom i (first_state i) quanta
  pub few : length quanta ≤ MAX_QUANTA

-- No quantum of hart h can follow: it isn't runnable, or there are as many quanta as there may be.
unfoldable pub Halted : Inputs → List Quantum → ℕ → Type 0
Halted i quanta h = (is_runnable (after_quanta i quanta).kept.machine.core h ≡ false) ⊎ (MAX_QUANTA ≤ length quanta)

-- A whole list: allowed, and none can follow.
pub record IsWhole (i : Inputs) (quanta : List Quantum) : Type 0 where
  pub allowed : AreAllowed i quanta
  pub ended : (h : ℕ) → h < i.settings.harts → Halted i quanta h

-- ---- the end

abbrev pub state_last : Inputs → State → State
state_last i s = state_judged (tests_now i s) (state_sampled i s)

abbrev pub state_ended : State → State
state_ended s = record s { kept = with_search_end s.kept }

-- The closed form: the machine settles, and where time passed since the last sample, all that is armed is sampled once more, and
-- the search judges. Then the search ends.
unfoldable pub final_state : Inputs → State → State
final_state i s =
    state_ended (if nat_lt (state_quiet s).kept.last (state_quiet s).kept.time then state_last i (state_quiet s) else state_quiet s)
