-- What the search tells of the program's own run.
use Rattle.std.specs.Prelude.{◌≡◌, ℕ, ◌<◌, ◌≤◌, ◌⊎◌, if◌then◌else◌, Ok, List, length, slice_get, Some}
use Rattle.pn_types.specs.declared.pick.BarCause.{BarCause}
use Rattle.pn_types.specs.declared.plan.Plan.{Plan}
use Rattle.pn_types.specs.declared.quantum.Quantum.{Quantum}
use Rattle.fold_hist.specs.declared.bin.Bin.{Bin}
use Rattle.w3_search.specs.Refining.{threshold_of}
use Rattle.w3_search.specs.Testing.{holds}
use Rattle.w3_search.specs.declared.node.Node.{Node}
use Rattle.w3_search.specs.declared.node.NodeState.TheVariants.{Barred, Confirmed, Rejected, Unfinished}
use Rattle.session_spec.specs.declared.data.MetricFocusPair.{MetricFocusPair}
use Rattle.session_spec.specs.Inputs.{Inputs, harts_of_focus, planned}
use Rattle.session_spec.specs.Due.{measure_at}
use Rattle.session_spec.specs.Searches.{metric_of, rules_of}
use Rattle.session_spec.specs.States.{State}
use Rattle.session_spec.specs.Verdicts.{ticks_in}
use Rattle.session_spec.specs.Bars.{WasBarred}

-- ---- a node that was judged

-- The verdict on a node, on the program's own run: its value is what the plan of its metric at its focus measures from the arming to
-- the window's last sample, which comes later; its ticks are those of the focus's harts in between; and it is confirmed exactly where
-- the test on them is true.
pub record IsVerdict (i : Inputs) (owns : List ℕ) (n : Node) : Type 0 where
  pub plan : Plan
  pub planned : planned i (metric_of i n) n.focus ≡ Ok plan
  pub ordered : n.from < n.to
  pub past : n.to ≤ length owns
  pub window : n.seen ≡ (rules_of i).decl.window
  pub value : n.value ≡ measure_at i owns plan (harts_of_focus i n.focus) n.from n.from n.to
  pub ticks : n.ticks ≡ ticks_in owns (harts_of_focus i n.focus) n.from n.to
  pub verdict : n.state ≡ (if holds n.value n.ticks (threshold_of (rules_of i).hypotheses n.hypothesis) then Confirmed else Rejected)

-- An instrument of its own tested node k. The node's window begins at its arming; as many samples of it were recorded from then on as
-- the window has, and no more; and the window ends where the last of them does.
pub record IsTested (i : Inputs) (s : State) (k : ℕ) (n : Node) : Type 0 where
  pub place : ℕ
  pub x : MetricFocusPair
  pub samples : List Bin
  pub listed : slice_get s.kept.shown place ≡ Some x
  pub recorded : slice_get s.recorded place ≡ Some samples
  pub node : x.node ≡ Some k
  pub metric : x.metric ≡ metric_of i n
  pub focus : x.focus ≡ n.focus
  pub armed : x.armed ≡ Some n.from
  pub sampled : x.from ≡ n.to
  pub window : length samples ≡ (rules_of i).decl.window

-- it has its verdict, by the samples of its own instrument
abbrev pub IsJudged : Inputs → State → ℕ → Node → Type 0
IsJudged i s k n = IsVerdict i s.owns n × IsTested i s k n

-- this holds for each node that was judged
abbrev pub AreJudged : Inputs → State → Type 0
AreJudged i s =
    (k : ℕ) (n : Node) → slice_get s.kept.search.nodes k ≡ Some n → (n.state ≡ Confirmed) ⊎ (n.state ≡ Rejected) → IsJudged i s k n

-- ---- each node, after the end

-- Node k wasn't judged when the search ended: it was barred when its turn came in the course of these quanta, or its phase or the search
-- ended before its window did.
abbrev pub IsOpenEnd : Inputs → List Quantum → ℕ → Node → Type 0
IsOpenEnd i quanta k n =
    ((cause : BarCause) × (n.state ≡ Barred cause) × WasBarred i quanta k n cause)
    ⊎ ((n.state ≡ Unfinished n.seen) × (n.seen < (rules_of i).decl.window))

-- what a session that is closed after these quanta tells of each node
abbrev pub AreEnded : Inputs → List Quantum → State → Type 0
AreEnded i quanta s = (k : ℕ) (n : Node) → slice_get s.kept.search.nodes k ≡ Some n → IsJudged i s k n ⊎ IsOpenEnd i quanta k n
