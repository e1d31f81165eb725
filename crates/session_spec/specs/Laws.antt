-- What a session tells.
use Rattle.std.specs.Prelude.{◌≡◌, ℕ, ◌≤◌, ◌<◌, ◌^◌, List, Some, false, slice_get}
use Rattle.pn_types.specs.declared.limits.TheConstants.{MAX_BUDGET}
use Rattle.pn_types.specs.declared.pick.BarCause.{BarCause}
use Rattle.pn_types.specs.declared.quantum.Quantum.{Quantum}
use Rattle.machine.specs.Laws.{IsProgram}
use Rattle.instrument.specs.Placements.{is_leaving, state_of}
use Rattle.w3_search.specs.declared.node.Node.{Node}
use Rattle.w3_search.specs.declared.node.NodeState.TheVariants.{Barred}
use Rattle.session_spec.specs.declared.data.MetricFocusPair.{MetricFocusPair}
use Rattle.session_spec.specs.Inputs.{Inputs}
use Rattle.session_spec.specs.Opening.{opening_state}
use Rattle.session_spec.specs.Plans.{ArePlansGood}
use Rattle.session_spec.specs.Searches.{rules_of}
use Rattle.session_spec.specs.States.{State}
use Rattle.session_spec.specs.Work.{final_state, after_quanta}
use Rattle.session_spec.specs.Bars.{WasBarred}
use Rattle.session_spec.specs.Run.{IsRun}
use Rattle.session_spec.specs.Told.{AreEnded, AreJudged}
use Rattle.session_spec.specs.Bins.{AreRecorded}
use Rattle.session_spec.specs.Feed.{IsFeed}
use Rattle.session_spec.specs.Becoming.{HasBecome}
use Rattle.session_spec.specs.Printed.{AreForOpening, AreWholeRuns}
use Rattle.session_spec.specs.LastReadings.{AreReadNext}

-- The machine is the unpatched program's, after each quantum and after the end.
pub record RunsTold : Type 0 where
  pub works : (i : Inputs) (quanta : List Quantum) → IsProgram i.image → ArePlansGood i → IsRun i (after_quanta i quanta)
  pub closes : (i : Inputs) (quanta : List Quantum) → IsProgram i.image → ArePlansGood i → IsRun i (final_state i (after_quanta i quanta))

-- What was recorded, after each quantum and after the end, where time passes between two due works.
pub record BinsTold : Type 0 where
  pub works : (i : Inputs) (quanta : List Quantum) → 1 ≤ i.settings.width → AreRecorded i (after_quanta i quanta)
  pub closes : (i : Inputs) (quanta : List Quantum) → 1 ≤ i.settings.width → AreRecorded i (final_state i (after_quanta i quanta))

-- Each sample is a difference of readings.
abbrev pub SamplesRead : Type 0
SamplesRead = (i : Inputs) (quanta : List Quantum)
    → IsProgram i.image → ArePlansGood i → i.settings.budget ≤ MAX_BUDGET → AreReadNext i quanta (after_quanta i quanta)

-- What was told of samples when they were taken is what was recorded.
pub record FeedTold : Type 0 where
  pub works : (i : Inputs) (quanta : List Quantum) → IsFeed (after_quanta i quanta)
  pub closes : (i : Inputs) (quanta : List Quantum) → IsFeed (final_state i (after_quanta i quanta))

-- What was wished for the opening, and wasn't dropped there, is armed at time 0. What is armed at the opening stays armed from then
-- on.
pub record OpensAtZero : Type 0 where
  pub opens : (i : Inputs) → IsProgram i.image → ArePlansGood i
      → (n : ℕ) (x : MetricFocusPair) → slice_get (opening_state i).shown n ≡ Some x → is_leaving (state_of (opening_state i).machine.placer x.instrument.n) ≡ false
      → x.armed ≡ Some 0
  pub works : (i : Inputs) (quanta : List Quantum) (n : ℕ) (x : MetricFocusPair) (a : ℕ)
      → slice_get (opening_state i).shown n ≡ Some x → x.armed ≡ Some a → HasBecome (after_quanta i quanta).kept.shown n x
  pub closes : (i : Inputs) (quanta : List Quantum) (n : ℕ) (x : MetricFocusPair) (a : ℕ)
      → slice_get (opening_state i).shown n ≡ Some x → x.armed ≡ Some a → HasBecome (final_state i (after_quanta i quanta)).kept.shown n x

-- Where all wishes are for the opening, and none drops a pair, what is recorded of each pair that was wished is of the whole run, if time
-- passes between two due works.
abbrev pub PrintedTold : Type 0
PrintedTold = (i : Inputs) (quanta : List Quantum)
    → 1 ≤ i.settings.width → IsProgram i.image → ArePlansGood i → AreForOpening i → AreWholeRuns i (final_state i (after_quanta i quanta))

-- Where the window has a sample, time passes between two due works, and the time is within 64 bits, each node that was judged has
-- its verdict by the samples of an instrument of its own, and after the end each node has one or says why not.
pub record VerdictsTold : Type 0 where
  pub works : (i : Inputs) (quanta : List Quantum)
      → 1 ≤ i.settings.width → 1 ≤ (rules_of i).decl.window → (after_quanta i quanta).kept.time < 2 ^ 64 → AreJudged i (after_quanta i quanta)
  pub closes : (i : Inputs) (quanta : List Quantum) → 1 ≤ i.settings.width
      → 1 ≤ (rules_of i).decl.window → (final_state i (after_quanta i quanta)).kept.time < 2 ^ 64 → AreEnded i quanta (final_state i (after_quanta i quanta))

-- each node that is barred was barred in the course of these quanta, by the cause that it has
abbrev pub AreBarred : Inputs → List Quantum → State → Type 0
AreBarred i quanta s =
    (n : ℕ) (node : Node) (c : BarCause) → slice_get s.kept.search.nodes n ≡ Some node → node.state ≡ Barred c → WasBarred i quanta n node c

-- The costs are within the limit after each quantum and after the end.
pub record BarsTold : Type 0 where
  pub works : (i : Inputs) (quanta : List Quantum) → AreBarred i quanta (after_quanta i quanta)
  pub closes : (i : Inputs) (quanta : List Quantum) → AreBarred i quanta (final_state i (after_quanta i quanta))
