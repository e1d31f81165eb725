-- What the bins of a report tell of the program's own run.
use Rattle.std.specs.Prelude.{◌≡◌, ℕ, ◌≤◌, Some, None, Ok, List, [], length}
use Rattle.pn_types.specs.declared.plan.Plan.{Plan}
use Rattle.pn_types.specs.declared.quantum.Quantum.{Quantum}
use Rattle.resource_tree.specs.Foci.{canonical}
use Rattle.machine.specs.Cores.{In}
use Rattle.machine.specs.Laws.{IsProgram}
use Rattle.report.specs.declared.parts.ShownPart.{ShownPart}
use Rattle.session_spec.specs.declared.data.MetricFocusPair.{MetricFocusPair}
use Rattle.session_spec.specs.Inputs.{Inputs, planned}
use Rattle.session_spec.specs.Plans.{ArePlansGood}
use Rattle.session_spec.specs.States.{State}
use Rattle.session_spec.specs.Work.{final_state, after_quanta}
use Rattle.session_spec.specs.Bins.{AreMeasured}
use Rattle.session_spec.specs.Printed.{AreForOpening}
use Rattle.session.specs.Parts.{metric_of, name_of, parts_of}

-- The part of a pair that was wished. Its bins follow one another from its arming on, none is empty, and each is what its metric's plan
-- at its focus measures over it; where it wasn't armed it has none.
pub record IsPartOf (i : Inputs) (s : State) (part : ShownPart) : Type 0 where
  pub x : MetricFocusPair
  pub listed : In x s.kept.shown
  pub wished : x.node ≡ None
  pub metric : part.metric ≡ name_of (metric_of i x.metric)
  pub focus : part.focus ≡ canonical i.tree x.focus
  pub from : part.from ≡ x.armed
  pub plan : Plan
  pub planned : planned i x.metric x.focus ≡ Ok plan
  pub none : x.armed ≡ None → part.bins ≡ []
  pub bins : (a : ℕ) → x.armed ≡ Some a → AreMeasured i s.owns plan x.focus a a part.bins x.from

-- It was armed at time 0, and its bins go through the whole run.
pub record IsWholePart (i : Inputs) (s : State) (part : ShownPart) : Type 0 where
  pub part_of : IsPartOf i s part
  pub armed : part.from ≡ Some 0
  pub to : (part_of.x).from ≡ length s.owns

-- ---- the parts of a report

abbrev pub AreParts : Inputs → State → Type 0
AreParts i s = (part : ShownPart) → In part (parts_of i s).shown → IsPartOf i s part

abbrev pub AreWholeParts : Inputs → State → Type 0
AreWholeParts i s = (part : ShownPart) → In part (parts_of i s).shown → IsWholePart i s part

-- This holds after each quantum and after the end, where time passes between two due works. Where all wishes are for the opening,
-- and none drops a pair, they are whole.
pub record PartsTold : Type 0 where
  pub works : (i : Inputs) (quanta : List Quantum) → 1 ≤ i.settings.width → AreParts i (after_quanta i quanta)
  pub closes : (i : Inputs) (quanta : List Quantum) → 1 ≤ i.settings.width → AreParts i (final_state i (after_quanta i quanta))
  pub whole : (i : Inputs) (quanta : List Quantum)
      → 1 ≤ i.settings.width → IsProgram i.image → ArePlansGood i → AreForOpening i → AreWholeParts i (final_state i (after_quanta i quanta))
