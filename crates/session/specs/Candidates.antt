-- For proofs alone: what is known of a pair before it is admitted, and what comes of its admission.
use Rattle.std.specs.Prelude.{◌≡◌, ℕ, ◌+◌, ◌<◌, ◌≤◌, ◌^◌, if◌then◌else◌, true, false, Option, Ok, Err, Some, None, List, [], ◌∷◌, is_none, is_some}
use Rattle.pn_types.specs.declared.focus.Focus.{Focus}
use Rattle.pn_types.specs.declared.plan.Plan.{Plan}
use Rattle.prim_code.specs.Counts.{predicted}
use Rattle.fold_hist.specs.Bins.{Histogram, hist_of}
use Rattle.resource_tree.specs.Foci.{harts_of_node}
use Rattle.mdl_check.specs.declared.checked.CheckedWish.{CheckedWish}
use Rattle.mdl_plan.specs.declared.fault.PlanFault.{PlanFault}
use Rattle.instrument.specs.Admission.{slot_count}
use Rattle.instrument.specs.Armable.{IsArmable}
use Rattle.instrument.specs.declared.number.InstrumentNo.{InstrumentNo}
use Rattle.session_spec.specs.declared.data.MetricFocusPair.{MetricFocusPair}
use Rattle.session_spec.specs.Inputs.{Inputs, planned}
use Rattle.session_spec.specs.Plans.{IsGood}
use Rattle.session_pairs.specs.declared.pair.SampledPair.{SampledPair}
use Rattle.session.specs.declared.candidate.Candidate.{Candidate}

-- ---- a pair

-- a plan that can be measured, is short, and can be armed
pub record IsShort (i : Inputs) (plan : Plan) : Type 0 where
  pub good : IsGood i plan
  pub words : predicted plan < 2 ^ 32
  pub slots : slot_count plan.vars < 2 ^ 32
  pub armable : IsArmable plan.opens

-- the plan of a metric at a focus, unless there is none by this fault
abbrev pub IsPlanOrFault : Inputs → ℕ → Focus → Option PlanFault → Plan → Type 0
IsPlanOrFault i metric focus None plan = (planned i metric focus ≡ Ok plan) × IsShort i plan
IsPlanOrFault i metric focus (Some fault) plan = planned i metric focus ≡ Err fault

-- a focus names a hart that there is
abbrev pub HasItsHarts : Inputs → Focus → Type 0
HasItsHarts i focus = (harts_of_node i.tree.harts focus.hart).0 + (harts_of_node i.tree.harts focus.hart).1 ≤ i.settings.harts

-- a histogram of no sample, where no node is tested
abbrev pub first_hist : Inputs → Option ℕ → Option Histogram
first_hist i node = if is_none node then Some (hist_of i.settings.bins []) else None

-- what is known of a candidate with its plan
pub record IsCandidate (i : Inputs) (plan : Plan) (c : Candidate) : Type 0 where
  pub planned : IsPlanOrFault i c.metric c.focus c.fault plan
  pub words : predicted plan < 2 ^ 32
  pub within : HasItsHarts i c.focus
  pub hist : c.hist ≡ first_hist i c.node

-- whose node, metric and focus these are
pub record IsPairOf (node : Option ℕ) (metric : ℕ) (focus : Focus) (c : Candidate) : Type 0 where
  pub node_is : c.node ≡ node
  pub metric_is : c.metric ≡ metric
  pub focus_is : c.focus ≡ focus

-- ---- wishes

-- what a wish needs to be looked at
abbrev pub IsOfWish : Inputs → CheckedWish → Plan → Option Candidate → Type 0
IsOfWish i w plan None = (w.show ≡ false) × (predicted plan < 2 ^ 32)
IsOfWish i w plan (Some c) = (w.show ≡ true) × IsPairOf None w.metric w.focus c × IsCandidate i plan c

-- the same for several
abbrev pub AreOfWishes : Inputs → List CheckedWish → List Plan → List (Option Candidate) → Type 0
AreOfWishes i [] [] [] = Unit {0}
AreOfWishes i (w ∷ ws) (plan ∷ plans) (c ∷ cs) = IsOfWish i w plan c × AreOfWishes i ws plans cs
AreOfWishes i ws plans cs = ⊥

-- ---- its instrument

-- what is shown or tested by the instrument of this number, which isn't armed yet
abbrev pub newly_shown : Candidate → InstrumentNo → MetricFocusPair
newly_shown c number = record { instrument = number; node = c.node; metric = c.metric; focus = c.focus; armed = None; from = 0 }

abbrev pub new_pair : Inputs → Plan → Candidate → InstrumentNo → SampledPair
new_pair i plan c number = record {
  shown = newly_shown c number;
  cost = if is_some c.node then predicted plan else 0;
  first = (harts_of_node i.tree.harts c.focus.hart).0;
  count = (harts_of_node i.tree.harts c.focus.hart).1;
  last = 0;
  hist = c.hist;
}
