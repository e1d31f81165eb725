-- For proofs alone: what is known of the costs of plans.
use Rattle.std.specs.Prelude.{◌≡◌, ℕ, ◌<◌, ◌^◌, Option, Some, None, Ok, List}
use Rattle.std.specs.List.{AllByRecursion}
use Rattle.pn_types.specs.declared.focus.Focus.{Focus}
use Rattle.pn_types.specs.declared.plan.Plan.{Plan}
use Rattle.prim_code.specs.Counts.{predicted}
use Rattle.session_spec.specs.Inputs.{Inputs, planned}
use Rattle.session.specs.declared.known_costs.KnownCost.{KnownCost}

-- the plan of a metric at a focus costs this number of words
pub record IsCost (i : Inputs) (metric : ℕ) (focus : Focus) (words : ℕ) : Type 0 where
  pub plan : Plan
  pub planned : planned i metric focus ≡ Ok plan
  pub is : predicted plan ≡ words
  pub low : words < 2 ^ 32

abbrev pub IsKnown : Inputs → Option KnownCost → Type 0
IsKnown i None = Unit {0}
IsKnown i (Some cost) = IsCost i cost.metric cost.focus cost.words

abbrev pub AreKnown : Inputs → List (Option KnownCost) → Type 0
AreKnown i costs = AllByRecursion (IsKnown i) costs
