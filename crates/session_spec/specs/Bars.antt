-- Why a node of a session's search can't be tested.
use Rattle.std.specs.Prelude.{◌≡◌, ◌⊎◌, ℕ, Some, Ok, Err, List, ◌∷◌, ◌++◌, false, nat_lt, take, true}
use Rattle.pn_types.specs.declared.pick.BarCause.{BarCause}
use Rattle.pn_types.specs.declared.plan.Plan.{Plan}
use Rattle.pn_types.specs.declared.quantum.Quantum.{Quantum}
use Rattle.mdl_plan.specs.declared.fault.PlanFault.{PlanFault}
use Rattle.prim_code.specs.Counts.{predicted}
use Rattle.instrument.specs.Placements.{admission}
use Rattle.instrument.specs.declared.number.Refused.{Refused}
use Rattle.w3_search.specs.declared.node.Node.{Node}
use Rattle.w3_search.specs.Nodes.{waiting_of}
use Rattle.session_spec.specs.Inputs.{Inputs, planned}
use Rattle.session_spec.specs.Searches.{bar_of_plan, bar_of_refusal, metric_of, rules_of}
use Rattle.session_spec.specs.States.{SessionState}
use Rattle.session_spec.specs.Admission.{with_wishes}
use Rattle.session_spec.specs.Opening.{wished}
use Rattle.session_spec.specs.Tests.{in_force, is_full, must_wait, taken_at_once, with_nodes}
use Rattle.session_spec.specs.Work.{after_quanta}

-- ---- by what

-- there is no plan of its metric at its focus, by this cause
pub record HasNoPlan (i : Inputs) (n : Node) (c : BarCause) : Type 0 where
  pub fault : PlanFault
  pub planned : planned i (metric_of i n) n.focus ≡ Err fault
  pub cause : bar_of_plan fault ≡ c

-- there is a plan, which needn't wait for the tests in force to end; but no instrument of it could be admitted, by this cause
pub record HasNoRoom (i : Inputs) (k : SessionState) (n : Node) (c : BarCause) : Type 0 where
  pub plan : Plan
  pub planned : planned i (metric_of i n) n.focus ≡ Ok plan
  pub waits : must_wait (rules_of i).decl.cost (predicted plan) (in_force i k.machine.placer k.shown) ≡ false
  pub refused : Refused
  pub refusal : admission k.machine.placer plan (Some (rules_of i).decl.cost) ≡ Err refused
  pub cause : bar_of_refusal refused ≡ Some c

-- the cause is the one that planning gave, or admission
abbrev pub IsBarredBy : Inputs → SessionState → Node → BarCause → Type 0
IsBarredBy i k n c = HasNoPlan i n c ⊎ HasNoRoom i k n c

-- ---- when

-- In the course of these quanta nodes could be taken in k: at the opening, after its wishes, or at the admission with which a
-- quantum began, after the wishes that were due then.
abbrev pub WasOffered : Inputs → List Quantum → SessionState → Type 0
WasOffered i quanta k =
    (k ≡ wished i)
    ⊎ ((first : List Quantum) × (q : Quantum) × (rest : List Quantum) × (quanta ≡ first ++ q ∷ rest) × ((after_quanta i first).kept.worked ≡ true)
    × (k ≡ with_wishes i (after_quanta i first).kept.wishes (after_quanta i first).kept))

-- The turn of node n comes in j, where nodes are taken in k one after another: the observed cost isn't above its limit then, and there
-- may be one more instrument.
pub record IsTurnOf (i : Inputs) (k j : SessionState) (n : ℕ) : Type 0 where
  pub observed : nat_lt (rules_of i).decl.observed k.observed ≡ false
  pub before : List ℕ
  pub behind : List ℕ
  pub taken : take taken_at_once (waiting_of k.search.nodes) ≡ before ++ n ∷ behind
  pub is : j ≡ with_nodes i before k
  pub room : is_full j.machine.placer ≡ false

-- Node n was barred when its turn came, by the cause that planning gave, or admission to what was placed then.
pub record WasBarred (i : Inputs) (quanta : List Quantum) (n : ℕ) (node : Node) (c : BarCause) : Type 0 where
  pub offer : SessionState
  pub offered : WasOffered i quanta offer
  pub now : SessionState
  pub turn : IsTurnOf i offer now n
  pub cause : IsBarredBy i now node c
