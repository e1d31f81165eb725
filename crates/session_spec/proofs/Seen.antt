-- What holds of the nodes of a session's search, and of the instruments that test them.
use Rattle.std.proofs.Common.{◌≡◌, ℕ, ◌<◌, ◌≤◌, Bool, true, false, cond, Option, Some, Ok, List, [], ◌∷◌, length}
use Rattle.std.specs.Prelude.{◌==◌, ◌⊎◌, map, slice_get}
use Rattle.pn_types.specs.declared.plan.Plan.{Plan}
use Rattle.rv_mem.specs.Start.{program_of}
use Rattle.rv_exec.specs.Start.{start}
use Rattle.machine.specs.Measures.{measure}
use Rattle.instrument.specs.Placements.{Placements, is_leaving, state_of}
use Rattle.instrument.specs.declared.number.State.{State as Stage}
use Rattle.instrument.specs.declared.number.State.TheVariants.{Placing, Armed}
use Rattle.w3_search.specs.Refining.{threshold_of}
use Rattle.w3_search.specs.Testing.{holds}
use Rattle.w3_search.specs.declared.node.Node.{Node}
use Rattle.w3_search.specs.declared.node.NodeState.{NodeState}
use Rattle.w3_search.specs.declared.node.NodeState.TheVariants.{Active, Confirmed, Rejected, Unfinished}
use Rattle.w3_search.specs.Nodes.{is_open, is_waiting}
use Rattle.session_spec.specs.declared.data.MetricFocusPair.{MetricFocusPair}
use Rattle.session_spec.specs.Inputs.{Inputs, harts_of_focus, planned}
use Rattle.session_spec.specs.Searches.{metric_of, rules_of}
use Rattle.session_spec.specs.States.{SessionState}
use Rattle.session_spec.specs.Due.{measure_at}
use Rattle.session_spec.specs.Verdicts.{ticks_in}
use Rattle.session_spec.specs.Rosters.{AreBelow, AreNumbered}
use Rattle.session_spec.proofs.Grown.{Each}

-- ---- nodes

abbrev pub is_judged : NodeState → Bool
is_judged Confirmed = true
is_judged Rejected = true
is_judged state = false

-- nothing was seen of it
pub record IsBlank (n : Node) : Type 0 where
  pub seen : n.seen ≡ 0
  pub value : n.value ≡ 0
  pub ticks : n.ticks ≡ 0

-- It has its verdict, over a window that may be empty.
pub record IsRuled (i : Inputs) (owns : List ℕ) (n : Node) : Type 0 where
  pub plan : Plan
  pub planned : planned i (metric_of i n) n.focus ≡ Ok plan
  pub ordered : n.from ≤ n.to
  pub past : n.to ≤ length owns
  pub window : n.seen ≡ (rules_of i).decl.window
  pub value : n.value ≡ measure_at i owns plan (harts_of_focus i n.focus) n.from n.from n.to
  pub ticks : n.ticks ≡ ticks_in owns (harts_of_focus i n.focus) n.from n.to
  pub verdict : n.state ≡ cond (holds n.value n.ticks (threshold_of (rules_of i).hypotheses n.hypothesis)) Confirmed Rejected

-- One that was judged has its verdict. Nothing was seen of one that waits, and of one that is open, or ended so, less than its window.
pub record IsNode (i : Inputs) (owns : List ℕ) (n : Node) : Type 0 where
  pub judged : is_judged n.state ≡ true → IsRuled i owns n
  pub blank : is_waiting n.state ≡ true → IsBlank n
  pub few : is_open n.state ≡ true → n.seen < (rules_of i).decl.window
  pub unfinished : (k : ℕ) → n.state ≡ Unfinished k → (k ≡ n.seen) × (n.seen < (rules_of i).decl.window)

-- ---- the instruments that test them

-- It is armed: what its node's samples came to is what its plan measures from its arming to its last sample.
pub record IsRunning (i : Inputs) (owns : List ℕ) (node : Node) (plan : Plan) (x : MetricFocusPair) : Type 0 where
  pub at : ℕ
  pub armed : x.armed ≡ Some at
  pub ordered : at ≤ x.from
  pub past : x.from ≤ length owns
  pub value : node.value ≡ measure (program_of i.image) plan (harts_of_focus i node.focus) at at x.from owns (start i.image i.settings.harts)
  pub ticks : node.ticks ≡ ticks_in owns (harts_of_focus i node.focus) at x.from
  pub fresh : (node.seen == 0) ≡ true → x.from ≡ at
  pub going : (node.seen == 0) ≡ false → (node.from ≡ at) × (node.to ≡ x.from)

-- it tests node n, and is being placed or armed
pub record IsTest (i : Inputs) (owns : List ℕ) (stage : Stage) (ns : List Node) (n : ℕ) (x : MetricFocusPair) : Type 0 where
  pub node : Node
  pub stands : slice_get ns n ≡ Some node
  pub active : node.state ≡ Active
  pub metric : x.metric ≡ metric_of i node
  pub focus : x.focus ≡ node.focus
  pub plan : Plan
  pub planned : planned i (metric_of i node) node.focus ≡ Ok plan
  pub placing : stage ≡ Placing → IsBlank node
  pub running : stage ≡ Armed → IsRunning i owns node plan x

-- if it wasn't dropped: or D holds of the node
abbrev pub OneTest : Inputs → List ℕ → Placements → List Node → (ℕ → Type 0) → MetricFocusPair → Type 0
OneTest i owns p ns D x = (n : ℕ) → x.node ≡ Some n → is_leaving (state_of p x.instrument.n) ≡ false → D n ⊎ IsTest i owns (state_of p x.instrument.n) ns n x

abbrev pub AreTests : Inputs → List ℕ → Placements → List Node → (ℕ → Type 0) → List MetricFocusPair → Type 0
AreTests i owns p ns D [] = Unit {0}
AreTests i owns p ns D (x ∷ xs) = OneTest i owns p ns D x × AreTests i owns p ns D xs

-- ---- which nodes are tested, and by which instruments

pub record Tag : Type 0 where
  pub node : Option ℕ
  pub number : ℕ

abbrev pub tag : MetricFocusPair → Tag
tag s = record { node = s.node; number = s.instrument.n }

abbrev pub tags : List MetricFocusPair → List Tag
tags ss = map tag ss

-- no instrument has this number
abbrev pub NotBy : ℕ → List Tag → Type 0
NotBy m [] = Unit {0}
NotBy m (t ∷ ts) = (t.number ≡ m → ⊥) × NotBy m ts

abbrev pub AreApart : List Tag → Type 0
AreApart [] = Unit {0}
AreApart (t ∷ ts) = NotBy t.number ts × AreApart ts

-- none is or was of this node
abbrev pub NotOf : ℕ → List Tag → Type 0
NotOf n [] = Unit {0}
NotOf n (t ∷ ts) = (t.node ≡ Some n → ⊥) × NotOf n ts

abbrev pub AreAlone : List Tag → Type 0
AreAlone [] = Unit {0}
AreAlone (t ∷ ts) = ((n : ℕ) → t.node ≡ Some n → NotOf n ts) × AreAlone ts

-- a node that doesn't wait
pub record IsTaken (ns : List Node) (n : ℕ) : Type 0 where
  pub node : Node
  pub stands : slice_get ns n ≡ Some node
  pub taken : is_waiting node.state ≡ false

abbrev pub AreTaken : List Node → List Tag → Type 0
AreTaken ns [] = Unit {0}
AreTaken ns (t ∷ ts) = ((n : ℕ) → t.node ≡ Some n → IsTaken ns n) × AreTaken ns ts

-- ---- the whole

abbrev pub no_node : ℕ → Type 0
no_node n = ⊥

pub record IsSeen (i : Inputs) (owns : List ℕ) (k : SessionState) : Type 0 where
  pub rules : k.search.rules ≡ rules_of i
  pub time : k.time ≡ length owns
  pub roster : AreNumbered k.machine.placer
  pub below : AreBelow k.machine.placer.count k.shown
  pub apart : AreApart (tags k.shown)
  pub alone : AreAlone (tags k.shown)
  pub taken : AreTaken k.search.nodes (tags k.shown)
  pub nodes : Each (IsNode i owns) k.search.nodes
  pub tests : AreTests i owns k.machine.placer k.search.nodes no_node k.shown
