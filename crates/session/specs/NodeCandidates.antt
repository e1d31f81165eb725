-- For proofs alone: what is known of nodes that wait before they are taken.
use Rattle.std.specs.Prelude.{◌≡◌, ℕ, ◌+◌, ◌<◌, ◌^◌, ◌⊎◌, if◌then◌else◌, true, Option, Some, None, Ok, List, [], ◌∷◌, is_some, map, nat_lt, slice_get, take}
use Rattle.pn_types.specs.declared.plan.Plan.{Plan}
use Rattle.prim_code.specs.Counts.{predicted}
use Rattle.instrument.specs.Placements.{Placements, state_of}
use Rattle.w3_search.specs.declared.node.Node.{Node}
use Rattle.w3_search.specs.declared.node.NodeState.{NodeState}
use Rattle.w3_search.specs.Nodes.{waiting_of}
use Rattle.w3_search.specs.Steps.{SearchData, new_search, with_state}
use Rattle.session_spec.specs.declared.data.MetricFocusPair.{MetricFocusPair}
use Rattle.session_spec.specs.Inputs.{Inputs, planned}
use Rattle.session_spec.specs.Searches.{metric_of, rules_of}
use Rattle.session_spec.specs.Tests.{is_gone, must_wait, taken_at_once, words_of}
use Rattle.session_pairs.specs.declared.pair.SampledPair.{SampledPair}
use Rattle.session.specs.Candidates.{IsCandidate, IsPairOf, HasItsHarts}
use Rattle.session.specs.declared.candidate.Candidate.{Candidate}

-- ---- the beginning

-- the search before anything is tested
unfoldable pub first_search : Inputs → SearchData
first_search i = new_search (rules_of i)

-- ---- which nodes are taken

abbrev pub queue_of : Inputs → ℕ → SearchData → List ℕ
queue_of i observed search = if nat_lt (rules_of i).decl.observed observed then [] else take taken_at_once (waiting_of search.nodes)

-- node n stands, and its focus names a hart that there is
abbrev pub IsNodeWithHarts : Inputs → List Node → ℕ → Type 0
IsNodeWithHarts i nodes n = (node : Node) × (slice_get nodes n ≡ Some node) × HasItsHarts i node.focus

-- ---- what a node needs to be taken

pub record IsNodeCandidate (i : Inputs) (nodes : List Node) (plan : Plan) (c : Candidate) : Type 0 where
  pub number : ℕ
  pub node : Node
  pub stands : slice_get nodes number ≡ Some node
  pub pair : IsPairOf (Some number) (metric_of i node) node.focus c
  pub candidate : IsCandidate i plan c

-- the same for several
abbrev pub AreNodeCandidates : Inputs → List Node → List Plan → List Candidate → Type 0
AreNodeCandidates i nodes [] [] = Unit {0}
AreNodeCandidates i nodes (plan ∷ plans) (c ∷ cs) = IsNodeCandidate i nodes plan c × AreNodeCandidates i nodes plans cs
AreNodeCandidates i nodes plans cs = ⊥

-- their numbers
abbrev pub number_or_none : Option ℕ → ℕ
number_or_none None = 0
number_or_none (Some n) = n

abbrev pub candidate_number : Candidate → ℕ
candidate_number c = number_or_none c.node

abbrev pub numbers_in : List Candidate → List ℕ
numbers_in cs = map candidate_number cs

-- ---- which nodes aren't taken

-- node n keeps waiting where the costs in force are these
pub record MustWait (i : Inputs) (nodes : List Node) (force : ℕ) (n : ℕ) : Type 0 where
  pub node : Node
  pub stands : slice_get nodes n ≡ Some node
  pub plan : Plan
  pub planned : planned i (metric_of i node) node.focus ≡ Ok plan
  pub waits : must_wait (rules_of i).decl.cost (predicted plan) force ≡ true

-- the first are the second without some that keep waiting
abbrev pub AreWithout : Inputs → List Node → ℕ → List ℕ → List ℕ → Type 0
AreWithout i nodes force [] [] = Unit {0}
AreWithout i nodes force [] (m ∷ ms) = ⊥
AreWithout i nodes force (n ∷ ns) [] = MustWait i nodes force n × AreWithout i nodes force ns []
AreWithout i nodes force (n ∷ ns) (m ∷ ms) =
    ((n ≡ m) × AreWithout i nodes force ns ms) ⊎ (MustWait i nodes force n × AreWithout i nodes force ns (m ∷ ms))

-- ---- the costs in force

-- what an instrument adds to the costs in force
abbrev pub cost_of : Inputs → MetricFocusPair → ℕ
cost_of i s = if is_some s.node then words_of i s else 0

-- its cost is what it adds, and has 32 bits
abbrev pub HasCost : Inputs → SampledPair → Type 0
HasCost i k = (k.cost ≡ cost_of i k.shown) × (k.cost < 2 ^ 32)

-- what a pair adds to them
abbrev pub counted : Placements → SampledPair → ℕ
counted p k = if is_gone (state_of p k.shown.instrument.n) then 0 else k.cost

abbrev pub force_in : Placements → List SampledPair → ℕ
force_in p [] = 0
force_in p (k ∷ ks) = counted p k + force_in p ks

-- ---- what comes of a node that is taken

-- no other node is changed, and of this its state alone
abbrev pub IsOneChanged : ℕ → SearchData → SearchData → Type 0
IsOneChanged n old new = (new ≡ old) ⊎ ((state : NodeState) × (new ≡ with_state n state old))
