-- For proofs alone: what is kept beside a list of nodes, so that each is found at once.
use Rattle.std.specs.Prelude.{ℕ, ◌≡◌, ◌≤◌, ◌+◌, ◌==◌, nat_lt, if◌then◌else◌, List, [], ◌∷◌, length, map, vec_capacity}
use Rattle.std.specs.declared.vec.Vec.{Vec}
use Rattle.std.specs.declared.alloc.Global.{Global}
use Rattle.indexmap.specs.IndexSet.{IndexSet, spare}
use Rattle.w3_search.specs.declared.node.Node.{Node}
use Rattle.w3_search.specs.declared.place.NodePlace.{NodePlace}
use Rattle.w3_search.specs.Nodes.{active_of, with_node_changed, place_of, waiting_of, most_nodes}

-- the set has the nodes' places in their order, the nodes that wait and those under test are listed, and there is room for
-- the most nodes
pub record IsIndexed {S : Type 0} (list : List Node) (index : IndexSet NodePlace S) (waiting active : List ℕ) : Type 0 where
  pub few : length list ≤ most_nodes
  pub places : index.keys ≡ map place_of list
  pub waits : waiting ≡ waiting_of list
  pub under_test : active ≡ active_of list
  pub spare_places : most_nodes ≤ length list + spare index

-- there is room for the most nodes in each list
pub record HasRoom (nodes : Vec Node Global) (waiting active other : Vec ℕ Global) : Type 0 where
  pub for_nodes : most_nodes ≤ vec_capacity nodes
  pub for_waiting : most_nodes ≤ vec_capacity waiting
  pub for_active : most_nodes ≤ vec_capacity active
  pub for_others : most_nodes ≤ vec_capacity other

-- an ascending list with one number more
abbrev pub inserted : ℕ → List ℕ → List ℕ
inserted k [] = k ∷ []
inserted k (m ∷ ms) = if nat_lt m k then m ∷ inserted k ms else k ∷ m ∷ ms

-- a list without a number
abbrev pub without : ℕ → List ℕ → List ℕ
without k [] = []
without k (m ∷ ms) = if m == k then ms else m ∷ without k ms

-- the list with the nodes of these numbers changed
abbrev pub changed_each : (Node → Node) → List ℕ → List Node → List Node
changed_each f [] ns = ns
changed_each f (i ∷ is) ns = changed_each f is (with_node_changed f i ns)
