-- The nodes of a search.
use Rattle.std.specs.Prelude.{ℕ, zero, suc, ◌+◌, ◌%◌, ◌^◌, ◌==◌, ◌&&◌, not, nat_lt, if◌then◌else◌, Bool, true, false, Option, Some, None, List, [], ◌∷◌, ◌++◌, length, slice_get}
use Rattle.std.specs.List.{list_any}
use Rattle.std.specs.Option.{option_map_or}
use Rattle.pn_types.specs.declared.focus.Focus.{Focus}
use Rattle.resource_tree.specs.SameNodes.{is_same_code}
pub use Rattle.resource_tree.specs.SameNodes.{is_same_number}
use Rattle.w3_search.specs.declared.node.Node.{Node}
use Rattle.w3_search.specs.declared.node.NodeSample.{NodeSample}
use Rattle.w3_search.specs.declared.node.NodeState.{NodeState}
use Rattle.w3_search.specs.declared.node.NodeState.TheVariants.{Waiting, Active, Confirmed, Unfinished}
use Rattle.w3_search.specs.declared.place.NodePlace.{NodePlace}

-- ---- states

abbrev pub is_waiting : NodeState → Bool
is_waiting Waiting = true
is_waiting state = false

abbrev pub is_active : NodeState → Bool
is_active Active = true
is_active state = false

abbrev pub is_confirmed : NodeState → Bool
is_confirmed Confirmed = true
is_confirmed state = false

-- it waits or is under test
abbrev pub is_open : NodeState → Bool
is_open Waiting = true
is_open Active = true
is_open state = false

-- ---- places

abbrev pub place : ℕ → ℕ → Focus → NodePlace
place phase hypothesis focus =
    record { phase = phase; hypothesis = hypothesis; code = focus.code; hart = focus.hart; object = focus.object }

abbrev pub place_of : Node → NodePlace
place_of n = place n.phase n.hypothesis n.focus

abbrev pub is_same_place : NodePlace → NodePlace → Bool
is_same_place a b =
    (a.phase == b.phase) && ((a.hypothesis == b.hypothesis) && (is_same_code a.code b.code
    && (is_same_number a.hart b.hart && is_same_number a.object b.object)))

-- a node stands at this place
abbrev pub has_place : NodePlace → List Node → Bool
has_place p ns = list_any (λ n. is_same_place p (place_of n)) ns

-- ---- new nodes

-- a node that waits
abbrev pub new_node : ℕ → Option ℕ → ℕ → Focus → Node
new_node phase parent hypothesis focus = record {
  phase = phase;
  parent = parent;
  hypothesis = hypothesis;
  focus = focus;
  state = Waiting;
  seen = 0;
  from = 0;
  to = 0;
  value = 0;
  ticks = 0;
}

-- the greatest number of nodes
abbrev pub most_nodes : ℕ
most_nodes = 4096

-- one more node may be made at this place: none stands there, and there are fewer than there may be
abbrev pub is_free : NodePlace → List Node → Bool
is_free p ns = nat_lt (length ns) most_nodes && not (has_place p ns)

-- the nodes with one more, if it may be made
abbrev pub with_node : ℕ → Option ℕ → ℕ → Focus → List Node → List Node
with_node phase parent hypothesis focus ns =
    if is_free (place phase hypothesis focus) ns then ns ++ new_node phase parent hypothesis focus ∷ [] else ns

-- ---- numbers of nodes

-- the numbers of the nodes that pass a test, of which the first has number i
abbrev pub node_numbers_from : (Node → Bool) → ℕ → List Node → List ℕ
node_numbers_from passes i [] = []
node_numbers_from passes i (n ∷ ns) = if passes n then i ∷ node_numbers_from passes (i + 1) ns else node_numbers_from passes (i + 1) ns

-- the numbers of the nodes that wait
abbrev pub waiting_of : List Node → List ℕ
waiting_of ns = node_numbers_from (λ n. is_waiting n.state) 0 ns

-- the numbers of the nodes that are under test
abbrev pub active_of : List Node → List ℕ
active_of ns = node_numbers_from (λ n. is_active n.state) 0 ns

-- the node of this number is under test
abbrev pub is_active_at : List Node → ℕ → Bool
is_active_at ns i = option_map_or (λ n. is_active n.state) (slice_get ns i) false

-- ---- changes

-- the list with the node of number i changed
abbrev pub with_node_changed : (Node → Node) → ℕ → List Node → List Node
with_node_changed f i [] = []
with_node_changed f zero (n ∷ ns) = f n ∷ ns
with_node_changed f (suc i) (n ∷ ns) = n ∷ with_node_changed f i ns

-- the node with one sample more, which ends at t
abbrev pub sampled : ℕ → NodeSample → Node → Node
sampled t s n = record n {
  seen = n.seen + 1;
  from = if n.seen == 0 then s.from else n.from;
  to = t;
  value = (n.value + s.value) % 2 ^ 64;
  ticks = n.ticks + s.ticks;
}

-- in another state
abbrev pub in_state : NodeState → Node → Node
in_state state n = record n { state = state }

-- when its phase, q, ends
abbrev pub unfinished : ℕ → Node → Node
unfinished q n = record n { state = if (n.phase == q) && is_open n.state then Unfinished n.seen else n.state }

-- when the search ends
abbrev pub node_at_end : Node → Node
node_at_end n = record n { state = if is_open n.state then Unfinished n.seen else n.state }
