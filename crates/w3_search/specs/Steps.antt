-- What a due work does to a search.
use Rattle.std.specs.Prelude.{ℕ, ◌≡◌, ◌+◌, ◌==◌, ◌&&◌, ◌^◌, not, nat_le, nat_lt, if◌then◌else◌, Bool, false, Option, Some, None, List, [], ◌∷◌, ◌++◌, drop, filter, map, slice_get, IsSomeAnd}
use Rattle.pn_types.specs.declared.focus.Focus.{Focus}
use Rattle.mdl_ast.specs.declared.items.Hypothesis.{Hypothesis}
use Rattle.mdl_ast.specs.declared.items.SearchDecl.{SearchDecl}
use Rattle.mdl_ast.specs.declared.items.PhaseDecl.{PhaseDecl}
use Rattle.resource_tree.specs.Foci as foci
use Rattle.resource_tree.specs.Resources.{Resources}
use Rattle.w3_search.specs.Testing.{holds}
use Rattle.w3_search.specs.Refining.{children, roots, threshold_of}
use Rattle.w3_search.specs.declared.node.Node.{Node}
use Rattle.w3_search.specs.declared.node.NodeSample.{NodeSample}
use Rattle.w3_search.specs.declared.node.NodeState.{NodeState}
use Rattle.w3_search.specs.declared.node.NodeState.TheVariants.{Confirmed, Rejected, Waiting}
use Rattle.w3_search.specs.Nodes.{active_of, with_node_changed, node_at_end, in_state, is_active, is_active_at, is_confirmed, node_numbers_from, sampled, unfinished, with_node}

-- what a search goes by: the hypotheses, its window, the phases after the first, and the tree of the foci
pub record Rules : Type 0 where
  pub hypotheses : List Hypothesis
  pub decl : SearchDecl
  pub phases : List PhaseDecl
  pub tree : Resources

-- a search: its nodes, the number of the phase that it is in, and the nodes whose instruments are to be dropped
pub record SearchData : Type 0 where
  pub rules : Rules
  pub nodes : List Node
  pub present : ℕ
  pub drops : List ℕ

-- ---- samples

-- the node with its verdict, where it has as many samples as the window asks for
abbrev pub with_verdict : List Hypothesis → ℕ → Node → Node
with_verdict hs window n = record n {
  state = if n.seen == window
      then (if holds n.value n.ticks (threshold_of hs n.hypothesis) then Confirmed else Rejected)
      else n.state;
}

-- a node takes a sample where it is under test, and its ticks stay in 64 bits
abbrev pub may_take : NodeSample → Node → Bool
may_take s n = is_active n.state && nat_lt (n.ticks + s.ticks) (2 ^ 64)

-- one sample, which ends at t
abbrev pub with_sample : List Hypothesis → ℕ → ℕ → NodeSample → List Node → List Node
with_sample hs window t s ns = with_node_changed (λ n. if may_take s n then with_verdict hs window (sampled t s n) else n) s.node ns

abbrev pub with_samples : List Hypothesis → ℕ → ℕ → List NodeSample → List Node → List Node
with_samples hs window t [] ns = ns
with_samples hs window t (s ∷ ss) ns = with_samples hs window t ss (with_sample hs window t s ns)

-- the numbers of the nodes that were under test, and are no more
abbrev pub ended_tests : List Node → List Node → List ℕ
ended_tests before now = filter (λ i. not (is_active_at now i)) (active_of before)

-- ---- children

-- these children of node i
abbrev pub with_children : ℕ → ℕ → List (ℕ × Focus) → List Node → List Node
with_children phase i [] ns = ns
with_children phase i (k ∷ ks) ns = with_children phase i ks (with_node phase (Some i) k.0 k.1 ns)

-- the children of node i, if it is confirmed
abbrev pub with_family_of : List Hypothesis → Resources → ℕ → Option Node → List Node → List Node
with_family_of hs tree i None ns = ns
with_family_of hs tree i (Some n) ns =
    if is_confirmed n.state then with_children n.phase i (children hs tree n.hypothesis n.focus) ns else ns

unfoldable pub with_family : List Hypothesis → Resources → ℕ → List Node → List Node
with_family hs tree i ns = with_family_of hs tree i (slice_get ns i) ns

-- the children of those of these nodes that are confirmed
abbrev pub with_families : List Hypothesis → Resources → List ℕ → List Node → List Node
with_families hs tree [] ns = ns
with_families hs tree (i ∷ is) ns = with_families hs tree is (with_family hs tree i ns)

-- ---- phases

-- these roots of a phase, at the focus of all
abbrev pub with_roots : ℕ → List ℕ → List Node → List Node
with_roots phase [] ns = ns
with_roots phase (h ∷ hs) ns = with_roots phase hs (with_node phase None h foci.root ns)

-- the numbers of the nodes of phase q that are under test
abbrev pub active_in : ℕ → List Node → List ℕ
active_in q ns = node_numbers_from (λ n. (n.phase == q) && is_active n.state) 0 ns

-- the next phase begins: the open nodes of the one before end, and its roots are made
abbrev pub with_next_phase : SearchData → SearchData
with_next_phase v = record v {
  nodes = with_roots (v.present + 1) (roots v.rules.hypotheses) (map (unfinished v.present) v.nodes);
  present = v.present + 1;
  drops = v.drops ++ active_in v.present v.nodes;
}

-- the first of these phases is due at t
abbrev pub is_due : ℕ → List PhaseDecl → Bool
is_due t [] = false
is_due t (p ∷ ps) = nat_le p.at t

-- those of these phases begin that are due at t. Their ticks ascend, so these stand in front
abbrev pub with_phases : ℕ → List PhaseDecl → SearchData → SearchData
with_phases t [] v = v
with_phases t (p ∷ ps) v = if nat_le p.at t then with_phases t ps (with_next_phase v) else v

-- ---- the step

-- a due work at t: the samples, each with the verdict that it brings
abbrev pub with_all_samples : ℕ → List NodeSample → SearchData → SearchData
with_all_samples t samples v = record v {
  nodes = with_samples v.rules.hypotheses v.rules.decl.window t samples v.nodes;
  drops = ended_tests v.nodes (with_samples v.rules.hypotheses v.rules.decl.window t samples v.nodes);
}

-- then the children of the nodes that were confirmed
abbrev pub with_all_families : SearchData → SearchData
with_all_families v = record v { nodes = with_families v.rules.hypotheses v.rules.tree v.drops v.nodes }

-- then the phases that are due
abbrev pub with_all_phases : ℕ → SearchData → SearchData
with_all_phases t v = with_phases t (drop v.present v.rules.phases) v

unfoldable pub search_step : ℕ → List NodeSample → SearchData → SearchData
search_step t samples v = with_all_phases t (with_all_families (with_all_samples t samples v))

-- a new search: the roots of the first phase
abbrev pub new_search : Rules → SearchData
new_search r = record { rules = r; nodes = with_roots 0 (roots r.hypotheses) []; present = 0; drops = [] }

-- a node that waited is under test, or barred
abbrev pub with_state : ℕ → NodeState → SearchData → SearchData
with_state i state v = record v { nodes = with_node_changed (in_state state) i v.nodes }

-- the search ends
abbrev pub with_end : SearchData → SearchData
with_end v = record v { nodes = map node_at_end v.nodes }

-- the node waits
abbrev pub Waits : ℕ → List Node → Type 0
Waits i ns = IsSomeAnd (slice_get ns i) (λ n. n.state ≡ Waiting)
