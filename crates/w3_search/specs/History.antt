-- What the nodes of a search tell: where each comes from, and that none is missing.
use Rattle.std.specs.Prelude.{ℕ, ◌≡◌, ◌<◌, ◌≤◌, ◌⊎◌, true, Option, Some, None, List, [], ◌∷◌, length, slice_get}
use Rattle.pn_types.specs.declared.focus.Focus.{Focus}
use Rattle.resource_tree.specs.Foci as foci
use Rattle.w3_search.specs.Refining.{children, roots}
use Rattle.w3_search.specs.declared.node.Node.{Node}
use Rattle.w3_search.specs.declared.node.NodeState.TheVariants.{Confirmed}
use Rattle.w3_search.specs.Nodes.{is_open, place, place_of, has_place, most_nodes}
use Rattle.w3_search.specs.Steps.{Rules, SearchData}

-- it is in the list
abbrev pub In : {X : Type 0} → X → List X → Type 0
In x [] = ⊥
In x (y ∷ ys) = (x ≡ y) ⊎ In x ys

-- where a node comes from, which stays as it is
pub record Lineage : Type 0 where
  pub phase : ℕ
  pub parent : Option ℕ
  pub hypothesis : ℕ
  pub focus : Focus

abbrev pub lineage_of : Node → Lineage
lineage_of n = record { phase = n.phase; parent = n.parent; hypothesis = n.hypothesis; focus = n.focus }

-- a root of its phase
abbrev pub IsRoot : Rules → Lineage → Type 0
IsRoot r s = (s.parent ≡ None) × In s.hypothesis (roots r.hypotheses) × (s.focus ≡ foci.root)

-- node i is a child of a confirmed node of a lower number in its phase, which is its parent
pub record IsChild (r : Rules) (ns : List Node) (i : ℕ) (s : Lineage) : Type 0 where
  pub number : ℕ
  pub parent : Node
  pub named : s.parent ≡ Some number
  pub lower : number < i
  pub stands : slice_get ns number ≡ Some parent
  pub confirmed : parent.state ≡ Confirmed
  pub phase : s.phase ≡ parent.phase
  pub child : In (s.hypothesis, s.focus) (children r.hypotheses r.tree parent.hypothesis parent.focus)

-- Each node is a root of a phase that has begun, or a child of a confirmed node. No two nodes stand at one place. Where
-- there are fewer nodes than there may be, each root of each phase that has begun and each child of each confirmed node
-- stands.
pub record IsHistory (v : SearchData) : Type 0 where
  pub begun : (i : ℕ) (n : Node) → slice_get v.nodes i ≡ Some n → n.phase ≤ v.present
  pub origin : (i : ℕ) (n : Node) → slice_get v.nodes i ≡ Some n → IsRoot v.rules (lineage_of n) ⊎ IsChild v.rules v.nodes i (lineage_of n)
  pub apart : (i j : ℕ) (m n : Node) → slice_get v.nodes i ≡ Some m → slice_get v.nodes j ≡ Some n → place_of m ≡ place_of n → i ≡ j
  pub roots : length v.nodes < most_nodes → (q h : ℕ) → q ≤ v.present → In h (roots v.rules.hypotheses)
      → has_place (place q h foci.root) v.nodes ≡ true
  pub families : length v.nodes < most_nodes → (i : ℕ) (n : Node) → slice_get v.nodes i ≡ Some n → n.state ≡ Confirmed
      → (h : ℕ) (f : Focus) → In (h, f) (children v.rules.hypotheses v.rules.tree n.hypothesis n.focus)
      → has_place (place n.phase h f) v.nodes ≡ true

-- this holds of each node that waits or is under test
abbrev pub AllOpen : (Node → Type 0) → List Node → Type 0
AllOpen P [] = Unit {0}
AllOpen P (n ∷ ns) = (is_open n.state ≡ true → P n) × AllOpen P ns

-- each of them has fewer samples than the window asks for
abbrev pub AreFew : ℕ → List Node → Type 0
AreFew window = AllOpen (λ n. n.seen < window)

-- each of them is of phase q
abbrev pub AreHere : ℕ → List Node → Type 0
AreHere q = AllOpen (λ n. n.phase ≡ q)
