-- For proofs alone: what holds of the parts of a search.
use Rattle.std.specs.Prelude.{ℕ, ◌≡◌, ◌≤◌, ◌<◌, ◌^◌, Some, List, length, slice_get, vec_capacity}
use Rattle.std.specs.declared.vec.Vec.{Vec}
use Rattle.std.specs.declared.alloc.Global.{Global}
use Rattle.mdl_ast.specs.declared.items.PhaseDecl.{PhaseDecl}
use Rattle.w3_search.specs.Nodes.{most_nodes}
use Rattle.w3_search.specs.declared.node.Node.{Node}
use Rattle.w3_search.specs.History.{AreFew, AreHere, In}

-- the nodes of these numbers are of phase q
abbrev pub AreOf : ℕ → List ℕ → List Node → Type 0
AreOf q is ns = (i : ℕ) (n : Node) → In i is → slice_get ns i ≡ Some n → n.phase ≡ q

pub record IsState (window : ℕ) (phases : List PhaseDecl) (nodes : List Node) (present : ℕ) (drops : Vec ℕ Global) : Type 0 where
  pub some : 1 ≤ window
  pub begun : present ≤ length phases
  pub numbered : length phases < 2 ^ 32
  pub room : most_nodes ≤ vec_capacity drops
  pub few : AreFew window nodes
  pub here : AreHere present nodes
