-- The focus of each node of a search names a hart that there is.
use Rattle.std.proofs.Common.{◌≡◌, ℕ, zero, suc, ◌+◌, ◌<◌, ◌≤◌, List, [], ◌∷◌, Option, Some, None, subst, arith, sym, map, inl, inr}
use Rattle.std.specs.Prelude.{Bool, true, false, slice_get, ◌⊎◌}
use Rattle.std.specs.List.{AllByRecursion, range_with_len}
use Rattle.pn_types.specs.declared.focus.Axis.{Axis}
use Rattle.pn_types.specs.declared.focus.Axis.TheVariants.{Code, Machine, SyncObject}
use Rattle.pn_types.specs.declared.focus.Focus.{Focus}
use Rattle.mdl_ast.specs.declared.items.Hypothesis.{Hypothesis}
use Rattle.resource_tree.specs.Foci as foci
use Rattle.resource_tree.specs.Foci.{IsBelow, code_children, flat_children, harts_of_node, with_code, with_hart, with_object}
use Rattle.resource_tree.specs.Resources.{Resources}
use Rattle.w3_search.specs.Refining.{axes_named, children, children_of, finer, finer_on, refinements}
use Rattle.w3_search.specs.History.{In, IsChild, IsHistory, IsRoot, lineage_of}
use Rattle.w3_search.specs.Steps.{SearchData}
use Rattle.w3_search.specs.declared.node.Node.{Node}
use Rattle.session_spec.proofs.Lists.{all_append, all_map, map_all}

-- of each element, as a history lists it
all_of : {A : Type 0} (P : A → Type 0) (xs : List A) (x : A) → AllByRecursion P xs → In x xs → P x
all_of P [] x a h = absurd h
all_of P (y ∷ ys) x a (inl e) = subst P (sym e) a.0
all_of P (y ∷ ys) x a (inr h) = all_of P ys x a.1 h

-- ---- the foci just below

module _ (tree : Resources) where
  abbrev Low : Focus → Type 0
  Low f = IsBelow tree.harts f.hart

  abbrev LowPair : ℕ × Focus → Type 0
  LowPair k = Low k.1

  ranged : (f : Focus) (a n : ℕ) → a + n ≤ tree.harts → AllByRecursion Low (map (with_hart f) (map Some (range_with_len a n)))
  ranged f a zero l = tt
  ranged f a (suc n) l = (omega arith, ranged f (a + 1) n (omega arith))

  on_machine : (f : Focus) (o : Option ℕ) → AllByRecursion Low (map (with_hart f) (flat_children tree.harts o))
  on_machine f None = ranged f 0 tree.harts (omega arith)
  on_machine f (Some h) = tt

  on_axis : (f : Focus) → Low f → (axis : Axis) → AllByRecursion Low (foci.children tree f axis)
  on_axis f l Code = all_map Low (with_code f) (code_children tree.code f.code) (λ c. l)
  on_axis f l Machine = on_machine f f.hart
  on_axis f l SyncObject = all_map Low (with_object f) _ (λ o. l)

  if_wanted : (f : Focus) → Low f → (wanted : Bool) (axis : Axis) → AllByRecursion Low (finer_on tree f wanted axis)
  if_wanted f l true axis = on_axis f l axis
  if_wanted f l false axis = tt

  finer_low : (f : Focus) → Low f → (names : List (List ℕ)) → AllByRecursion Low (finer tree f (axes_named names))
  finer_low f l names =
      let axes = axes_named names in
      all_append Low (finer_on tree f axes.code Code) _ (if_wanted f l axes.code Code)
      (all_append Low (finer_on tree f axes.machine Machine) (finer_on tree f axes.sync_object SyncObject) (if_wanted f l axes.machine Machine) (if_wanted f l axes.sync_object SyncObject))

  own_low : (hs : List Hypothesis) (h : ℕ) (f : Focus) → Low f → (o : Option Hypothesis) → AllByRecursion LowPair (children_of hs tree h f o)
  own_low hs h f l None = tt
  own_low hs h f l (Some own) =
      all_append LowPair (map (λ k. (k, f)) (refinements hs own.name)) _ (all_map LowPair (λ k. (k, f)) (refinements hs own.name) (λ k. l))
      (map_all Low LowPair (λ below. (h, below)) (finer tree f (axes_named own.axes)) (λ g k. k) (finer_low f l own.axes))

  children_low : (hs : List Hypothesis) (h : ℕ) (f : Focus) → Low f → AllByRecursion LowPair (children hs tree h f)
  unfolding children
  children_low hs h f l = own_low hs h f l (slice_get hs h)

-- ---- nodes

module _ (v : SearchData) (k : IsHistory v) where
  abbrev LowNode : Node → Type 0
  LowNode n = IsBelow v.rules.tree.harts n.focus.hart

  from_origin : (n : ℕ) (node : Node) → ((m : ℕ) (parent : Node) → m < n → slice_get v.nodes m ≡ Some parent → LowNode parent)
      → IsRoot v.rules (lineage_of node) ⊎ IsChild v.rules v.nodes n (lineage_of node) → LowNode node
  from_origin n node low (inl root) = subst (Low v.rules.tree) (sym root.2) tt
  from_origin n node low (inr child) =
      let parent = child.parent in
      all_of (LowPair v.rules.tree) (children v.rules.hypotheses v.rules.tree parent.hypothesis parent.focus) (node.hypothesis, node.focus)
      (children_low v.rules.tree v.rules.hypotheses parent.hypothesis parent.focus (low child.number parent child.lower child.stands)) child.child

  below : (b n : ℕ) (node : Node) → n < b → slice_get v.nodes n ≡ Some node → LowNode node
  below zero n node l e = absurd (omega arith)
  below (suc b) n node l e = from_origin n node (λ m parent less s. below b m parent (omega arith) s) (k.origin n node e)

pub within : (v : SearchData) → IsHistory v → (n : ℕ) (node : Node) → slice_get v.nodes n ≡ Some node → IsBelow v.rules.tree.harts node.focus.hart
within v k n node e = below v k (suc n) n node (omega arith) e

-- harts of a focus are among these
pub harts_within : (harts : ℕ) (hart : Option ℕ) → IsBelow harts hart → (harts_of_node harts hart).0 + (harts_of_node harts hart).1 ≤ harts
harts_within harts None l = omega arith
harts_within harts (Some h) l = omega arith
