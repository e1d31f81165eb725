-- When a report follows directives.
use Rattle.std.specs.Prelude.{◌≡◌, ◌≢◌, ◌⊎◌, if◌then◌else◌, ℕ, true, None, Some, List, slice_get}
use Rattle.std.specs.List.{list_any}
use Rattle.directives.specs.Acts.{expanded}
use Rattle.directives.specs.Laws.{IsAncestor, is_axis_prune, is_prune, last_threshold}
use Rattle.directives.specs.declared.directive.Directive.{Directive}
use Rattle.mdl_ast.specs.declared.items.Item.{Item}
use Rattle.mdl_shipped.specs.Shipped.{shipped_conf}
use Rattle.pn_types.specs.Texts.{axis_text}
use Rattle.pn_types.specs.declared.focus.Axis.{Axis}
use Rattle.pn_types.specs.declared.focus.Axis.TheVariants.{Code, Machine, SyncObject}
use Rattle.pn_types.specs.declared.focus.Focus.{Focus}
use Rattle.report.specs.declared.parts.NodePart.{NodePart}
use Rattle.report.specs.declared.parts.SearchPart.{SearchPart}
use Rattle.w3_search.specs.Testing.{holds}
use Rattle.w3_search.specs.declared.node.NodeState.TheVariants.{Confirmed, Rejected}

-- two foci with the same part on an axis
abbrev pub AreSameOn : Axis → Focus → Focus → Type 0
AreSameOn Code f g = f.code ≡ g.code
AreSameOn Machine f g = f.hart ≡ g.hart
AreSameOn SyncObject f g = f.object ≡ g.object

-- The printed nodes follow directives that were given with a configuration of these items. None is of a hypothesis that was pruned, or
-- had one that was as an ancestor. None differs from its parent along an axis that was taken from its hypothesis. Each verdict is by the
-- last threshold that its hypothesis was given, if it was given one.
pub record AreFollowed (items : List Item) (directives : List Directive) (printed : SearchPart) : Type 0 where
  pub pruned : (k : ℕ) (n : NodePart) → slice_get printed.nodes k ≡ Some n →
      (name : List ℕ) → list_any (λ d. is_prune name d.act) directives ≡ true →
      (n.hypothesis ≢ name) × (IsAncestor (expanded shipped_conf.items items) name n.hypothesis → ⊥)
  pub axes : (k parent : ℕ) (n p : NodePart) → slice_get printed.nodes k ≡ Some n →
      n.node.parent ≡ Some parent → slice_get printed.nodes parent ≡ Some p →
      (axis : Axis) → list_any (λ d. is_axis_prune n.hypothesis (axis_text axis) d.act) directives ≡ true →
      AreSameOn axis n.node.focus p.node.focus
  pub thresholds : (k : ℕ) (n : NodePart) → slice_get printed.nodes k ≡ Some n →
      (threshold : ℕ) → last_threshold n.hypothesis None directives ≡ Some threshold →
      (n.node.state ≡ Confirmed) ⊎ (n.node.state ≡ Rejected) →
      n.node.state ≡ (if holds n.node.value n.node.ticks threshold then Confirmed else Rejected)
