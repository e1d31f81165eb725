use Rattle.std.proofs.Common.{ap, sym, ◌∙◌, slice_get, Option, Some, ℕ}
use Rattle.resource_tree.specs.Foci.{flat_children}
use Rattle.resource_tree.proofs.Ranges.{range_at, range_past}
use Rattle.resource_tree.proofs.children.object_child.Goals as goal

pub returns-then-number-objects : goal.returns-then-number-objects
returns-then-number-objects c =
    sym (ap (λ (node : Option ℕ). slice_get (flat_children c.args.objects node) c.args.number) c.in-None.is ∙ range_past Some c.args.objects c.args.number c.if-number-objects.true)

pub returns-else-number-objects : goal.returns-else-number-objects
returns-else-number-objects c =
    sym (ap (λ (node : Option ℕ). slice_get (flat_children c.args.objects node) c.args.number) c.in-None.is ∙ range_at Some c.args.objects c.args.number c.if-number-objects.false)
