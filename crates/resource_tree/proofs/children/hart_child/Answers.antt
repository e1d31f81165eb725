use Rattle.std.proofs.Common.{ap, sym, ◌∙◌, slice_get, Option, Some, ℕ}
use Rattle.resource_tree.specs.Foci.{flat_children}
use Rattle.resource_tree.proofs.Ranges.{range_at, range_past}
use Rattle.resource_tree.proofs.children.hart_child.Goals as goal

pub returns-then-number-harts : goal.returns-then-number-harts
returns-then-number-harts c =
    sym (ap (λ (node : Option ℕ). slice_get (flat_children c.args.harts node) c.args.number) c.in-None.is ∙ range_past Some c.args.harts c.args.number c.if-number-harts.true)

pub returns-else-number-harts : goal.returns-else-number-harts
returns-else-number-harts c =
    ap (λ (n : ℕ). Some (Some n)) c.numbered.ensures
    ∙ sym (ap (λ (node : Option ℕ). slice_get (flat_children c.args.harts node) c.args.number) c.in-None.is ∙ range_at Some c.args.harts c.args.number c.if-number-harts.false)
