use Rattle.std.proofs.Common.{ap, sym, ◌∙◌, slice_get, length}
use Rattle.pn_types.specs.declared.focus.CodePart.{CodePart}
use Rattle.pn_types.specs.declared.focus.CodePart.TheVariants.{Module}
use Rattle.resource_tree.specs.Foci.{code_children}
use Rattle.resource_tree.proofs.Ranges.{range_at, range_past}
use Rattle.resource_tree.proofs.children.code_child.Goals as goal

pub returns-then-number-len : goal.returns-then-number-len
returns-then-number-len c =
    sym (ap (λ (node : CodePart). slice_get (code_children c.args.code.now node) c.args.number) c.in-All.is
    ∙ range_past Module (length c.args.code.now.modules) c.args.number (rw c.len.ensures at c.if-number-len.true))

pub returns-else-number-len : goal.returns-else-number-len
returns-else-number-len c =
    sym (ap (λ (node : CodePart). slice_get (code_children c.args.code.now node) c.args.number) c.in-All.is
    ∙ range_at Module (length c.args.code.now.modules) c.args.number (rw c.len.ensures at c.if-number-len.false))
