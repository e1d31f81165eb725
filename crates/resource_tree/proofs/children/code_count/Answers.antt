use Rattle.std.proofs.Common.{ap, sym, ◌∙◌, length}
use Rattle.std.proofs.lemmas.List.FromFn.{length-map-range_with_len}
use Rattle.pn_types.specs.declared.focus.CodePart.{CodePart}
use Rattle.pn_types.specs.declared.focus.CodePart.TheVariants.{Module}
use Rattle.resource_tree.specs.Foci.{code_children}
use Rattle.resource_tree.proofs.children.code_count.Goals as goal

pub returns-in-All : goal.returns-in-All
returns-in-All c =
    c.len.ensures
    ∙ sym (ap (λ (node : CodePart). length (code_children c.args.code.now node)) c.in-All.is ∙ length-map-range_with_len Module 0 (length c.args.code.now.modules))
