use Rattle.std.proofs.Common.{◌≡◌, ◌∷◌, Some, sym, ◌∙◌, ap}
use Rattle.std.specs.Option.{option_map}
use Rattle.resource_tree.proofs.PartNames.{object_by_name}
use Rattle.resource_tree.proofs.focus.object_node.Goals as goal

pub returns-in_err-number : goal.returns-in_err-number
returns-in_err-number c names len e =
    let b : c.in-Some.field-0-0.now ∷ c.in-Some.name.now ≡ c.args.below.now = sym c.in-Some.ensures.cases.0 in
    c.from_residual.ensures ∙ ap (option_map Some) (sym c.in_err-number.was ∙ c.named.ensures)
    ∙ sym (object_by_name c.args.objects.now names c.in-Some.field-0-0.now c.in-Some.name.now len (b ∙ e))
