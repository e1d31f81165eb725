use Rattle.std.proofs.Common.{List, length, sym, ap, ◌∙◌}
use Rattle.std.proofs.lemmas.List.{length-map}
use Rattle.resource_tree.specs.Columns.{objects_at}
use Rattle.resource_tree.specs.Resources.{ObjectNode}
use Rattle.resource_tree.proofs.Columns.{names_held}
use Rattle.resource_tree.proofs.objects.Objects.len.Goals as goal

pub returns : goal.returns
returns c =
    let names = c.self.inside.names in
    let ats = c.self.inside.addresses.items in
    c.len.ensures
    ∙ ap length (sym (names_held names ats c.self.invariant.even))
    ∙ length-map (objects_at names ats) (λ o. o.name)
    ∙ ap (λ (os : List ObjectNode). length os) c.self.view_is
