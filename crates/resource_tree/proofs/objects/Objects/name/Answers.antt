use Rattle.std.proofs.Common.{ℕ, List, slice_get, sym, ap, ◌∙◌}
use Rattle.std.specs.Option.{option_map}
use Rattle.std.proofs.lemmas.Option.{slice_get-map}
use Rattle.resource_tree.specs.Columns.{objects_at}
use Rattle.resource_tree.specs.Resources.{ObjectNode}
use Rattle.resource_tree.proofs.Columns.{names_held}
use Rattle.resource_tree.proofs.objects.Objects.name.Goals as goal

pub returns : goal.returns
returns c =
    let names = c.self.inside.names in
    let ats = c.self.inside.addresses.items in
    c.name.ensures
    ∙ ap (λ (l : List (List ℕ)). slice_get l c.args.number) (sym (names_held names ats c.self.invariant.even))
    ∙ slice_get-map (λ o. o.name) (objects_at names ats) c.args.number
    ∙ ap (λ (os : List ObjectNode). option_map (λ o. o.name) (slice_get os c.args.number)) c.self.view_is
