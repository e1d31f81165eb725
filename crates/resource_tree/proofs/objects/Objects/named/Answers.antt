use Rattle.std.proofs.Common.{◌≡◌, ℕ, List, length, position, bytes_eq, sym, ap, ◌∙◌}
use Rattle.resource_tree.specs.Columns.{objects_at}
use Rattle.resource_tree.specs.Resources.{ObjectNode}
use Rattle.resource_tree.proofs.Columns.{names_held, position_map}
use Rattle.resource_tree.proofs.objects.Objects.named.Goals as goal

found : (name : List ℕ) (names : List (List ℕ)) (ats : List ℕ) → length names ≡ length ats → position (bytes_eq name) names ≡ position (λ o. bytes_eq name o.name) (objects_at names ats)
found name names ats even = ap (position (bytes_eq name)) (sym (names_held names ats even)) ∙ position_map (λ o. o.name) (bytes_eq name) (objects_at names ats)

pub returns-in_err-number : goal.returns-in_err-number
returns-in_err-number c =
    c.from_residual.ensures ∙ sym c.in_err-number.was ∙ c.lookup.ensures
    ∙ found c.args.name.now c.self.inside.names c.self.inside.addresses.items c.self.invariant.even
    ∙ ap (λ (os : List ObjectNode). position (λ o. bytes_eq c.args.name.now o.name) os) c.self.view_is

pub returns : goal.returns
returns c =
    sym c.in_ok-number.was ∙ c.lookup.ensures
    ∙ found c.args.name.now c.self.inside.names c.self.inside.addresses.items c.self.invariant.even
    ∙ ap (λ (os : List ObjectNode). position (λ o. bytes_eq c.args.name.now o.name) os) c.self.view_is
