use Rattle.std.proofs.Common.{List, ℕ, bytes_eq, position, sym, ap, ◌∙◌, arith}
use Rattle.first_places.specs.Groups.{first_mentions}
use Rattle.first_places.proofs.Grouped.{number_of, few_entries}
use Rattle.first_places.proofs.groups.PlacesByName.group_named.Goals as goal

pub returns-in_err-number : goal.returns-in_err-number
returns-in_err-number c =
    c.from_residual.ensures ∙ sym c.in_err-number.was ∙ c.get_index_of.ensures.index
    ∙ number_of (λ key. key.items) (λ own. own.items) c.self.inside.names.items c.self.inside.places.entries c.self.invariant c.args.name.now
    ∙ ap (λ (l : List (List ℕ)). position (bytes_eq c.args.name.now) (first_mentions l)) c.self.view_is

pub overflow_cast-result : goal.overflow_cast-result
overflow_cast-result c = omega (arith, c.in_ok-number.ensures.within, few_entries (λ key. key.items) (λ own. own.items) c.self.inside.names.items c.self.inside.places.entries c.self.invariant)

pub returns : goal.returns
returns c =
    sym c.in_ok-number.was ∙ c.get_index_of.ensures.index
    ∙ number_of (λ key. key.items) (λ own. own.items) c.self.inside.names.items c.self.inside.places.entries c.self.invariant c.args.name.now
    ∙ ap (λ (l : List (List ℕ)). position (bytes_eq c.args.name.now) (first_mentions l)) c.self.view_is
