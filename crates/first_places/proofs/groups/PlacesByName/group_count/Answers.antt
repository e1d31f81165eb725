use Rattle.std.proofs.Common.{List, ℕ, length, ap, ◌∙◌, arith}
use Rattle.first_places.specs.Groups.{first_mentions}
use Rattle.first_places.proofs.Grouped.{count_of, few_entries}
use Rattle.first_places.proofs.groups.PlacesByName.group_count.Goals as goal

pub overflow_cast-result : goal.overflow_cast-result
overflow_cast-result c = omega (arith, c.len.ensures.len, few_entries (λ key. key.items) (λ own. own.items) c.self.inside.names.items c.self.inside.places.entries c.self.invariant)

pub returns : goal.returns
returns c =
    c.len.ensures.len
    ∙ count_of (λ key. key.items) (λ own. own.items) c.self.inside.names.items c.self.inside.places.entries c.self.invariant
    ∙ ap (λ (l : List (List ℕ)). length (first_mentions l)) c.self.view_is
