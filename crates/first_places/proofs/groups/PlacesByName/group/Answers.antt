use Rattle.std.proofs.Common.{List, ℕ, [], slice_get, sym, ap, ◌∙◌}
use Rattle.std.specs.Option.{option_map_or}
use Rattle.first_places.specs.Groups.{first_mentions, places_of}
use Rattle.first_places.proofs.Grouped.{entry_places, no_entry}
use Rattle.first_places.proofs.groups.PlacesByName.group.Goals as goal

pub returns-in-Some : goal.returns-in-Some
returns-in-Some c =
    c.as_slice.ensures.value
    ∙ entry_places (λ key. key.items) (λ own. own.items) c.self.inside.names.items c.self.inside.places.entries c.self.invariant c.args.group (c.in-Some.field-0-0.now, c.in-Some.places.now) (sym c.in-Some.ensures.entry) c.in-Some.ensures.value
    ∙ ap (λ (l : List (List ℕ)). option_map_or (λ name. places_of name l) (slice_get (first_mentions l) c.args.group) []) c.self.view_is

pub returns-in-None : goal.returns-in-None
returns-in-None c =
    no_entry (λ key. key.items) (λ own. own.items) c.self.inside.names.items c.self.inside.places.entries c.self.invariant c.args.group (sym c.in-None.ensures.entry)
    ∙ ap (λ (l : List (List ℕ)). option_map_or (λ name. places_of name l) (slice_get (first_mentions l) c.args.group) []) c.self.view_is
