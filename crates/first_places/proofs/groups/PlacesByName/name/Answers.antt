use Rattle.std.proofs.Common.{List, ℕ, Some, slice_get, ap, ◌∙◌}
use Rattle.std.specs.Option.{option_map}
use Rattle.first_places.specs.Groups.{first_mentions}
use Rattle.first_places.proofs.Grouped.{entry_name}
use Rattle.first_places.proofs.groups.PlacesByName.name.Goals as goal

pub returns : goal.returns
returns c =
    ap Some c.as_slice.ensures.value
    ∙ ap (option_map (λ e. e.0.items)) c.in_ok-name.ensures.entry
    ∙ entry_name (λ key. key.items) (λ own. own.items) c.self.inside.names.items c.self.inside.places.entries c.self.invariant c.args.group
    ∙ ap (λ (l : List (List ℕ)). slice_get (first_mentions l) c.args.group) c.self.view_is
