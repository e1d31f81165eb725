use Rattle.std.proofs.Common.{◌≡◌, List, ℕ, ◌+◌, ◌^◌, ◌<◌, ◌++◌, ◌∷◌, [], subst, sym, ap, ◌∙◌, length}
use Rattle.first_places.specs.Grouped.{AreGrouped}
use Rattle.first_places.specs.Numbers.{IsAdded}
use Rattle.first_places.proofs.Grouped.{places_kept}
use Rattle.first_places.proofs.groups.PlacesByName.push.Goals as goal

pub invariant_of-self-in-Ok : goal.invariant_of-self-in-Ok
invariant_of-self-in-Ok c =
    let names = c.self.inside.names.items in
    let old = c.self.inside.places.entries in
    let new = c.add_number.new.numbers.entries in
    let pushed : c.push.new.self.items ≡ names ++ c.args.name.now ∷ [] =
    c.in_ok-push.ensures.items ∙ ap (λ (n : List ℕ). names ++ n ∷ []) (c.from_vec-copy.ensures ∙ c.in_ok-from_slice.ensures.items) in
    let added : IsAdded (λ key. key.items) (λ own. own.items) c.args.name.now (length names) old new =
    subst (λ (n : ℕ). IsAdded (λ key. key.items) (λ own. own.items) c.args.name.now n old new) (c.len-place.ensures ∙ c.self.inside.names.ok.0) c.in-Ok.ensures.added in
    let room : length names + 1 < 2 ^ 32 = subst (λ (l : List (List ℕ)). length l + 1 < 2 ^ 32) (sym c.self.view_is) c.requires in
    subst (λ (l : List (List ℕ)). AreGrouped (λ key. key.items) (λ own. own.items) l new) (sym pushed) (places_kept (λ key. key.items) (λ own. own.items) names old c.self.invariant c.args.name.now new added room)
