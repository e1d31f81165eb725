use Rattle.std.proofs.Common.{◌≡◌, List, ℕ, ◌++◌, ◌∷◌, [], subst, sym, ap, ◌∙◌, length}
use Rattle.first_places.specs.Entries.{AreFirst, IsNoted}
use Rattle.first_places.proofs.Pushed.{kept}
use Rattle.first_places.proofs.places.FirstPlaces.push.Goals as goal

pub invariant_of-self-in-Ok : goal.invariant_of-self-in-Ok
invariant_of-self-in-Ok c =
    let names = c.self.inside.names.items in
    let old = c.self.inside.places.entries in
    let new = c.note.new.places.entries in
    let pushed : c.push.new.self.items ≡ names ++ c.args.name.now ∷ [] =
    c.in_ok-push.ensures.items ∙ ap (λ (n : List ℕ). names ++ n ∷ []) (c.from_vec-copy.ensures ∙ c.in_ok-from_slice.ensures.items) in
    let more : IsNoted (λ key. key.items) c.args.name.now (length names) old new =
    subst (λ (n : ℕ). IsNoted (λ key. key.items) c.args.name.now n old new) (c.len-place.ensures ∙ c.self.inside.names.ok.0) c.in-Ok.ensures.noted in
    subst (λ (ns : List (List ℕ)). AreFirst (λ key. key.items) ns new) (sym pushed) (kept (λ key. key.items) names c.args.name.now old new c.self.invariant more)
