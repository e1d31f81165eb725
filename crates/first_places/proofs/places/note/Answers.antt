use Rattle.std.proofs.Common.{◌≡◌, List, ℕ, Option, Some, None, false, ◌++◌, ◌∷◌, [], is_some, subst, ap, ◌∙◌, bytes_eq, refl}
use Rattle.std.specs.Map.{lookup}
use Rattle.indexmap.proofs.CallerLemmas.{insert_entry-new}
use Rattle.first_places.specs.Entries.{IsNoted}
use Rattle.first_places.proofs.Pushed.{last_entry}
use Rattle.first_places.proofs.places.note.Goals as goal

none_of : (o : Option ℕ) → false ≡ is_some o → o ≡ None
none_of None h = refl
none_of (Some x) h = cc

pub returns-clause-noted : goal.returns-clause-noted
returns-clause-noted c =
    let map = c.args.places.now in
    let key = c.in_ok-from_slice.field-0 in
    let same : key.items ≡ c.args.name.now = c.in_ok-from_slice.ensures.items in
    let absent : lookup (λ k. bytes_eq key.items k.items) map.entries ≡ None =
    ap (λ (name : List ℕ). lookup (λ k. bytes_eq name k.items) map.entries) same ∙ none_of (lookup (λ k. bytes_eq c.args.name.now k.items) map.entries) c.if-contains_key.ensures in
    let made = c.in_ok-insert.ensures.entries ∙ insert_entry-new (λ a b. bytes_eq a.items b.items) map key c.args.place absent in
    λ name. ap (lookup (λ k. bytes_eq name k.items)) made
    ∙ subst (λ (n : List ℕ). IsNoted (λ k. k.items) n c.args.place map.entries (map.entries ++ (key, c.args.place) ∷ [])) same (last_entry (λ k. k.items) map.entries key c.args.place) name
