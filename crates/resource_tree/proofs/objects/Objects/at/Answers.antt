use Rattle.std.proofs.Common.{◌≡◌, ℕ, ◌<◌, ◌≤◌, List, Option, Some, None, Bor, MatchOption, length, slice_get, sym, ap, ◌∙◌}
use Rattle.std.specs.List.{HoldsAt}
use Rattle.std.specs.Option.{option_map}
use Rattle.std.proofs.lemmas.Option.{slice_get-map, slice_get-get_or, slice_get_past}
use Rattle.resource_tree.specs.Columns.{objects_at}
use Rattle.resource_tree.specs.Resources.{ObjectNode}
use Rattle.resource_tree.proofs.Columns.{ats_held}
use Rattle.resource_tree.proofs.objects.Objects.at.Goals as goal

got : (xs : List ℕ) (n : ℕ) (o : Option (Bor ℕ)) → MatchOption o (length xs ≤ n) (λ x. (n < length xs) × HoldsAt (λ y. x.now ≡ y) xs n) → option_map (λ x. x.now) o ≡ slice_get xs n
got xs n None h = sym (slice_get_past xs n h)
got xs n (Some x) h = sym (slice_get-get_or xs n x.now h.0 ∙ ap Some (sym (h.1 x.now)))

pub returns : goal.returns
returns c =
    let names = c.self.inside.names in
    let ats = c.self.inside.addresses.items in
    c.copied.ensures ∙ got c.deref.result.now c.args.number c.get.result c.get.ensures.lookup.3
    ∙ ap (λ (l : List ℕ). slice_get l c.args.number) (c.deref.ensures.value ∙ sym (ats_held names ats c.self.invariant.even))
    ∙ slice_get-map (λ o. o.at) (objects_at names ats) c.args.number
    ∙ ap (λ (os : List ObjectNode). option_map (λ o. o.at) (slice_get os c.args.number)) c.self.view_is
