use Rattle.std.proofs.Common.{◌≡◌, ℕ, List, None, Result, Ok, Err, OnErr, subst, sym, ap, ◌∙◌, bytes_eq}
use Rattle.std.specs.Map.{lookup}
use Rattle.indexmap.specs.IndexMap.{insert_entry}
use Rattle.indexmap.proofs.CallerLemmas.{insert_entry-new}
use Rattle.first_places.specs.Numbers.{IsAdded, IsUnchanged}
use Rattle.first_places.proofs.Under.{added_here, added_last, kept_here}
use Rattle.first_places.proofs.numbers.add_number.Goals as goal

pub returns-in-Some-clause-added : goal.returns-in-Some-clause-added
returns-in-Some-clause-added c =
    subst (IsAdded (λ key. key.items) (λ own. own.items) c.args.name.now c.args.number c.args.numbers.now.entries) (sym (c.get_mut.follows.holds c.push.new.self).0)
    (added_here (λ key. key.items) (λ own. own.items) c.args.name.now c.in-Some.own.now c.push.new.self c.args.numbers.now.entries (sym c.in-Some.ensures.value) c.args.number c.in_ok-push.ensures.items)

-- what holds at all holds where there is an error
on_err_of : {T E P : Type 0} (r : Result T E) → P → OnErr r P
on_err_of (Ok x) p = tt
on_err_of (Err y) p = p

pub returns-in_err-push-clause-err : goal.returns-in_err-push-clause-err
returns-in_err-push-clause-err c =
    on_err_of c.from_residual.result
    (subst (IsUnchanged (λ key. key.items) (λ own. own.items) c.args.numbers.now.entries) (sym (c.get_mut.follows.holds c.push.new.self).0)
    (kept_here (λ key. key.items) (λ own. own.items) c.args.name.now c.in-Some.own.now c.push.new.self c.args.numbers.now.entries (sym c.in-Some.ensures.value) c.in_err-push.ensures.items))

pub returns-clause-added : goal.returns-clause-added
returns-clause-added c =
    let map = c.args.numbers.now in
    let key = c.in_ok-from_slice.field-0 in
    let own = c.in_ok-own.own in
    let same : key.items ≡ c.args.name.now = c.in_ok-from_slice.ensures.items in
    let none : lookup (λ k. bytes_eq key.items k.items) map.entries ≡ None =
    ap (λ (name : List ℕ). lookup (λ k. bytes_eq name k.items) map.entries) same ∙ sym c.in_default.ensures.value in
    let made = c.in_ok-insert.ensures.entries ∙ ap (λ m. insert_entry (λ a b. bytes_eq a.items b.items) m.entries key own) c.get_mut.follows.holds-at-none
    ∙ insert_entry-new (λ a b. bytes_eq a.items b.items) map key own none in
    subst (λ (name : List ℕ). IsAdded (λ k. k.items) (λ o. o.items) name c.args.number map.entries c.insert.new.self.entries) same
    (subst (IsAdded (λ k. k.items) (λ o. o.items) key.items c.args.number map.entries) (sym made)
    (added_last (λ k. k.items) (λ o. o.items) key own c.args.number map.entries none c.in_ok-own.ensures.items))
