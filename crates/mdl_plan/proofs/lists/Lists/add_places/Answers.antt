use Rattle.std.proofs.Common.{◌≡◌, ◌++◌, [], List, ℕ, flat_map, get_or, map, ap, sym, ◌∙◌, subst}
use Rattle.std.proofs.lemmas.List.Folds.{flat_map-map}
use Rattle.std.proofs.lemmas.Result.{on_ok_weaker}
use Rattle.mdl_plan.specs.Sparse.{AddsPlaces}
use Rattle.mdl_plan.specs.declared.lists.Row.{Row}
use Rattle.mdl_plan.proofs.SparseLists.{adds_owned}
use Rattle.mdl_plan.proofs.lists.Lists.add_places.Goals as goal

pub returns : goal.returns
returns c =
    let by_proc = c.args.by_proc.now in
    let old = c.args.places.now.items in
    let new = c.add_places.new.places.items in
    let rows = c.self.inside.rows.items in
    let owners = map (λ (r : Row). r.proc_no) rows in
    on_ok_weaker c.add_places.result
    (λ (e : new ≡ old ++ flat_map (λ r. get_or by_proc r.proc_no []) c.deref.result.now).
    subst (λ (lists : List (List ℕ)). AddsPlaces lists by_proc old new) c.self.view_is
    (adds_owned c.self.inside.row_of.items owners (map (λ r. r.numbers.items) rows) by_proc old new c.self.invariant
    (e ∙ ap (λ (rs : List Row). old ++ flat_map (λ r. get_or by_proc r.proc_no []) rs) c.deref.ensures.value
    ∙ ap (λ (l : List ℕ). old ++ l) (sym (flat_map-map (λ q. get_or by_proc q []) (λ (r : Row). r.proc_no) rows)))))
    c.add_places.ensures
