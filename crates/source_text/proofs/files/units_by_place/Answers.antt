use Rattle.std.proofs.Common.{◌≡◌, map, ap, ◌∙◌, rules}
use Rattle.std.proofs.lemmas.List.Sorted.{IsNonDecreasingBy-from_sort, answers_always}
use Rattle.line_table.specs.declared.paths.UnitPaths.{UnitPaths}
use Rattle.source_text.specs.Ordered.{ordered_by}
use Rattle.source_text.proofs.Ordering.{ordered-map, sorted_is}
use Rattle.source_text.proofs.files.units_by_place.Goals as goal
use denote.Ref.{Bor}

pub returns-clause-units : goal.returns-clause-units
returns-clause-units c =
    let key = λ (r : Bor UnitPaths). r.now.unit in
    let found = c.in_ok-found.found.items in
    ap (map (λ (r : Bor UnitPaths). r.now)) (sorted_is key found c.sort_by_key.new.self.items
    (IsNonDecreasingBy-from_sort key c.sort_by_key.new.self.items (c.in_ok-sort_by_key.ensures.sorted key (answers_always _ _ _ (λ f a r g h. search rules))))
    (c.in_ok-sort_by_key.ensures.stable key (answers_always _ _ _ (λ f a r g h. search rules))))
    ∙ ordered-map (λ (u : UnitPaths). u.unit) (λ (r : Bor UnitPaths). r.now) found
    ∙ ap (ordered_by (λ (u : UnitPaths). u.unit)) c.in_ok-found.ensures

pub returns-clause-order : goal.returns-clause-order
returns-clause-order c =
    let key = λ (r : Bor UnitPaths). r.now.unit in
    IsNonDecreasingBy-from_sort key c.sort_by_key.new.self.items (c.in_ok-sort_by_key.ensures.sorted key (answers_always _ _ _ (λ f a r g h. search rules)))
