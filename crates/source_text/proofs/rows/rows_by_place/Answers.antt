use Rattle.std.proofs.Common.{◌≡◌, ap, ◌∙◌, rules}
use Rattle.std.specs.List.Sorted.{IsNonDecreasingBy}
use Rattle.std.proofs.lemmas.List.Sorted.{IsNonDecreasingBy-from_sort, answers_always}
use Rattle.source_text.specs.Sources.{by_place, place_of}
use Rattle.source_text.proofs.Ordering.{sorted_is}
use Rattle.source_text.proofs.Places.{addresses_rise}
use Rattle.source_text.proofs.rows.rows_by_place.Goals as goal

pub returns-clause-rows : goal.returns-clause-rows
returns-clause-rows c =
    let all : c.extend_from_slice.new.self.items ≡ c.args.table.now.rows = search rules in
    sorted_is place_of c.extend_from_slice.new.self.items c.sort_by_key.new.self.items
    (IsNonDecreasingBy-from_sort place_of c.sort_by_key.new.self.items (c.in_ok-sort_by_key.ensures.sorted place_of (answers_always _ _ _ (λ f a r g h. search rules))))
    (c.in_ok-sort_by_key.ensures.stable place_of (answers_always _ _ _ (λ f a r g h. search rules)))
    ∙ ap by_place all

pub returns-clause-order : goal.returns-clause-order
returns-clause-order c =
    addresses_rise c.sort_by_key.new.self.items
    (IsNonDecreasingBy-from_sort place_of c.sort_by_key.new.self.items (c.in_ok-sort_by_key.ensures.sorted place_of (answers_always _ _ _ (λ f a r g h. search rules))))
