use Rattle.std.proofs.Common.{length, not, refl, ap, ◌∙◌, rules, arith}
use Rattle.std.proofs.lemmas.List.Sorted.{answers_always, length_permutation, IsNonDecreasingBy-from_sort}
use Rattle.std.proofs.lemmas.List.{length-map}
use Rattle.std.proofs.lemmas.List.Filters.{length-filter_both}
use Rattle.pn_types.specs.declared.image.Symbol.{Symbol}
use Rattle.code_points.specs.Procedures.{is_func, by_address}
use Rattle.code_points.proofs.Sorting.{sorted_is}
use Rattle.code_points.proofs.symbols.functions_by_address.Goals as goal
use denote.Ref.{Bor}

pub returns-clause-found : goal.returns-clause-found
returns-clause-found c =
    let key = λ (r : Bor Symbol). r.now.at in
    sorted_is c.in_ok-found.found.items c.sort_by_key.new.self.items
    (IsNonDecreasingBy-from_sort key c.sort_by_key.new.self.items (c.in_ok-sort_by_key.ensures.sorted key (answers_always _ _ _ (λ f a r g h. search rules))))
    (c.in_ok-sort_by_key.ensures.stable key (answers_always _ _ _ (λ f a r g h. search rules)))
    ∙ ap by_address c.in_ok-found.ensures

pub returns-clause-few : goal.returns-clause-few
returns-clause-few c =
    let found = c.in_ok-found.found.items in
    omega (arith, length_permutation found c.sort_by_key.new.self.items c.in_ok-sort_by_key.ensures.permutation, length-map found (λ (r : Bor Symbol). r.now), ap length c.in_ok-found.ensures, length-filter_both (λ (s : Symbol). is_func s.kind) (λ (s : Symbol). not (is_func s.kind)) (λ s. refl) c.args.symbols.now)
