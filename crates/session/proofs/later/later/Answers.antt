use Rattle.std.proofs.Common.{ap, ◌∙◌, rules}
use Rattle.std.proofs.lemmas.List.Sorted.{answers_always, IsNonDecreasingBy-from_sort}
use Rattle.mdl_check.specs.declared.checked.CheckedWish.{CheckedWish}
use Rattle.session_spec.specs.Inputs.{by_tick}
use Rattle.session.proofs.ByTick.{sorted_is}
use Rattle.session.proofs.later.later.Goals as goal

pub returns : goal.returns
returns c =
    let key = λ (w : CheckedWish). w.at in
    let sorted = c.in_ok-sort_by_key.ensures.sorted key (answers_always _ _ _ (λ f a r g h. search rules)) in
    let stable = c.in_ok-sort_by_key.ensures.stable key (answers_always _ _ _ (λ f a r g h. search rules)) in
    sorted_is c.in_ok-list.list.items c.sort_by_key.new.self.items (IsNonDecreasingBy-from_sort key c.sort_by_key.new.self.items sorted) stable
    ∙ ap by_tick c.in_ok-list.ensures
