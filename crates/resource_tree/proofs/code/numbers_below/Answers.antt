use Rattle.std.proofs.Common.{◌≡◌, ℕ, ◌+◌, List, ◌∷◌, ◌++◌, [], sym, ap, ◌∙◌, arith}
use Rattle.std.specs.List.{range_with_len}
use Rattle.first_places.proofs.AllPlaces.{range_more}
use Rattle.resource_tree.proofs.code.numbers_below.Goals as goal

pub loop-number-preserved : goal.loop-number-preserved
loop-number-preserved c =
    let n = c.loop-number.number in
    let zero : n ≡ 0 + n = omega arith in
    c.in_ok-push.ensures.items ∙ ap (λ (l : List ℕ). l ++ n ∷ []) c.loop-number.invariant ∙ ap (λ (k : ℕ). range_with_len 0 n ++ k ∷ []) zero ∙ sym (range_more 0 n)
