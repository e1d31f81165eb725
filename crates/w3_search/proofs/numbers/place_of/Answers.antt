use Rattle.std.proofs.Common.{◌≡◌, ◌+◌, ◌++◌, ◌∷◌, ℕ, suc, Bool, true, cond, List, drop, take, get_or, sym, ap, ◌∙◌, eq-eqb, arith}
use Rattle.std.specs.Prelude.{nat_eq}
use Rattle.std.proofs.lemmas.List.{drop_more}
use Rattle.w3_search.specs.Index.{without}
use Rattle.w3_search.proofs.numbers.place_of.Goals as goal

pub returns-then-other-number-clause-place : goal.returns-then-other-number-clause-place
returns-then-other-number-clause-place c =
    let ms = c.args.numbers.now in
    let i = c.loop-place.place in
    let k = c.args.number in
    let rest = drop (i + 1) ms in
    let found : nat_eq (get_or ms i 0) k ≡ true = eq-eqb (get_or ms i 0) k c.if-other-number.true in
    let e : suc i ≡ i + 1 = omega arith in
    ap (λ (j : ℕ). take i ms ++ drop j ms) e
    ∙ sym (ap (λ (b : Bool). take i ms ++ cond b rest (get_or ms i 0 ∷ without k rest)) found)
    ∙ ap (λ (l : List ℕ). take i ms ++ without k l) (sym (drop_more ms i 0 c.loop-place-test.true))
    ∙ c.loop-place.invariant
