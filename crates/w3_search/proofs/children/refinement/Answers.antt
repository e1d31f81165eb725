use Rattle.std.proofs.Common.{◌+◌, ◌∷◌, List, ℕ, drop, sym, ap, ◌∙◌, slice_get}
use Rattle.w3_search.specs.Refining.{is_under, hypothesis_numbers_from, refinements}
use Rattle.w3_search.proofs.HypothesisNumbering.{passes_here}
use Rattle.w3_search.proofs.children.refinement.Goals as goal

pub returns-then-left-eq0 : goal.returns-then-left-eq0
unfolding refinements
returns-then-left-eq0 c =
    let hs = c.args.hypotheses.now in
    let i = c.loop-number.number in
    let p = is_under c.args.name.now in
    ap (slice_get (i ∷ hypothesis_numbers_from p (i + 1) (drop (i + 1) hs))) (sym c.if-left-eq0.true)
    ∙ ap (λ (l : List ℕ). slice_get l c.loop-number.left) (sym (passes_here p hs i c.index-hypotheses-number.result c.loop-number-test.true c.index-hypotheses-number.is (sym c.is_under.ensures ∙ c.if-not-is_under.false)))
    ∙ c.loop-number.invariant
