use Rattle.std.proofs.Common.{List, ℕ, length, ap, sym, ◌∙◌, arith}
use Rattle.w3_search.specs.Refining.{is_under}
use Rattle.w3_search.proofs.HypothesisNumbering.{few_numbers, passes_here}
use Rattle.w3_search.proofs.children.refinement_count.Goals as goal

pub overflow_add-count : goal.overflow_add-count
overflow_add-count c =
    let hs = c.args.hypotheses.now in
    let p = is_under c.args.name.now in
    let few = few_numbers p 0 hs in
    let here = ap (λ (l : List ℕ). length l) (passes_here p hs c.loop-hypothesis.hypothesis-index c.hypothesis-item.result c.loop-hypothesis-test.true c.hypothesis-item.is (sym c.is_under.ensures ∙ c.if-is_under.true)) in
    omega arith
