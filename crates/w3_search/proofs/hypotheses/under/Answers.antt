use Rattle.std.proofs.Common.{ℕ, ◌+◌, List, ◌++◌, drop, sym, ap, ◌∙◌}
use Rattle.std.proofs.lemmas.List.{append-nil, drop_all}
use Rattle.mdl_ast.specs.declared.items.Hypothesis.{Hypothesis}
use Rattle.first_places.specs.Numbers.{numbers_under}
use Rattle.w3_search.specs.Refining.{is_under, hypothesis_numbers_from, refinements}
use Rattle.w3_search.proofs.HypothesisNumbering.{numbers_step, put_last}
use Rattle.w3_search.proofs.hypotheses.under.Goals as goal

pub loop-number-preserved : goal.loop-number-preserved
loop-number-preserved c name =
    let hs = c.args.hypotheses.now in
    let i = c.loop-number.number in
    let h = c.index-hypotheses-number.result in
    let before = numbers_under (λ key. key.items) (λ own. own.items) name c.loop-number.under.entries in
    let rest = hypothesis_numbers_from (is_under name) (i + 1) (drop (i + 1) hs) in
    ap (λ (l : List ℕ). l ++ rest) (c.in_ok-add_under.ensures name)
    ∙ put_last (is_under name h) before rest i
    ∙ ap (λ (l : List ℕ). before ++ l) (sym (numbers_step (is_under name) hs i h c.loop-number-test.true c.index-hypotheses-number.is))
    ∙ c.loop-number.invariant name

pub returns : goal.returns
unfolding refinements
returns c name =
    let hs = c.args.hypotheses.now in
    let now = numbers_under (λ key. key.items) (λ own. own.items) name c.loop-number.under.entries in
    sym (append-nil now)
    ∙ ap (λ (l : List Hypothesis). now ++ hypothesis_numbers_from (is_under name) c.loop-number.number l) (sym (drop_all c.loop-number.number hs c.loop-number-test.false))
    ∙ c.loop-number.invariant name
