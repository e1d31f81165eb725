use Rattle.std.proofs.Common.{◌≡◌, ◌+◌, drop, length}
use Rattle.w3_search.specs.Refining.{is_under, hypothesis_numbers_from}
use Rattle.w3_search.proofs.children.refinement_count.Given as goal

abbrev pub invariant-loop-hypothesis : goal.invariant-loop-hypothesis
invariant-loop-hypothesis l =
    l.count + length (hypothesis_numbers_from (is_under l.name) l.hypothesis-index (drop l.hypothesis-index l.hypotheses)) ≡ length (hypothesis_numbers_from (is_under l.name) 0 l.hypotheses)
