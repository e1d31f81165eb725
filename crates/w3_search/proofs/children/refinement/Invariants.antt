use Rattle.std.proofs.Common.{◌≡◌, drop, slice_get}
use Rattle.w3_search.specs.Refining.{is_under, hypothesis_numbers_from}
use Rattle.w3_search.proofs.children.refinement.Given as goal

abbrev pub invariant-loop-number : goal.invariant-loop-number
invariant-loop-number l =
    slice_get (hypothesis_numbers_from (is_under l.name) l.number (drop l.number l.hypotheses)) l.left ≡ slice_get (hypothesis_numbers_from (is_under l.name) 0 l.hypotheses) l.place
