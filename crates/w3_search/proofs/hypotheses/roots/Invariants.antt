use Rattle.std.proofs.Common.{◌≡◌, ◌++◌, drop}
use Rattle.w3_search.specs.Refining.{is_root, hypothesis_numbers_from}
use Rattle.w3_search.proofs.hypotheses.roots.Given as goal

abbrev pub invariant-loop-number : goal.invariant-loop-number
invariant-loop-number l = l.numbers.items ++ hypothesis_numbers_from is_root l.number (drop l.number l.hypotheses) ≡ hypothesis_numbers_from is_root 0 l.hypotheses
