use Rattle.std.proofs.Common.{◌≡◌, ℕ, List, ◌++◌, drop}
use Rattle.first_places.specs.Numbers.{numbers_under}
use Rattle.w3_search.specs.Refining.{is_under, hypothesis_numbers_from}
use Rattle.w3_search.proofs.hypotheses.under.Given as goal

abbrev pub invariant-loop-number : goal.invariant-loop-number
invariant-loop-number l =
    (name : List ℕ) → numbers_under (λ key. key.items) (λ own. own.items) name l.under.entries ++ hypothesis_numbers_from (is_under name) l.number (drop l.number l.hypotheses) ≡ hypothesis_numbers_from (is_under name) 0 l.hypotheses
