use Rattle.std.proofs.Common.{◌≡◌, drop}
use Rattle.w3_search.specs.Steps.{with_families}
use Rattle.w3_search.proofs.state.add_families.Given as goal

abbrev pub invariant-loop-number : goal.invariant-loop-number
invariant-loop-number l = with_families l.hypotheses l.tree (drop l.number-index l.numbers) l.nodes ≡ with_families l.hypotheses l.tree l.numbers l.fn.nodes
