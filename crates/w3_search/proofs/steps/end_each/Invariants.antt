use Rattle.std.proofs.Common.{◌≡◌, ◌<◌, drop, length}
use Rattle.std.specs.List.{AllByRecursion}
use Rattle.w3_search.specs.Nodes.{node_at_end}
use Rattle.w3_search.specs.Index.{changed_each}
use Rattle.w3_search.proofs.steps.end_each.Given as goal

abbrev pub invariant-loop-number : goal.invariant-loop-number
invariant-loop-number l = record {
  nodes : changed_each node_at_end (drop l.number-index l.numbers) l.nodes ≡ changed_each node_at_end l.numbers l.fn.nodes;
  below : AllByRecursion (λ i. i < length l.fn.nodes) (drop l.number-index l.numbers);
}
