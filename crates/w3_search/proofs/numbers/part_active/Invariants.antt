use Rattle.std.proofs.Common.{◌≡◌, ◌≤◌, ◌+◌, ◌++◌, drop, filter, length, vec_capacity, vec_len}
use Rattle.std.specs.Prelude.{not}
use Rattle.w3_search.specs.Nodes.{is_active_at}
use Rattle.w3_search.proofs.numbers.part_active.Given as goal

abbrev pub invariant-loop-number : goal.invariant-loop-number
invariant-loop-number l = record {
  active : l.active.items ++ filter (is_active_at l.nodes) (drop l.number-index l.numbers) ≡ l.fn.active.items ++ filter (is_active_at l.nodes) l.numbers;
  ended : l.ended.items ++ filter (λ i. not (is_active_at l.nodes i)) (drop l.number-index l.numbers) ≡ l.fn.ended.items ++ filter (λ i. not (is_active_at l.nodes i)) l.numbers;
  active_room : vec_len l.active + length (drop l.number-index l.numbers) ≤ vec_capacity l.active;
  ended_room : vec_len l.ended + length (drop l.number-index l.numbers) ≤ vec_capacity l.ended;
  active_capacity : vec_capacity l.fn.active ≤ vec_capacity l.active;
  ended_capacity : vec_capacity l.fn.ended ≤ vec_capacity l.ended;
}
