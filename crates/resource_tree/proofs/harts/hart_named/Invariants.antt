use Rattle.std.proofs.Common.{◌≡◌, ◌-◌, bytes_eq, map, position}
use Rattle.std.specs.List.{position_from, range_with_len}
use Rattle.resource_tree.specs.Foci.{hart_name, hart_names}
use Rattle.resource_tree.proofs.harts.hart_named.Given as goal

abbrev pub invariant-loop-number : goal.invariant-loop-number
invariant-loop-number l =
    position_from (bytes_eq l.name) l.number (map hart_name (range_with_len l.number (l.harts - l.number))) ≡ position (bytes_eq l.name) (hart_names l.harts)
