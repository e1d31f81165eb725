use Rattle.std.proofs.Common.{◌≡◌, ◌++◌, [], flat_map, get_or, take}
use Rattle.mdl_plan.proofs.lists.add_places.Given as goal

abbrev pub invariant-loop-row : goal.invariant-loop-row
invariant-loop-row l = l.places.items ≡ l.fn.places.items ++ flat_map (λ row. get_or l.by_proc row.proc_no []) (take l.row-index l.rows)
