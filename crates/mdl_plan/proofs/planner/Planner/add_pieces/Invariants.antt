use Rattle.std.proofs.Common.{◌≡◌, ◌++◌, take, flat_map}
use Rattle.mdl_plan.specs.Numbers.{stmts_of_number}
use Rattle.mdl_plan.proofs.planner.Planner.add_pieces.Given as goal

abbrev pub invariant-loop-number : goal.invariant-loop-number
invariant-loop-number l = l.stmts.items ≡ l.fn.stmts.items ++ flat_map (stmts_of_number l.self.terms l.self.pieces.items) (take l.number-index l.numbers)
