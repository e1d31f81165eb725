use Rattle.std.proofs.Common.{◌≡◌, take}
use Rattle.mdl_ast.proofs.block_copies.conditions.Given as goal

abbrev pub invariant-loop-one : goal.invariant-loop-one
invariant-loop-one l = l.copies.items ≡ take l.one-index l.one-items
