use Rattle.std.proofs.Common.{◌≡◌, take}
use Rattle.instrument.proofs.opens.copy_stmts.Given as goal

abbrev pub invariant-loop-stmt : goal.invariant-loop-stmt
invariant-loop-stmt l = l.copies.items ≡ take l.stmt-index l.stmts
