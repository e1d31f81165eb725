use Rattle.std.proofs.Common.{◌≡◌, take}
use Rattle.instrument.proofs.slots.copy_vars.Given as goal

abbrev pub invariant-loop-var : goal.invariant-loop-var
invariant-loop-var l = l.copies.items ≡ take l.var-index l.vars
