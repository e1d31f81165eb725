use Rattle.machine.proofs.Settled.{Settling}
use Rattle.machine.proofs.machine.Machine.take_settling.Given as goal

abbrev pub invariant-loop-hart : goal.invariant-loop-hart
invariant-loop-hart l = Settling l.most l.turns l.ticks l.hart l.fn.self l.self
