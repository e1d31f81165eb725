use Rattle.std.proofs.Common.{ℕ, ◌<◌}
use Rattle.session_spec.specs.Work.{Halted}
use Rattle.session.proofs.session.Session.done.Given as goal

abbrev pub invariant-loop-hart : goal.invariant-loop-hart
invariant-loop-hart l = (h : ℕ) → h < l.hart → Halted l.self.inputs l.self.quanta h
