use Rattle.std.proofs.Common.{◌≡◌, ◌-◌, ◌≤◌, length}
use Rattle.machine.specs.Replays.{replay}
use Rattle.machine.specs.States.{leaving}
use Rattle.machine.proofs.Settled.{Counted}
use Rattle.machine.proofs.machine.Machine.leave.Given as goal

-- what is left of the turns leads where all of them do
abbrev pub invariant-loop-turns : goal.invariant-loop-turns
invariant-loop-turns l = record {
  rest : replay (leaving (l.fn.most - l.turns) l.fn.hart l.self.core) l.self.core ≡ replay (leaving l.fn.most l.fn.hart l.fn.self.core) l.fn.self.core;
  room : l.self.room ≡ l.fn.self.room;
  many : length l.self.core.harts ≡ length l.fn.self.core.harts;
  counted : Counted l.turns l.ticks (leaving l.fn.most l.fn.hart l.fn.self.core) l.fn.self.core (leaving (l.fn.most - l.turns) l.fn.hart l.self.core) l.self.core;
  bound : l.ticks ≤ l.turns;
}
