use Rattle.std.proofs.Common.{◌≡◌, ◌-◌, ◌≤◌, length}
use Rattle.rv_exec.specs.Shared.{prog_in}
use Rattle.machine.specs.Alone.{TurnsLead, alone_of}
use Rattle.machine.specs.Performing.{solo_of}
use Rattle.machine.proofs.hart.HartState.take_turns.Given as goal

-- the turns so far led here
abbrev pub invariant-loop-turns : goal.invariant-loop-turns
invariant-loop-turns l = record {
  leads : TurnsLead l.store l.budget l.number l.turns (solo_of l.fn.self (prog_in l.fn.shared)) (alone_of l.progress l.self (prog_in l.shared));
  bound : l.turns ≤ l.most;
  harts : length l.shared.resv ≡ length l.fn.shared.resv;
}

abbrev pub decreases-loop-turns : goal.decreases-loop-turns
decreases-loop-turns l = l.most - l.turns
