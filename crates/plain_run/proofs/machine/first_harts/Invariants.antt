use Rattle.std.proofs.Common.{◌≡◌, ◌-◌, ◌++◌, length}
use Rattle.rv_exec.specs.Start.{harts_from}
use Rattle.plain_run.specs.Views.{plain_harts}
use Rattle.plain_run.proofs.machine.first_harts.Given as goal

-- the harts so far, and those to come, are all harts
abbrev pub invariant-loop-number : goal.invariant-loop-number
invariant-loop-number l = record {
  len : length l.states.items ≡ l.number;
  states : plain_harts l.states.items ++ harts_from (l.harts - l.number) l.number l.image l.harts ≡ harts_from l.harts 0 l.image l.harts;
}
