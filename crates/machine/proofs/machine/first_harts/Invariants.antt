use Rattle.std.proofs.Common.{◌≡◌, ◌-◌, ◌++◌, length}
use Rattle.std.specs.Prelude.{map}
use Rattle.rv_exec.specs.Start.{harts_from}
use Rattle.machine.specs.Cores.{first_hart}
use Rattle.machine.proofs.machine.first_harts.Given as goal

-- the harts so far, and those to come, are all harts
abbrev pub invariant-loop-number : goal.invariant-loop-number
invariant-loop-number l = record {
  len : length l.states.items ≡ l.number;
  states : l.states.items ++ map first_hart (harts_from (l.harts - l.number) l.number l.image l.harts) ≡ map first_hart (harts_from l.harts 0 l.image l.harts);
}
