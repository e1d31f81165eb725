use Rattle.std.proofs.Common.{◌≡◌, length, drop}
use Rattle.rv_mem.specs.Start.{program_of}
use Rattle.rv_exec.specs.Start.{start}
use Rattle.entered.specs.Along.{asked_along}
use Rattle.entered.specs.Steps.{asks_at}
use Rattle.entered.proofs.entering.is_entered.Given as goal

-- the quanta that are left decide
abbrev pub invariant-loop-quantum : goal.invariant-loop-quantum
invariant-loop-quantum l = record {
  program : l.machine.program ≡ program_of l.image;
  budget : l.machine.budget ≡ l.budget;
  harts : length l.machine.state.harts ≡ l.harts;
  left : asks_at (program_of l.image) l.budget l.address (asked_along l.quanta) (start l.image l.harts)
      ≡ asks_at (program_of l.image) l.budget l.address (asked_along (drop l.quantum-index l.quanta)) l.machine.state;
}
