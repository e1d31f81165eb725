use Rattle.std.proofs.Common.{◌≡◌, length}
use Rattle.std.specs.Prelude.{map, take}
use Rattle.machine.specs.Instruments.{reading}
use Rattle.machine.proofs.instruments.read_harts.Given as goal

-- the harts so far are read
abbrev pub invariant-loop-number : goal.invariant-loop-number
invariant-loop-number l = record {
  len : length l.readings ≡ length l.fn.harts;
  read : take l.number l.readings ≡ map (reading l.fn.instrument) (take l.number l.fn.harts);
}
