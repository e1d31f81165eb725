use Rattle.std.proofs.Common.{◌≡◌, drop, length}
use Rattle.std.specs.Prelude.{map, take}
use Rattle.machine.specs.Effects.{armed_in}
use Rattle.machine.proofs.instruments.arm_harts.Given as goal

-- the harts so far are armed
abbrev pub invariant-loop-hart : goal.invariant-loop-hart
invariant-loop-hart l = record {
  len : length l.harts ≡ length l.fn.harts;
  done : take l.hart-index l.harts ≡ map (armed_in l.fn.mem l.fn.instrument) (take l.hart-index l.fn.harts);
  left : drop l.hart-index l.harts ≡ drop l.hart-index l.fn.harts;
}
