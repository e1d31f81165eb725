use Rattle.std.proofs.Common.{◌≡◌, drop}
use Rattle.std.specs.Prelude.{find, nat_le}
use Rattle.turn_order.proofs.ready.Ready.first_from.Given as goal

-- the first is among the rest, if it is there
abbrev pub invariant-loop-hart : goal.invariant-loop-hart
invariant-loop-hart l = find (nat_le l.least) (drop l.hart-index l.self) ≡ find (nat_le l.least) l.self
