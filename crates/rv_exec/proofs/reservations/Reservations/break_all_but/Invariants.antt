use Rattle.std.proofs.Common.{◌≡◌, length, true}
use Rattle.rv_exec.proofs.Breaks.{broken_from}
use Rattle.rv_exec.proofs.reservations.Reservations.break_all_but.Given as goal

abbrev pub invariant-loop-i : goal.invariant-loop-i
invariant-loop-i l = record {
  len : length l.self-inside.of.items ≡ length l.initial.self-inside.of.items;
  on : l.self-inside.has_any ≡ true;
  broken : broken_from l.i 0 l.hart l.first l.last l.self-inside.of.items ≡ broken_from 0 0 l.hart l.first l.last l.initial.self-inside.of.items;
}
