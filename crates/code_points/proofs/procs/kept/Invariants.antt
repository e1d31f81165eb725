use Rattle.std.proofs.Common.{◌≤◌, length, drop, map}
use Rattle.code_points.proofs.Kept.{Kept}
use Rattle.code_points.proofs.procs.kept.Given as goal

abbrev pub invariant-loop-symbol : goal.invariant-loop-symbol
invariant-loop-symbol l = record {
  kept : Kept l.image l.procs.items l.end l.names.keys (map (λ r. r.now) (drop l.symbol-index l.functions));
  few : length l.procs.items ≤ l.symbol-index;
}
