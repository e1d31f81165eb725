use Rattle.std.proofs.Common.{◌≡◌, length, map, take}
use Rattle.mdl_plan.specs.Indexes.{AreByProcedure}
use Rattle.mdl_plan.proofs.index.places_of.Given as goal

abbrev pub invariant-loop-place : goal.invariant-loop-place
invariant-loop-place l = record {
  many : length l.places.items ≡ l.procs;
  so_far : AreByProcedure (take l.place l.points) (map (λ list. list.items) l.places.items);
}
