use Rattle.std.proofs.Common.{◌≡◌, [], take, drop}
use Rattle.mdl_check.specs.Checking.{fault_from}
use Rattle.mdl_check.specs.Indexes.{AreNoted}
use Rattle.mdl_check.proofs.judge.find_fault_by.Given as goal

abbrev pub invariant-loop-place : goal.invariant-loop-place
invariant-loop-place l = record {
  noted : AreNoted (take l.place l.all) l.noted;
  same : fault_from l.all (take l.place l.all) (drop l.place l.all) ≡ fault_from l.all [] l.all;
}
