use Rattle.std.proofs.Common.{◌≡◌, ◌++◌, drop, take}
use Rattle.instrument.specs.Needs.{need_of, without}
use Rattle.instrument.proofs.kits.find_kit.Given as goal

abbrev pub invariant-loop-place : goal.invariant-loop-place
invariant-loop-place l = without (need_of l.plan) l.kits ≡ take l.place l.kits ++ without (need_of l.plan) (drop l.place l.kits)
