use Rattle.std.proofs.Common.{◌≡◌, map, take}
use Rattle.instrument.specs.Needs.{need_of}
use Rattle.instrument.proofs.kits.kits_for.Given as goal

abbrev pub invariant-loop-plan : goal.invariant-loop-plan
invariant-loop-plan l = l.kits.items ≡ map need_of (take l.plan-index l.plans)
