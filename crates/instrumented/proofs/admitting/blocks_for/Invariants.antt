use Rattle.std.proofs.Common.{◌≤◌, ◌+◌, ◌*◌}
use Rattle.std.specs.Prelude.{map}
use Rattle.instrument.specs.Needs.{need_of, sites_in}
use Rattle.instrumented.proofs.Reserved.{sites_from}
use Rattle.instrumented.proofs.admitting.blocks_for.Given as goal

abbrev pub invariant-loop-plan : goal.invariant-loop-plan
invariant-loop-plan l = l.fn.beside + 2 * sites_in (map need_of l.fn.plans) ≤ l.blocks + 2 * sites_from l.plan-index l.fn.plans
