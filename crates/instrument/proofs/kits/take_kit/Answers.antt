use Rattle.std.proofs.Common.{List, subst}
use Rattle.machine.specs.Cores.{In}
use Rattle.instrument.specs.Needs.{Need, need_of}
use Rattle.instrument.proofs.Ready.{get_in}
use Rattle.instrument.proofs.kits.take_kit.Goals as goal

pub returns-clause-some : goal.returns-clause-some
returns-clause-some c = subst (λ (ns : List Need). In (need_of c.args.plan.now) ns) c.deref.ensures.value (get_in c.deref.result.now c.in_ok-place.place _ c.in_ok-place.ensures.found)
