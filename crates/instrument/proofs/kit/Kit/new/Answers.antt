use Rattle.std.proofs.Common.{List, subst}
use Rattle.pn_types.specs.declared.plan.Site.{Site}
use Rattle.machine.specs.Cores.{In}
use Rattle.instrument.proofs.Added.{site_short}
use Rattle.instrument.proofs.kit.Kit.new.Goals as goal

pub new-requires : goal.new-requires
new-requires c = λ s i. site_short c.args.plan.now c.requires s (subst (λ (ss : List Site). In s ss) c.as_slice.ensures i)
