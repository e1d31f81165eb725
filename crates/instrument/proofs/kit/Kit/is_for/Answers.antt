use Rattle.std.proofs.Common.{List, subst}
use Rattle.pn_types.specs.declared.plan.Site.{Site}
use Rattle.machine.specs.Cores.{In}
use Rattle.instrument.proofs.Added.{site_short}
use Rattle.instrument.proofs.kit.Kit.is_for.Goals as goal

pub is_for-requires : goal.is_for-requires
is_for-requires c = λ s i. site_short c.args.plan.now c.requires s (subst (λ (ss : List Site). In s ss) c.as_slice-then-are_vars.ensures i)
