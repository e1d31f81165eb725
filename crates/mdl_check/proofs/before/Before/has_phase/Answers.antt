use Rattle.std.proofs.Common.{is_some, ap, ◌∙◌}
use Rattle.mdl_check.specs.Names.{phase_name}
use Rattle.mdl_check.proofs.Lookups.{stands_at}
use Rattle.mdl_check.proofs.before.Before.has_phase.Goals as goal

pub returns : goal.returns
returns c = c.is_some.ensures ∙ ap is_some c.lookup.ensures ∙ stands_at phase_name c.args.name.now c.self.inside.items.now c.args.self.now c.self.inside.noted.now.phases c.self.invariant.phases_are c.self.view_is
