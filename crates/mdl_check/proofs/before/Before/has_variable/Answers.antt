use Rattle.std.proofs.Common.{is_some, ap, ◌∙◌}
use Rattle.mdl_check.specs.Names.{variable_name}
use Rattle.mdl_check.proofs.Lookups.{stands_at}
use Rattle.mdl_check.proofs.before.Before.has_variable.Goals as goal

pub returns : goal.returns
returns c = c.is_some.ensures ∙ ap is_some c.lookup.ensures ∙ stands_at variable_name c.args.name.now c.self.inside.items.now c.args.self.now c.self.inside.noted.now.variables c.self.invariant.variables_are c.self.view_is
