use Rattle.std.proofs.Common.{is_some, ap, ◌∙◌}
use Rattle.mdl_check.specs.Names.{hypothesis_name}
use Rattle.mdl_check.proofs.Lookups.{stands_at}
use Rattle.mdl_check.proofs.index.Index.has_hypothesis.Goals as goal

pub returns : goal.returns
returns c = c.is_some.ensures ∙ ap is_some c.lookup.ensures ∙ stands_at hypothesis_name c.args.name.now c.self.inside.all.now c.args.self.now c.self.inside.kept.now.hypotheses c.self.invariant.hypotheses_are c.self.view_is
