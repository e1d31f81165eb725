use Rattle.std.proofs.Common.{◌≡◌, ◌<◌, IfSome, Option, ℕ, length, sym, subst, ◌∙◌}
use Rattle.mdl_check.specs.Names.{metric_number}
use Rattle.mdl_check.proofs.Lookups.{metric_at, metric_below}
use Rattle.mdl_check.proofs.index.Index.metric_number.Goals as goal

pub returns-clause-number : goal.returns-clause-number
returns-clause-number c = c.lookup.ensures ∙ metric_at c.args.name.now c.self.inside.all.now c.args.self.now c.self.inside.kept.now.metrics c.self.invariant.metrics_are c.self.view_is

pub returns-clause-below : goal.returns-clause-below
returns-clause-below c =
    let number : c.lookup.result ≡ metric_number c.args.self.now c.args.name.now =
    c.lookup.ensures ∙ metric_at c.args.name.now c.self.inside.all.now c.args.self.now c.self.inside.kept.now.metrics c.self.invariant.metrics_are c.self.view_is in
    subst (λ (o : Option ℕ). IfSome o (λ n. n < length c.args.self.now)) (sym number) (metric_below c.args.name.now c.args.self.now)
