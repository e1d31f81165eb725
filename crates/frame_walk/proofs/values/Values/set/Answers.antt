use Rattle.std.proofs.Common.{ap, ◌∙◌}
use Rattle.std.specs.Prelude.{slice_set}
use Rattle.tramp_spec.specs.Slots.{initials}
use Rattle.frame_walk.specs.Changes.{Acting, values_changed}
use Rattle.frame_walk.proofs.Changing.{changed_more}
use Rattle.frame_walk.proofs.values.Values.set.Goals as goal

pub returns-clause-values : goal.returns-clause-values
returns-clause-values c =
    ap (values_changed (initials c.self.inside.vars.now)) c.push.ensures ∙ (changed_more c.self.inside.changes (record { variable = c.args.variable; value = c.args.value }) (initials c.self.inside.vars.now)
    ∙ ap (λ (a : Acting). slice_set a.values c.args.variable c.args.value) c.self.view_is)
