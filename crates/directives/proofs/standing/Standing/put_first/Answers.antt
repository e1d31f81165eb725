use Rattle.std.proofs.Common.{sym, ap, ◌∙◌}
use Rattle.directives.specs.Acts.{with_first}
use Rattle.directives.specs.Hypotheses.{has_hypothesis}
use Rattle.directives.specs.Standing.{under, standing}
use Rattle.directives.proofs.Moving.{moved_first, somewhere}
use Rattle.directives.proofs.standing.Standing.put_first.Goals as goal

pub returns-in_ok-push : goal.returns-in_ok-push
returns-in_ok-push c =
    let s = c.self.inside in
    ap (standing s.slots.items) c.in_ok-push.ensures.items
    ∙ moved_first s.slots.items (under s.named) (under s.children) c.self.invariant s.moved.items c.args.name.now (ap (has_hypothesis c.args.name.now) c.self.view_is ∙ c.requires) c.in-Some.place (sym c.in-Some.ensures)
    ∙ ap (with_first c.args.name.now) c.self.view_is

pub returns-in_default : goal.returns-in_default
returns-in_default c =
    let s = c.self.inside in
    absurd (somewhere s.slots.items (under s.named) (under s.children) c.self.invariant s.moved.items c.args.name.now (ap (has_hypothesis c.args.name.now) c.self.view_is ∙ c.requires) (sym c.in_default.ensures))
