use Rattle.std.proofs.Common.{List, Option, Some, sym, ap, ◌∙◌}
use Rattle.std.specs.List.{list_any}
use Rattle.pn_types.specs.declared.focus.Focus.{Focus}
use Rattle.mdl_check.specs.Placed.{Entry}
use Rattle.mdl_check.specs.Rules.{is_shown_by}
use Rattle.mdl_check.specs.Sights.{is_same_sight}
use Rattle.mdl_check.specs.declared.sight.MetricFocus.{MetricFocus}
use Rattle.mdl_check.proofs.Befores.{nowhere_shown}
use Rattle.mdl_check.proofs.before.Before.shows.Goals as goal

pub returns-in-Some : goal.returns-in-Some
returns-in-Some c =
    c.is_shown.ensures
    ∙ ap (λ (s : MetricFocus). list_any (is_same_sight s) c.self.inside.noted.now.shown.keys) c.new.ensures
    ∙ c.self.invariant.shown_are c.args.metric c.in-Some.focus
    ∙ ap (λ (es : List Entry). list_any (λ e. is_shown_by c.args.metric.now (Some c.in-Some.focus) e.item e.focus) es) c.self.view_is
    ∙ ap (λ (o : Option Focus). list_any (λ e. is_shown_by c.args.metric.now o e.item e.focus) c.args.self.now) (sym c.in-Some.is)

pub returns-in-None : goal.returns-in-None
returns-in-None c =
    sym (nowhere_shown c.args.metric.now c.args.self.now)
    ∙ ap (λ (o : Option Focus). list_any (λ e. is_shown_by c.args.metric.now o e.item e.focus) c.args.self.now) (sym c.in-None.is)
