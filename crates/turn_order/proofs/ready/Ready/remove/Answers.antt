use Rattle.std.proofs.Common.{rules, tests, ap, ◌∙◌, ◌==◌, not}
use Rattle.std.specs.List.{filter}
use Rattle.std.proofs.lemmas.Fn.{filter_same}
use Rattle.turn_order.proofs.ready.Ready.remove.Goals as goal

pub returns : goal.returns
returns c =
    filter_same _ _ _ (λ x b f' k. search (rules, tests)) _ _ c.retain.ensures.filtered ∙ ap (filter (λ h. not (h == c.args.hart))) c.self.view_is
