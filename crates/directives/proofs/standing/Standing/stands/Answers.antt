use Rattle.std.proofs.Common.{false, sym, ap, ap₂, ◌∙◌}
use Rattle.std.specs.List.{list_any}
use Rattle.std.specs.Option.{option_map_or}
use Rattle.directives.specs.Hypotheses.{is_named}
use Rattle.directives.specs.Standing.{under, first_at}
use Rattle.directives.proofs.Moving.{any_named}
use Rattle.directives.proofs.standing.Standing.stands.Goals as goal

pub returns-in-Some : goal.returns-in-Some
returns-in-Some c =
    let s = c.self.inside in
    let t = is_named c.args.name.now in
    c.is_named.ensures ∙ ap (λ o. option_map_or t o false) (c.in-Some.ensures ∙ ap₂ first_at c.as_slice.ensures.value c.under.ensures)
    ∙ sym (any_named s.slots.items (under s.named) (under s.children) c.self.invariant s.moved.items c.args.name.now t (λ x h. h)) ∙ ap (list_any t) c.self.view_is

pub returns-in-None : goal.returns-in-None
returns-in-None c =
    let s = c.self.inside in
    let t = is_named c.args.name.now in
    ap (λ o. option_map_or t o false) (c.in-None.ensures ∙ ap₂ first_at c.as_slice.ensures.value c.under.ensures)
    ∙ sym (any_named s.slots.items (under s.named) (under s.children) c.self.invariant s.moved.items c.args.name.now t (λ x h. h)) ∙ ap (list_any t) c.self.view_is
