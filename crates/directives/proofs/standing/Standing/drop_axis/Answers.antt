use Rattle.std.proofs.Common.{◌≡◌, map, length, take, drop, ◌++◌, refl, sym, ap, ◌∙◌, subst, arith}
use Rattle.directives.specs.Acts.{with_hypothesis, without_axis}
use Rattle.directives.specs.Standing.{under, standing, with_change, ArePlaces}
use Rattle.directives.proofs.Slots.{Slots}
use Rattle.directives.proofs.Moving.{one_changed, none_changed, places_changed, not_named, whole_written, either, ok_more}
use Rattle.directives.proofs.standing.Standing.drop_axis.Goals as goal

pub returns-in_default : goal.returns-in_default
returns-in_default c =
    let s = c.self.inside in
    let f = with_hypothesis c.args.name.now (without_axis c.args.axis.now) in
    sym c.self.view_is ∙ none_changed s.slots.items (under s.named) (under s.children) c.self.invariant s.moved.items c.args.name.now f (not_named c.args.name.now (without_axis c.args.axis.now)) (sym c.in_default.ensures) ∙ ap (map f) c.self.view_is

pub invariant_of-self : goal.invariant_of-self
invariant_of-self c =
    let s = c.self.inside in
    let f = with_hypothesis c.args.name.now (without_axis c.args.axis.now) in
    let whole : take s.slots.len (c.drop_axis.new.slots ++ drop (length c.drop_axis.new.slots) s.slots.items) ≡ c.drop_axis.new.slots =
    whole_written c.drop_axis.new.slots s.slots.items s.slots.len s.slots.ok.0 (omega (arith, c.drop_axis.auto, ap length c.as_mut_slice.ensures.value)) in
    let there = λ (l : Slots). ArePlaces l (under s.named) (under s.children) in
    subst there (sym whole)
    (either c.drop_axis.result c.drop_axis.ensures.ok c.drop_axis.ensures.err
    (λ e. subst there (sym (e ∙ ap (λ (l : Slots). with_change l c.in-Some.place f) c.as_mut_slice.ensures.value)) (places_changed c.args.name.now (without_axis c.args.axis.now) (λ own h. refl) (λ own h. refl) s.slots.items c.in-Some.place (under s.named) (under s.children) c.self.invariant))
    (λ e. subst there (sym (e ∙ c.as_mut_slice.ensures.value)) c.self.invariant))

pub returns : goal.returns
returns c =
    let s = c.self.inside in
    let f = with_hypothesis c.args.name.now (without_axis c.args.axis.now) in
    let whole : take s.slots.len (c.drop_axis.new.slots ++ drop (length c.drop_axis.new.slots) s.slots.items) ≡ c.drop_axis.new.slots =
    whole_written c.drop_axis.new.slots s.slots.items s.slots.len s.slots.ok.0 (omega (arith, c.drop_axis.auto, ap length c.as_mut_slice.ensures.value)) in
    ok_more c.drop_axis.result c.drop_axis.ensures.ok (λ e.
    ap (λ (l : Slots). standing l s.moved.items) (whole ∙ e ∙ ap (λ (l : Slots). with_change l c.in-Some.place f) c.as_mut_slice.ensures.value)
    ∙ one_changed s.slots.items (under s.named) (under s.children) c.self.invariant s.moved.items c.args.name.now f (not_named c.args.name.now (without_axis c.args.axis.now)) c.in-Some.place (sym c.in-Some.ensures) ∙ ap (map f) c.self.view_is)
