use Rattle.std.proofs.Common.{◌≡◌, map, length, take, drop, ◌++◌, refl, sym, ap, ◌∙◌, subst, arith}
use Rattle.directives.specs.Acts.{with_hypothesis, with_threshold}
use Rattle.directives.specs.Standing.{under, standing, with_change, ArePlaces}
use Rattle.directives.proofs.Slots.{Slots}
use Rattle.directives.proofs.Moving.{one_changed, none_changed, places_changed, not_named, whole_written}
use Rattle.directives.proofs.standing.Standing.set_threshold.Goals as goal

pub returns-in_default : goal.returns-in_default
returns-in_default c =
    let s = c.self.inside in
    let f = with_hypothesis c.args.name.now (with_threshold c.args.threshold) in
    sym c.self.view_is ∙ none_changed s.slots.items (under s.named) (under s.children) c.self.invariant s.moved.items c.args.name.now f (not_named c.args.name.now (with_threshold c.args.threshold)) (sym c.in_default.ensures) ∙ ap (map f) c.self.view_is

pub invariant_of-self : goal.invariant_of-self
invariant_of-self c =
    let s = c.self.inside in
    let f = with_hypothesis c.args.name.now (with_threshold c.args.threshold) in
    let whole : take s.slots.len (c.set_threshold.new.slots ++ drop (length c.set_threshold.new.slots) s.slots.items) ≡ c.set_threshold.new.slots =
    whole_written c.set_threshold.new.slots s.slots.items s.slots.len s.slots.ok.0 (omega (arith, c.set_threshold.auto, ap length c.as_mut_slice.ensures.value)) in
    let there = λ (l : Slots). ArePlaces l (under s.named) (under s.children) in
    subst there (sym (whole ∙ c.set_threshold.ensures ∙ ap (λ (l : Slots). with_change l c.in-Some.place f) c.as_mut_slice.ensures.value))
    (places_changed c.args.name.now (with_threshold c.args.threshold) (λ own h. refl) (λ own h. refl) s.slots.items c.in-Some.place (under s.named) (under s.children) c.self.invariant)

pub returns-in-Some : goal.returns-in-Some
returns-in-Some c =
    let s = c.self.inside in
    let f = with_hypothesis c.args.name.now (with_threshold c.args.threshold) in
    let whole : take s.slots.len (c.set_threshold.new.slots ++ drop (length c.set_threshold.new.slots) s.slots.items) ≡ c.set_threshold.new.slots =
    whole_written c.set_threshold.new.slots s.slots.items s.slots.len s.slots.ok.0 (omega (arith, c.set_threshold.auto, ap length c.as_mut_slice.ensures.value)) in
    ap (λ (l : Slots). standing l s.moved.items) (whole ∙ c.set_threshold.ensures ∙ ap (λ (l : Slots). with_change l c.in-Some.place f) c.as_mut_slice.ensures.value)
    ∙ one_changed s.slots.items (under s.named) (under s.children) c.self.invariant s.moved.items c.args.name.now f (not_named c.args.name.now (with_threshold c.args.threshold)) c.in-Some.place (sym c.in-Some.ensures) ∙ ap (map f) c.self.view_is
