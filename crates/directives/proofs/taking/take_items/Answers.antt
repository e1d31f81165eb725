use Rattle.std.proofs.Common.{ℕ, ◌++◌, ◌∷◌, [], List, take, get_or, sym, ap, ◌∙◌, subst, arith}
use Rattle.std.proofs.lemmas.List.{append_assoc}
use Rattle.mdl_ast.specs.declared.items.Item.{Item}
use Rattle.directives.specs.Standing.{items_in_slots, items_left, without, IsLeftOf}
use Rattle.directives.proofs.Slots.{Slots, at, left_of, left_again, left_both, taken_more, take_more}
use Rattle.directives.proofs.taking.take_items.Goals as goal

pub returns-in_err-take_item-clause-left : goal.returns-in_err-take_item-clause-left
returns-in_err-take_item-clause-left c =
    let before = c.loop-place.slots in
    let start = c.args.slots.now in
    left_again start before c.take_item.new.slots
    (subst (IsLeftOf start) (sym c.loop-place.invariant.slots) (left_of (take c.loop-place.place-index c.args.places.now) start))
    (subst (IsLeftOf before) (sym c.take_item.ensures.slots) (left_of (_ ∷ []) before))

pub loop-place-preserved : goal.loop-place-preserved
loop-place-preserved c =
    let ks = take c.loop-place.place-index c.args.places.now in
    let k : ℕ = get_or c.args.places.now c.loop-place.place-index 0 in
    let start = c.args.slots.now in
    let before = c.args.out.now.items in
    let more = take_more c.args.places.now c.loop-place.place-index (omega arith) in
    record {
      slots = c.take_item.ensures.slots ∙ ap (λ (s : Slots). without s k) c.loop-place.invariant.slots ∙ sym (left_both start ks (k ∷ [])) ∙ ap (λ (l : List ℕ). items_left l start) (sym more);
      out = c.in_ok-take_item.ensures.out ∙ ap (λ (s : Slots). c.loop-place.out.items ++ at s k) c.loop-place.invariant.slots ∙ ap (λ (l : List Item). l ++ at (items_left ks start) k) c.loop-place.invariant.out
          ∙ append_assoc before (items_in_slots ks start) (at (items_left ks start) k) ∙ ap (λ (l : List Item). before ++ l) (sym (taken_more start ks k)) ∙ ap (λ (l : List ℕ). before ++ items_in_slots l start) (sym more);
    }

pub returns-clause-left : goal.returns-clause-left
returns-clause-left c = subst (IsLeftOf c.args.slots.now) (sym c.loop-place.invariant.slots) (left_of (take c.loop-place.place-index c.args.places.now) c.args.slots.now)
