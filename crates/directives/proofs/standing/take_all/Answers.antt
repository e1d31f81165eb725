use Rattle.std.proofs.Common.{ℕ, ◌++◌, ◌∷◌, [], List, sym, ap, ◌∙◌}
use Rattle.std.specs.List.{range_with_len}
use Rattle.std.proofs.lemmas.List.{append_assoc}
use Rattle.mdl_ast.specs.declared.items.Item.{Item}
use Rattle.directives.specs.Standing.{items_in_slots, items_left, without}
use Rattle.directives.proofs.Slots.{Slots, at, left_both, taken_more, range_more}
use Rattle.directives.proofs.standing.take_all.Goals as goal

pub loop-place-preserved : goal.loop-place-preserved
loop-place-preserved c =
    let k = c.loop-place.place in
    let ks : List ℕ = range_with_len 0 k in
    let start = c.args.slots.now in
    let before = c.args.out.now.items in
    record {
      slots = c.take_item.ensures.slots ∙ ap (λ (s : Slots). without s k) c.loop-place.invariant.slots ∙ sym (left_both start ks (k ∷ [])) ∙ ap (λ (l : List ℕ). items_left l start) (sym (range_more k));
      out = c.in_ok-take_item.ensures.out ∙ ap (λ (s : Slots). c.loop-place.out.items ++ at s k) c.loop-place.invariant.slots ∙ ap (λ (l : List Item). l ++ at (items_left ks start) k) c.loop-place.invariant.out
          ∙ append_assoc before (items_in_slots ks start) (at (items_left ks start) k) ∙ ap (λ (l : List Item). before ++ l) (sym (taken_more start ks k)) ∙ ap (λ (l : List ℕ). before ++ items_in_slots l start) (sym (range_more k));
    }
