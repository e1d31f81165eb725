use Rattle.std.proofs.Common.{◌≡◌, List, ℕ, ◌++◌, length, reverse, ap, ap₂, ◌∙◌, arith}
use Rattle.std.specs.List.{range_with_len}
use Rattle.std.proofs.lemmas.List.{length-reverse}
use Rattle.mdl_ast.specs.declared.items.Item.{Item}
use Rattle.directives.specs.Standing.{items_in_slots, items_left}
use Rattle.directives.proofs.Slots.{Slots, length_left}
use Rattle.directives.proofs.AllStanding.{standing_by_parts}
use Rattle.directives.proofs.Moving.{whole_written}
use Rattle.directives.proofs.standing.Standing.into_items.Goals as goal

abbrev rest_taken : Slots → List Item
rest_taken slots = items_in_slots (range_with_len 0 (length slots)) slots

pub returns : goal.returns
returns c =
    let s = c.self.inside in
    let slots : Slots = s.slots.items in
    let first : List ℕ = reverse s.moved.items in
    let turned : c.reverse.new.self ≡ first = c.reverse.ensures.after ∙ ap reverse c.as_mut_slice.ensures.value in
    let moved : c.as_slice.result.now ≡ first =
    c.as_slice.ensures.value ∙ whole_written c.reverse.new.self s.moved.items s.moved.len s.moved.ok.0 (omega (arith, ap length turned, length-reverse s.moved.items)) ∙ turned in
    let emptied : c.take_items.new.slots ≡ items_left first slots = c.in_ok-take_items.ensures.slots ∙ ap₂ items_left moved c.as_mut_slice-2.ensures.value in
    let behind : c.as_mut_slice-3.result.now ≡ items_left first slots =
    c.as_mut_slice-3.ensures.value ∙ whole_written c.take_items.new.slots slots s.slots.len s.slots.ok.0 (omega (arith, ap length emptied, length_left first slots)) ∙ emptied in
    let out : c.take_items.new.out.items ≡ items_in_slots first slots =
    c.in_ok-take_items.ensures.out ∙ ap (λ (l : List Item). l ++ items_in_slots c.as_slice.result.now c.as_mut_slice-2.result.now) c.new-items.ensures.items ∙ ap₂ items_in_slots moved c.as_mut_slice-2.ensures.value in
    c.in_ok-take_all.ensures ∙ ap₂ (λ (xs : List Item) (l : Slots). xs ++ rest_taken l) out behind ∙ standing_by_parts slots s.moved.items ∙ c.self.view_is
