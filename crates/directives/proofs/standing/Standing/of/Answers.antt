use Rattle.std.proofs.Common.{◌≡◌, ◌+◌, ◌++◌, ◌∷◌, [], List, Some, map, length, sym, ap, ap₂, ◌∙◌, subst, arith}
use Rattle.std.proofs.lemmas.List.{map-append, map-id}
use Rattle.std.proofs.lemmas.Iterator.Adapters.{YieldsList-from_vec}
use Rattle.std.proofs.lemmas.Iterator.Consumers.{YieldsList-end}
use Rattle.first_places.specs.Numbers.{with_number}
use Rattle.mdl_ast.specs.declared.items.Item.{Item}
use Rattle.directives.specs.Hypotheses.{is_named}
use Rattle.directives.specs.Standing.{under, is_child, places_where, standing, ArePlaces}
use Rattle.directives.proofs.Slots.{Slots}
use Rattle.directives.proofs.AtStart.{where_more, length_some, places_at_first, standing_at_first}
use Rattle.directives.proofs.standing.Standing.of.Goals as goal

pub loop-item-preserved : goal.loop-item-preserved
loop-item-preserved c =
    let xs : List Item = c.loop-item.yielded in
    let place : c.len-in-loop-item.result ≡ 0 + length xs = omega (arith, c.len-in-loop-item.ensures, c.loop-item.slots.ok.0, ap length c.loop-item.invariant.slots, length_some xs) in
    record {
      slots = c.in_ok-push.ensures.items ∙ ap (λ (l : Slots). l ++ Some c.in-Some.item ∷ []) c.loop-item.invariant.slots ∙ sym (map-append Some xs (c.in-Some.item ∷ []));
      named = λ name. c.in_ok-note_item.ensures.named name ∙ ap₂ (with_number (is_named name c.in-Some.item)) place (c.loop-item.invariant.named name) ∙ sym (where_more (is_named name) 0 xs c.in-Some.item);
      children = λ name. c.in_ok-note_item.ensures.children name ∙ ap₂ (with_number (is_child name c.in-Some.item)) place (c.loop-item.invariant.children name) ∙ sym (where_more (is_child name) 0 xs c.in-Some.item);
    }

pub invariant_of-result : goal.invariant_of-result
invariant_of-result c =
    let gives = c.into_iter-item-iterator.ensures.into_iter_gives in
    let seen : c.loop-item.yielded ≡ c.args.items.items = sym (map-id c.loop-item.yielded) ∙ (YieldsList-end (YieldsList-from_vec c.args.items.items gives.0 (gives.1 ∙ c.args.items.ok.0)) c.loop-item.yielded c.loop-item.item-iterator c.loop-item.yielded_by c.next.result c.next.new.self c.in-None.is c.next.ensures.steps).0 in
    subst (λ (l : Slots). ArePlaces l (under c.loop-item.named) (under c.loop-item.children)) (sym (c.loop-item.invariant.slots ∙ ap (map Some) seen))
    (places_at_first c.args.items.items (under c.loop-item.named) (under c.loop-item.children) c.requires
    (λ name. c.loop-item.invariant.named name ∙ ap (places_where (is_named name) 0) seen) (λ name. c.loop-item.invariant.children name ∙ ap (places_where (is_child name) 0) seen))

pub returns : goal.returns
returns c =
    let gives = c.into_iter-item-iterator.ensures.into_iter_gives in
    let seen : c.loop-item.yielded ≡ c.args.items.items = sym (map-id c.loop-item.yielded) ∙ (YieldsList-end (YieldsList-from_vec c.args.items.items gives.0 (gives.1 ∙ c.args.items.ok.0)) c.loop-item.yielded c.loop-item.item-iterator c.loop-item.yielded_by c.next.result c.next.new.self c.in-None.is c.next.ensures.steps).0 in
    ap₂ standing (c.loop-item.invariant.slots ∙ ap (map Some) seen) c.new.ensures.items ∙ standing_at_first c.args.items.items
