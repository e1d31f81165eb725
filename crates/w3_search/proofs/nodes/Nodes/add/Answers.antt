use Rattle.std.proofs.Common.{◌≡◌, ◌+◌, ◌<◌, ℕ, Bool, true, false, cond, ◌≤◌, List, [], ◌++◌, ◌∷◌, length, map, sym, ap, ◌∙◌, subst, arith}
use Rattle.std.specs.Prelude.{not}
use Rattle.std.specs.List.{list_any}
use Rattle.std.proofs.lemmas.List.{append-nil, map-append, length_push}
use Rattle.w3_search.specs.declared.node.Node.{Node}
use Rattle.w3_search.specs.declared.place.NodePlace.{NodePlace}
use Rattle.w3_search.specs.Nodes.{active_of, is_active, is_free, is_same_place, is_waiting, place_of, new_node, waiting_of, most_nodes}
use Rattle.w3_search.proofs.Changes.{any_places, free_parts}
use Rattle.w3_search.proofs.Numbering.{few_numbers, numbers_push}
use Rattle.w3_search.proofs.nodes.Nodes.add.Goals as goal

pub push_if-requires : goal.push_if-requires
push_if-requires c =
    let ns = c.self.inside.list.items in
    let i = c.self.invariant in
    let free : is_free c.new-place.result ns ≡ true = ap (is_free c.new-place.result) (sym c.deref.ensures.value) ∙ sym c.is_free.ensures ∙ c.if-not-is_free.false in
    let len : length c.self.inside.waiting.items ≤ length ns = subst (λ (ws : List ℕ). length ws ≤ length ns) (sym i.0.waits) (few_numbers (λ n. is_waiting n.state) 0 ns) in
    record { room = λ _. omega (arith, i.1.for_waiting, (free_parts c.new-place.result ns free).0) }

pub take_place-requires : goal.take_place-requires
take_place-requires c =
    let ns = c.self.inside.list.items in
    let i = c.self.invariant in
    let free : is_free c.new-place.result ns ≡ true = ap (is_free c.new-place.result) (sym c.deref.ensures.value) ∙ sym c.is_free.ensures ∙ c.if-not-is_free.false in
    omega (arith, i.0.spare_places, (free_parts c.new-place.result ns free).0)

pub invariant_of-self : goal.invariant_of-self
invariant_of-self c =
    let s = c.self.inside in
    let i = c.self.invariant in
    let ns = s.list.items in
    let p = c.new-place.result in
    let n = new_node c.args.phase c.args.parent c.args.hypothesis c.args.focus.now in
    let free : is_free p ns ≡ true = ap (is_free p) (sym c.deref.ensures.value) ∙ sym c.is_free.ensures ∙ c.if-not-is_free.false in
    let parts = free_parts p ns free in
    let few : length ns < most_nodes = parts.0 in
    let absent : list_any (is_same_place p) s.index.keys ≡ false = ap (list_any (is_same_place p)) i.0.places ∙ any_places p ns ∙ parts.1 in
    let is_new : c.take_place.result ≡ true = c.take_place.ensures.new ∙ ap not absent in
    let new : c.push_node.new.list.items ≡ ns ++ n ∷ [] = c.push_node.ensures.items in
    let more : length c.push_node.new.list.items ≡ length ns + 1 = ap (λ (l : List Node). length l) new ∙ length_push ns n in
    let len : c.len.result ≡ 0 + length ns = omega (arith, c.len.ensures) in (
      record {
        few = omega arith;
        places = c.take_place.ensures.keys
            ∙ ap (λ (b : Bool). cond b (s.index.keys ++ p ∷ []) s.index.keys) is_new
            ∙ ap (λ (ps : List NodePlace). ps ++ p ∷ []) i.0.places
            ∙ ap (λ (q : NodePlace). map place_of ns ++ q ∷ []) c.new-place.ensures
            ∙ sym (map-append place_of ns (n ∷ []))
            ∙ ap (map place_of) (sym new);
        waits = c.push_if.ensures.items
            ∙ ap (λ (ws : List ℕ). ws ++ c.len.result ∷ []) i.0.waits
            ∙ ap (λ (k : ℕ). waiting_of ns ++ k ∷ []) len
            ∙ sym (numbers_push (λ n. is_waiting n.state) 0 ns n)
            ∙ ap waiting_of (sym new);
        under_test = i.0.under_test
            ∙ sym (append-nil (active_of ns))
            ∙ sym (numbers_push (λ n. is_active n.state) 0 ns n)
            ∙ ap active_of (sym new);
        spare_places = omega (arith, i.0.spare_places, c.take_place.ensures.room);
      },
      record {
        for_nodes = omega (arith, i.1.for_nodes, c.push_node.ensures.capacity);
        for_waiting = omega (arith, i.1.for_waiting, c.push_if.ensures.capacity);
        for_active = i.1.for_active;
        for_others = i.1.for_others;
      },
    )
