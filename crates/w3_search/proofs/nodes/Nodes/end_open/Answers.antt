use Rattle.std.proofs.Common.{◌≡◌, List, length, map, sym, ap, subst, ◌∙◌, refl, arith}
use Rattle.std.proofs.lemmas.List.{length-map}
use Rattle.std.specs.Vec.{with_items}
use Rattle.w3_search.specs.declared.node.Node.{Node}
use Rattle.w3_search.specs.Index.{IsIndexed}
use Rattle.w3_search.specs.Nodes.{active_of, node_at_end, is_active, is_waiting, place_of, waiting_of}
use Rattle.w3_search.proofs.Changes.{places_map}
use Rattle.w3_search.proofs.Ends.{none_active, none_waits}
use Rattle.w3_search.proofs.Indexes.{indexed, items_are}
use Rattle.w3_search.proofs.Numbering.{numbers_none}
use Rattle.w3_search.proofs.nodes.Nodes.end_open.Goals as goal

pub invariant_of-self : goal.invariant_of-self
invariant_of-self c =
    let s = c.self.inside in
    let i = c.self.invariant in
    let ns = s.list.items in
    let ws = c.end_open.new.nodes in
    let e : ws ≡ map node_at_end ns = c.end_open.ensures ∙ ap (map node_at_end) c.deref_mut.ensures.value in
    let len : length ws ≡ length ns = ap (λ (l : List Node). length l) e ∙ simp length-map refl in
    let items : (with_items s.list ws).items ≡ ws = items_are s.list ws len in (
      subst (λ (l : List Node). IsIndexed l s.index c.clear.new.self.items c.clear-2.new.self.items) (sym items)
          (indexed ns ws s.index s.waiting.items s.active.items c.clear.new.self.items c.clear-2.new.self.items i.0 len
          (ap (map place_of) e ∙ places_map node_at_end (λ n. refl) ns)
          (c.clear.ensures.items ∙ sym (numbers_none (λ n. is_waiting n.state) node_at_end none_waits 0 ns) ∙ ap waiting_of (sym e))
          (c.clear-2.ensures.items ∙ sym (numbers_none (λ n. is_active n.state) node_at_end none_active 0 ns) ∙ ap active_of (sym e))),
      record {
        for_nodes = i.1.for_nodes;
        for_waiting = omega (arith, i.1.for_waiting, c.clear.ensures.capacity);
        for_active = omega (arith, i.1.for_active, c.clear-2.ensures.capacity);
        for_others = i.1.for_others;
      },
    )
