use Rattle.std.proofs.Common.{◌≡◌, ◌+◌, ℕ, List, length, map, sym, ap, subst, ◌∙◌, refl, arith}
use Rattle.std.specs.Prelude.{slice_get}
use Rattle.std.specs.Vec.{with_items}
use Rattle.w3_search.specs.declared.node.Node.{Node}
use Rattle.w3_search.specs.declared.node.NodeState.TheVariants.{Barred}
use Rattle.w3_search.specs.Index.{IsIndexed, without}
use Rattle.w3_search.specs.Nodes.{active_of, with_node_changed, in_state, is_active, is_waiting, place_of, waiting_of}
use Rattle.w3_search.specs.Steps.{Waits}
use Rattle.w3_search.proofs.Changes.{there, length_changed, places_changed}
use Rattle.w3_search.proofs.Indexes.{indexed, items_are}
use Rattle.w3_search.proofs.Numbering.{numbers_leave, numbers_stay}
use Rattle.w3_search.proofs.nodes.Nodes.bar.Goals as goal

pub invariant_of-self : goal.invariant_of-self
invariant_of-self c =
    let s = c.self.inside in
    let i = c.self.invariant in
    let ns = s.list.items in
    let k = c.args.number in
    let z : k ≡ 0 + k = omega arith in
    let f : Node → Node = in_state (Barred c.args.cause) in
    let ws = c.set_state.new.nodes in
    let r = there (slice_get ns k) (subst (Waits k) (sym c.self.view_is) c.requires) in
    let e : ws ≡ with_node_changed f k ns = c.set_state.ensures ∙ ap (with_node_changed f k) c.deref_mut.ensures.value in
    let len : length ws ≡ length ns = ap (λ (l : List Node). length l) e ∙ length_changed f ns k in
    let items : (with_items s.list ws).items ≡ ws = items_are s.list ws len in (
      subst (λ (l : List Node). IsIndexed l s.index c.take_out.new.numbers.items s.active.items) (sym items)
          (indexed ns ws s.index s.waiting.items s.active.items c.take_out.new.numbers.items s.active.items i.0 len
          (ap (map place_of) e ∙ places_changed f (λ n. refl) ns k)
          (c.take_out.ensures.items ∙ ap (without k) i.0.waits ∙ ap (λ (j : ℕ). without j (waiting_of ns)) z
          ∙ sym (numbers_leave (λ n. is_waiting n.state) f ns k 0 r.0 r.1 (ap is_waiting r.2) refl) ∙ ap waiting_of (sym e))
          (i.0.under_test ∙ sym (numbers_stay (λ n. is_active n.state) f ns k 0 r.0 r.1 (sym (ap is_active r.2))) ∙ ap active_of (sym e))),
      record {
        for_nodes = i.1.for_nodes;
        for_waiting = omega (arith, i.1.for_waiting, c.take_out.ensures.capacity);
        for_active = i.1.for_active;
        for_others = i.1.for_others;
      },
    )
