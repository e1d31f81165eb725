use Rattle.std.proofs.Common.{◌≡◌, ◌+◌, ℕ, List, length, map, sym, ap, subst, ◌∙◌, refl, arith}
use Rattle.std.specs.Prelude.{slice_get}
use Rattle.std.specs.Vec.{with_items}
use Rattle.w3_search.specs.declared.node.Node.{Node}
use Rattle.w3_search.specs.declared.node.NodeState.TheVariants.{Active}
use Rattle.w3_search.specs.Index.{IsIndexed, inserted, without}
use Rattle.w3_search.specs.Nodes.{active_of, with_node_changed, in_state, is_active, is_waiting, place_of, waiting_of}
use Rattle.w3_search.specs.Steps.{Waits}
use Rattle.w3_search.proofs.Changes.{there, length_changed, places_changed}
use Rattle.w3_search.proofs.Indexes.{indexed, items_are}
use Rattle.w3_search.proofs.Numbering.{few_numbers, length_inserted, numbers_join, numbers_leave}
use Rattle.w3_search.proofs.nodes.Nodes.admit.Goals as goal

pub put_in-requires : goal.put_in-requires
put_in-requires c =
    let s = c.self.inside in
    let i = c.self.invariant in
    let ns = s.list.items in
    let k = c.args.number in
    let f : Node → Node = in_state Active in
    let r = there (slice_get ns k) (subst (Waits k) (sym c.self.view_is) c.requires) in
    let joined = ap (λ (l : List ℕ). length l) (numbers_join (λ n. is_active n.state) f ns k 0 r.0 r.1 (ap is_active r.2) refl) in
    let tests = ap (λ (l : List ℕ). length l) i.0.under_test in
    omega (arith, few_numbers (λ n. is_active n.state) 0 (with_node_changed f k ns), length_changed f ns k, length_inserted (0 + k) (active_of ns), i.0.few, i.1.for_active)

pub invariant_of-self : goal.invariant_of-self
invariant_of-self c =
    let s = c.self.inside in
    let i = c.self.invariant in
    let ns = s.list.items in
    let k = c.args.number in
    let z : k ≡ 0 + k = omega arith in
    let f : Node → Node = in_state Active in
    let ws = c.set_state.new.nodes in
    let r = there (slice_get ns k) (subst (Waits k) (sym c.self.view_is) c.requires) in
    let e : ws ≡ with_node_changed f k ns = c.set_state.ensures ∙ ap (with_node_changed f k) c.deref_mut.ensures.value in
    let len : length ws ≡ length ns = ap (λ (l : List Node). length l) e ∙ length_changed f ns k in
    let items : (with_items s.list ws).items ≡ ws = items_are s.list ws len in (
      subst (λ (l : List Node). IsIndexed l s.index c.take_out.new.numbers.items c.put_in.new.numbers.items) (sym items)
          (indexed ns ws s.index s.waiting.items s.active.items c.take_out.new.numbers.items c.put_in.new.numbers.items i.0 len
          (ap (map place_of) e ∙ places_changed f (λ n. refl) ns k)
          (c.take_out.ensures.items ∙ ap (without k) i.0.waits ∙ ap (λ (j : ℕ). without j (waiting_of ns)) z
          ∙ sym (numbers_leave (λ n. is_waiting n.state) f ns k 0 r.0 r.1 (ap is_waiting r.2) refl) ∙ ap waiting_of (sym e))
          (c.put_in.ensures.items ∙ ap (inserted k) i.0.under_test ∙ ap (λ (j : ℕ). inserted j (active_of ns)) z
          ∙ sym (numbers_join (λ n. is_active n.state) f ns k 0 r.0 r.1 (ap is_active r.2) refl) ∙ ap active_of (sym e))),
      record {
        for_nodes = i.1.for_nodes;
        for_waiting = omega (arith, i.1.for_waiting, c.take_out.ensures.capacity);
        for_active = omega (arith, i.1.for_active, c.put_in.ensures.capacity);
        for_others = i.1.for_others;
      },
    )
