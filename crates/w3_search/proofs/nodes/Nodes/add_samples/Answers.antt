use Rattle.std.proofs.Common.{◌≡◌, ◌≤◌, ℕ, List, ◌++◌, filter, length, vec_capacity, sym, ap, subst, ◌∙◌, arith}
use Rattle.std.specs.Prelude.{not}
use Rattle.std.specs.Vec.{with_items}
use Rattle.w3_search.specs.declared.node.Node.{Node}
use Rattle.w3_search.specs.Index.{IsIndexed}
use Rattle.w3_search.specs.Nodes.{active_of, is_active, is_active_at}
use Rattle.w3_search.specs.Steps.{with_samples}
use Rattle.w3_search.proofs.Indexes.{indexed, items_are}
use Rattle.w3_search.proofs.Numbering.{few_numbers}
use Rattle.w3_search.proofs.Pairs.{OneSampled, Pairs, all_sampled, pairs_length, parted, sampled_places, sampled_waits, still_active}
use Rattle.w3_search.proofs.nodes.Nodes.add_samples.Goals as goal

pub part_active-requires-clause-active_room : goal.part_active-requires-clause-active_room
part_active-requires-clause-active_room c =
    let ns = c.self.inside.list.items in
    let i = c.self.invariant in
    let len : length c.deref.result.now ≤ length ns = subst (λ (l : List ℕ). length l ≤ length ns) (sym (c.deref.ensures.value ∙ i.0.under_test)) (few_numbers (λ n. is_active n.state) 0 ns) in
    omega (arith, i.0.few, i.1.for_others, c.clear.ensures.capacity, c.clear.ensures.len)

pub part_active-requires-clause-ended_room : goal.part_active-requires-clause-ended_room
part_active-requires-clause-ended_room c =
    let ns = c.self.inside.list.items in
    let i = c.self.invariant in
    let len : length c.deref.result.now ≤ length ns = subst (λ (l : List ℕ). length l ≤ length ns) (sym (c.deref.ensures.value ∙ i.0.under_test)) (few_numbers (λ n. is_active n.state) 0 ns) in
    let none = ap (λ (l : List ℕ). length l) c.requires.empty in
    omega (arith, i.0.few, c.requires.room)

pub invariant_of-self : goal.invariant_of-self
invariant_of-self c =
    let s = c.self.inside in
    let i = c.self.invariant in
    let ns = s.list.items in
    let ws = c.add_samples.new.nodes in
    let hs = c.args.hypotheses.now in
    let e : ws ≡ with_samples hs c.args.window c.args.t c.args.samples.now ns = c.add_samples.ensures.nodes ∙ ap (with_samples hs c.args.window c.args.t c.args.samples.now) c.deref_mut.ensures.value in
    let pairs : Pairs OneSampled ns ws = subst (Pairs OneSampled ns) (sym e) (all_sampled hs c.args.window c.args.t c.args.samples.now ns) in
    let len : length ws ≡ length ns = pairs_length OneSampled ns ws pairs in
    let items : (with_items s.list ws).items ≡ ws = items_are s.list ws len in
    let tests : c.swap.new.x.items ≡ active_of ws =
    ap (λ v. v.items) c.swap.ensures.x_after
    ∙ c.part_active.ensures.active
    ∙ ap (λ (l : List ℕ). l ++ filter (is_active_at c.deref-2.result.now) c.deref.result.now) c.clear.ensures.items
    ∙ ap (λ (l : List Node). filter (is_active_at l) c.deref.result.now) (c.deref-2.ensures.value ∙ items)
    ∙ ap (filter (is_active_at ws)) (c.deref.ensures.value ∙ i.0.under_test)
    ∙ still_active ns ws pairs in
    let fits = ap (λ v. vec_capacity v) c.swap.ensures.x_after in
    let other = ap (λ v. vec_capacity v) c.swap.ensures.y_after in (
      subst (λ (l : List Node). IsIndexed l s.index s.waiting.items c.swap.new.x.items) (sym items)
          (indexed ns ws s.index s.waiting.items s.active.items s.waiting.items c.swap.new.x.items i.0 len (sampled_places ns ws pairs) (i.0.waits ∙ sym (sampled_waits ns ws pairs)) tests),
      record {
        for_nodes = i.1.for_nodes;
        for_waiting = i.1.for_waiting;
        for_active = omega (arith, i.1.for_others, c.part_active.ensures.active_capacity, c.clear.ensures.capacity);
        for_others = omega (arith, i.1.for_active);
      },
    )

pub returns-clause-room : goal.returns-clause-room
returns-clause-room c =
    let s = c.self.inside in
    let i = c.self.invariant in
    let ns = s.list.items in
    let ws = c.add_samples.new.nodes in
    let hs = c.args.hypotheses.now in
    let e : ws ≡ with_samples hs c.args.window c.args.t c.args.samples.now ns = c.add_samples.ensures.nodes ∙ ap (with_samples hs c.args.window c.args.t c.args.samples.now) c.deref_mut.ensures.value in
    let pairs : Pairs OneSampled ns ws = subst (Pairs OneSampled ns) (sym e) (all_sampled hs c.args.window c.args.t c.args.samples.now ns) in
    let len : length ws ≡ length ns = pairs_length OneSampled ns ws pairs in
    let items : (with_items s.list ws).items ≡ ws = items_are s.list ws len in
    let ended : length c.part_active.new.ended.items ≡ length (filter (λ j. not (is_active_at ws j)) (active_of ns)) =
    ap (λ (l : List ℕ). length l) (c.part_active.ensures.ended
    ∙ ap (λ (l : List ℕ). l ++ filter (λ j. not (is_active_at c.deref-2.result.now j)) c.deref.result.now) c.requires.empty
    ∙ ap (λ (l : List Node). filter (λ j. not (is_active_at l j)) c.deref.result.now) (c.deref-2.ensures.value ∙ items)
    ∙ ap (filter (λ j. not (is_active_at ws j))) (c.deref.ensures.value ∙ i.0.under_test)) in
    let still : length (active_of (with_items s.list ws).items) ≡ length (filter (is_active_at ws) (active_of ns)) =
    ap (λ (l : List Node). length (active_of l)) items ∙ sym (ap (λ (l : List ℕ). length l) (still_active ns ws pairs)) in
    omega (arith, parted (is_active_at ws) (active_of ns), few_numbers (λ n. is_active n.state) 0 ns, i.0.few)
