use Rattle.std.proofs.Common.{◌≡◌, ◌+◌, ◌≤◌, ◌<◌, ℕ, List, [], ◌++◌, length, map, sym, ap, subst, ◌∙◌, arith, length-append}
use Rattle.w3_search.specs.Refining.{roots}
use Rattle.w3_search.specs.declared.node.Node.{Node}
use Rattle.w3_search.specs.History.{AreFew, AreHere}
use Rattle.w3_search.specs.Nodes.{active_of, node_at_end, is_active, unfinished}
use Rattle.w3_search.specs.Steps.{Rules, SearchData, active_in, with_next_phase, with_roots}
use Rattle.w3_search.proofs.Ends.{active_here, all_closed, none_active, phase_ends}
use Rattle.w3_search.proofs.Kept.{Kept, kept_roots}
use Rattle.w3_search.proofs.Numbering.{numbers_none}
use Rattle.w3_search.proofs.state.State.begin_phase.Goals as goal

pub invariant_of-self : goal.invariant_of-self
invariant_of-self c =
    let s = c.self.inside in
    let i = c.self.invariant in
    let q = s.present + 1 in
    let w = s.decl.window in
    let before : Kept w q [] [] (map node_at_end s.nodes) = record {
      few = all_closed (λ (n : Node). n.seen < w) s.nodes;
      here = all_closed (λ (n : Node). n.phase ≡ q) s.nodes;
      dropped = λ j n listed e. absurd listed;
      same = numbers_none (λ n. is_active n.state) node_at_end none_active 0 s.nodes;
    } in
    let kept = kept_roots w q [] [] i.some c.roots.result.now c.end_open.new.self (subst (Kept w q [] []) (sym c.end_open.ensures) before) in
    let phase : s.present < length s.phases.items = subst (λ (v : SearchData). v.present < length v.rules.phases) (sym c.self.view_is) c.requires.phase in
    record {
      some = i.some;
      begun = omega arith;
      numbered = i.numbered;
      room = omega (arith, i.room, c.push_all.ensures.capacity);
      few = subst (AreFew w) (sym c.add_roots.ensures) kept.few;
      here = subst (AreHere q) (sym c.add_roots.ensures) kept.here;
    }

pub returns-clause-state : goal.returns-clause-state
returns-clause-state c =
    let s = c.self.inside in
    let i = c.self.invariant in
    let rules : Rules = record { hypotheses = s.hypotheses; decl = s.decl; phases = s.phases.items; tree = s.tree } in
    let q = s.present + 1 in
    let nodes : c.add_roots.new.nodes ≡ with_roots q (roots s.hypotheses) (map (unfinished s.present) s.nodes) =
    c.add_roots.ensures ∙ ap (λ (hs : List ℕ). with_roots q hs c.end_open.new.self) c.roots.ensures
    ∙ ap (with_roots q (roots s.hypotheses)) (c.end_open.ensures ∙ sym (phase_ends s.present s.nodes i.here)) in
    let drops : c.push_all.new.numbers.items ≡ s.drops.items ++ active_in s.present s.nodes =
    c.push_all.ensures.items ∙ ap (λ (l : List ℕ). s.drops.items ++ l) (c.active.ensures ∙ sym (active_here s.present s.nodes i.here)) in
    let v : SearchData = record { rules = rules; nodes = s.nodes; present = q; drops = s.drops.items } in
    ap (λ (l : List Node). record v { nodes = l; drops = c.push_all.new.numbers.items }) nodes
    ∙ ap (λ (l : List ℕ). record v { nodes = with_roots q (roots s.hypotheses) (map (unfinished s.present) s.nodes); drops = l }) drops
    ∙ ap with_next_phase c.self.view_is

pub returns-clause-room : goal.returns-clause-room
returns-clause-room c =
    let s = c.self.inside in
    let i = c.self.invariant in
    let q = s.present + 1 in
    let w = s.decl.window in
    let before : Kept w q [] [] (map node_at_end s.nodes) = record {
      few = all_closed (λ (n : Node). n.seen < w) s.nodes;
      here = all_closed (λ (n : Node). n.phase ≡ q) s.nodes;
      dropped = λ j n listed e. absurd listed;
      same = numbers_none (λ n. is_active n.state) node_at_end none_active 0 s.nodes;
    } in
    let kept = kept_roots w q [] [] i.some c.roots.result.now c.end_open.new.self (subst (Kept w q [] []) (sym c.end_open.ensures) before) in
    let none = ap (λ (l : List ℕ). length l) (ap active_of c.add_roots.ensures ∙ kept.same) in
    let room = subst (λ (v : SearchData). length v.drops + length (active_of v.nodes) ≤ 4096) (sym c.self.view_is) c.requires.room in
    let listed = ap (λ (l : List ℕ). length l) c.active.ensures in
    let all = ap (λ (l : List ℕ). length l) c.push_all.ensures.items ∙ length-append s.drops.items c.active.result.now in
    omega arith
