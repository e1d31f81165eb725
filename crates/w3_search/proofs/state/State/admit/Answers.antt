use Rattle.std.proofs.Common.{◌≡◌, ◌<◌, sym, ap, subst, true}
use Rattle.std.specs.Prelude.{slice_get}
use Rattle.w3_search.specs.declared.node.Node.{Node}
use Rattle.w3_search.specs.declared.node.NodeState.TheVariants.{Active}
use Rattle.w3_search.specs.History.{AreFew, AreHere}
use Rattle.w3_search.specs.Nodes.{in_state, is_open}
use Rattle.w3_search.specs.Steps.{SearchData, Waits}
use Rattle.w3_search.proofs.Changes.{there, open_at, open_changed}
use Rattle.w3_search.proofs.state.State.admit.Goals as goal

pub invariant_of-self : goal.invariant_of-self
invariant_of-self c =
    let s = c.self.inside in
    let i = c.self.invariant in
    let k = c.args.number in
    let r = there (slice_get s.nodes k) (subst (λ (v : SearchData). Waits k v.nodes) (sym c.self.view_is) c.requires) in
    let was_open : is_open r.0.state ≡ true = ap is_open r.2 in
    record {
      some = i.some;
      begun = i.begun;
      numbered = i.numbered;
      room = i.room;
      few = subst (AreFew s.decl.window) (sym c.admit.ensures)
          (open_changed (λ (n : Node). n.seen < s.decl.window) (in_state Active) s.nodes k r.0 i.few r.1 (λ _. open_at (λ (n : Node). n.seen < s.decl.window) s.nodes k r.0 i.few r.1 was_open));
      here = subst (AreHere s.present) (sym c.admit.ensures)
          (open_changed (λ (n : Node). n.phase ≡ s.present) (in_state Active) s.nodes k r.0 i.here r.1 (λ _. open_at (λ (n : Node). n.phase ≡ s.present) s.nodes k r.0 i.here r.1 was_open));
    }
