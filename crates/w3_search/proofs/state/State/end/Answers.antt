use Rattle.std.proofs.Common.{◌≡◌, ◌<◌, sym, subst}
use Rattle.w3_search.specs.declared.node.Node.{Node}
use Rattle.w3_search.specs.History.{AreFew, AreHere}
use Rattle.w3_search.proofs.Ends.{all_closed}
use Rattle.w3_search.proofs.state.State.end.Goals as goal

pub invariant_of-self : goal.invariant_of-self
invariant_of-self c =
    let s = c.self.inside in
    let i = c.self.invariant in
    record {
      some = i.some;
      begun = i.begun;
      numbered = i.numbered;
      room = i.room;
      few = subst (AreFew s.decl.window) (sym c.end_open.ensures) (all_closed (λ (n : Node). n.seen < s.decl.window) s.nodes);
      here = subst (AreHere s.present) (sym c.end_open.ensures) (all_closed (λ (n : Node). n.phase ≡ s.present) s.nodes);
    }
