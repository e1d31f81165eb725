use Rattle.std.proofs.Common.{[], sym, subst, refl}
use Rattle.w3_search.specs.History.{AreFew, AreHere}
use Rattle.w3_search.specs.Nodes.{active_of}
use Rattle.w3_search.proofs.Kept.{Kept, kept_roots}
use Rattle.w3_search.proofs.state.State.add_roots.Goals as goal

pub invariant_of-self : goal.invariant_of-self
invariant_of-self c =
    let s = c.self.inside in
    let i = c.self.invariant in
    let before : Kept s.decl.window s.present [] (active_of s.nodes) s.nodes = record { few = i.few; here = i.here; dropped = λ j n listed e. absurd listed; same = refl } in
    let kept = kept_roots s.decl.window s.present [] (active_of s.nodes) i.some c.roots.result.now s.nodes before in
    record {
      some = i.some;
      begun = i.begun;
      numbered = i.numbered;
      room = i.room;
      few = subst (AreFew s.decl.window) (sym c.add_roots.ensures) kept.few;
      here = subst (AreHere s.present) (sym c.add_roots.ensures) kept.here;
    }
