use Rattle.std.proofs.Common.{◌≡◌, sym, ap, subst, ◌∙◌, arith}
use Rattle.w3_search.specs.declared.node.Node.{Node}
use Rattle.w3_search.specs.History.{AreHere, In}
use Rattle.w3_search.proofs.Changes.{active_open, open_at}
use Rattle.w3_search.proofs.Pairs.{OneSampled, Pairs, all_sampled, ended_was, pairs_back, sampled_here}
use Rattle.w3_search.proofs.state.State.add_samples.Goals as goal

pub invariant_of-self : goal.invariant_of-self
invariant_of-self c =
    let s = c.self.inside in
    let i = c.self.invariant in
    let pairs = all_sampled s.hypotheses s.decl.window c.args.t c.args.samples.now s.nodes in
    record {
      some = i.some;
      begun = i.begun;
      numbered = i.numbered;
      room = omega (arith, i.room, c.clear.ensures.capacity, c.add_samples.ensures.capacity);
      few = c.add_samples.ensures.few;
      here = subst (AreHere s.present) (sym c.add_samples.ensures.nodes) (sampled_here s.present s.nodes _ pairs i.here);
    }

pub returns-clause-here : goal.returns-clause-here
returns-clause-here c k m listed e =
    let s = c.self.inside in
    let i = c.self.invariant in
    let ms = c.add_samples.new.self in
    let pairs : Pairs OneSampled s.nodes ms = subst (Pairs OneSampled s.nodes) (sym c.add_samples.ensures.nodes) (all_sampled s.hypotheses s.decl.window c.args.t c.args.samples.now s.nodes) in
    let b = pairs_back OneSampled s.nodes ms k m pairs e in
    let was = ended_was s.nodes ms k b.0 (subst (In k) c.add_samples.ensures.drops listed) b.1 in
    ap (λ x. x.phase) b.2.aged.same ∙ open_at (λ (n : Node). n.phase ≡ s.present) s.nodes k b.0 i.here b.1 (active_open b.0.state was)
