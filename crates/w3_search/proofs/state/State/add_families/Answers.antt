use Rattle.std.proofs.Common.{◌+◌, ◌≤◌, ℕ, List, length, sym, ap, subst, ◌∙◌, refl, arith}
use Rattle.w3_search.specs.History.{AreFew, AreHere, In}
use Rattle.w3_search.specs.Nodes.{active_of}
use Rattle.w3_search.specs.States.{AreOf}
use Rattle.w3_search.specs.Steps.{SearchData}
use Rattle.w3_search.proofs.Kept.{Kept, kept_families}
use Rattle.w3_search.proofs.state.State.add_families.Goals as goal

pub invariant_of-self : goal.invariant_of-self
invariant_of-self c =
    let s = c.self.inside in
    let i = c.self.invariant in
    let listed = subst (λ (v : SearchData). AreOf v.present v.drops v.nodes) (sym c.self.view_is) c.requires.here in
    let before : Kept s.decl.window s.present s.drops.items (active_of s.nodes) s.nodes = record { few = i.few; here = i.here; dropped = listed; same = refl } in
    let kept = kept_families s.decl.window s.present s.drops.items (active_of s.nodes) i.some s.hypotheses s.tree c.deref.result.now s.nodes (λ j x. subst (In j) c.deref.ensures.value x) before in
    record {
      some = i.some;
      begun = i.begun;
      numbered = i.numbered;
      room = i.room;
      few = subst (AreFew s.decl.window) (sym c.add_families.ensures) kept.few;
      here = subst (AreHere s.present) (sym c.add_families.ensures) kept.here;
    }

pub returns-clause-room : goal.returns-clause-room
returns-clause-room c =
    let s = c.self.inside in
    let i = c.self.invariant in
    let listed = subst (λ (v : SearchData). AreOf v.present v.drops v.nodes) (sym c.self.view_is) c.requires.here in
    let before : Kept s.decl.window s.present s.drops.items (active_of s.nodes) s.nodes = record { few = i.few; here = i.here; dropped = listed; same = refl } in
    let kept = kept_families s.decl.window s.present s.drops.items (active_of s.nodes) i.some s.hypotheses s.tree c.deref.result.now s.nodes (λ j x. subst (In j) c.deref.ensures.value x) before in
    let same = ap (λ (l : List ℕ). length l) (ap active_of c.add_families.ensures ∙ kept.same) in
    let room = subst (λ (v : SearchData). length v.drops + length (active_of v.nodes) ≤ 4096) (sym c.self.view_is) c.requires.room in
    omega arith
