use Rattle.std.proofs.Common.{◌≡◌, ◌++◌, [], ◌∷◌, Option, subst}
use Rattle.std.specs.Prelude.{IfSome}
use Rattle.pn_types.specs.declared.quantum.Quantum.{Quantum}
use Rattle.session.specs.Sessions.{state_of}
use Rattle.visi_run.proofs.Feeds.{quantum_step}
use Rattle.visi_run.proofs.run.take_all.Goals as goal

pub tell-requires-clause-behind : goal.tell-requires-clause-behind
tell-requires-clause-behind g c =
    let i = c.quanta.invariant in
    let s = c.quanta.session in
    let new = c.next-in-quanta.new.session in
    let e = c.in_ok-next.ensures in
    let taken = subst (λ (answer : Option Quantum). IfSome answer (λ q. new.quanta ≡ s.quanta ++ q ∷ [])) c.in-Some-2.is e.taken in
    record { before = state_of s; told = i.told; step = quantum_step s new c.in-Some-2.field-0 i.stand.going e.going e.inputs taken }
