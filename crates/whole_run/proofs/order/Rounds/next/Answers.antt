use Rattle.std.proofs.Common.{◌≡◌, ◌<◌, ◌∙◌, List, length, None, Some, ap, arith, subst, sym}
use Rattle.std.specs.Prelude.{true}
use Rattle.pn_types.specs.declared.limits.TheConstants.{MAX_QUANTA}
use Rattle.pn_types.specs.declared.quantum.Quantum.{Quantum}
use Rattle.turn_order.specs.Orders.{order_after, picked, ready_of}
use Rattle.turn_order.proofs.Picks.{picked_may}
use Rattle.machine.specs.Turns.{is_runnable}
use Rattle.session_spec.specs.States.{State}
use Rattle.whole_run.proofs.Ordered.{going, may_go, next_of, or_hart, stand_full, stand_last, stand_next, takes_others}
use Rattle.whole_run.proofs.order.Rounds.next.Goals as goal

pub returns-then-quanta-clause-whole : goal.returns-then-quanta-clause-whole
returns-then-quanta-clause-whole c =
    let full = c.if-quanta.true in
    let all = ap (λ (l : List Quantum). length l) c.quanta.ensures in
    stand_full c.args.self.now c.args.session.now c.requires c.laws.ensures.allowed (omega arith)

pub returns-in_default-clause-whole : goal.returns-in_default-clause-whole
returns-in_default-clause-whole c =
    let few = c.if-quanta.false in
    let all = ap (λ (l : List Quantum). length l) c.quanta.ensures in
    stand_last c.args.self.now c.args.session.now c.requires c.laws-in_default.ensures.allowed
    (next_of c.args.self.now c.args.session.now c.pick.result None c.requires (omega arith) c.pick.ensures c.in_default.is)

pub next_quantum-requires-clause-hart : goal.next_quantum-requires-clause-hart
next_quantum-requires-clause-hart c =
    let r = c.args.self.now in
    let s = c.args.session.now in
    let few = c.if-quanta.false in
    let all = ap (λ (l : List Quantum). length l) c.quanta.ensures in
    let next = next_of r s c.pick.result (Some c.in-Some.hart) c.requires (omega arith) c.pick.ensures c.in-Some.is in
    subst (λ n. n < s.inputs.settings.harts) (sym c.get.ensures.number) (picked_may r.order (may_go s.inputs s.quanta) s.inputs.settings.harts c.in-Some.hart next).1

pub next_quantum-requires-clause-open : goal.next_quantum-requires-clause-open
next_quantum-requires-clause-open c =
    let r = c.args.self.now in
    let s = c.args.session.now in
    let few = c.if-quanta.false in
    let all = ap (λ (l : List Quantum). length l) c.quanta.ensures in
    let next = next_of r s c.pick.result (Some c.in-Some.hart) c.requires (omega arith) c.pick.ensures c.in-Some.is in
    ap (λ (x : State). is_runnable x.kept.machine.core c.get.result) (going s c.requires.going)
    ∙ (ap (may_go s.inputs s.quanta) c.get.ensures.number ∙ (picked_may r.order (may_go s.inputs s.quanta) s.inputs.settings.harts c.in-Some.hart next).0)

pub refresh-requires-clause-hart : goal.refresh-requires-clause-hart
refresh-requires-clause-hart c =
    let r = c.args.self.now in
    let s = c.args.session.now in
    let few = c.if-quanta.false in
    let all = ap (λ (l : List Quantum). length l) c.quanta.ensures in
    let next = next_of r s c.pick.result (Some c.in-Some.hart) c.requires (omega arith) c.pick.ensures c.in-Some.is in
    subst (λ n. c.in-Some.hart < n) (sym c.requires.harts) (picked_may r.order (may_go s.inputs s.quanta) s.inputs.settings.harts c.in-Some.hart next).1

pub refresh-requires-clause-others : goal.refresh-requires-clause-others
refresh-requires-clause-others c idle =
    let r = c.args.self.now in
    let s = c.args.session.now in
    let new = c.next_quantum.new.self in
    let e = c.in_ok-taken.ensures in
    let test = c.if-quanta.false in
    let all = ap (λ (l : List Quantum). length l) c.quanta.ensures in
    let few : length s.quanta < MAX_QUANTA = omega arith in
    let next = next_of r s c.pick.result (Some c.in-Some.hart) c.requires few c.pick.ensures c.in-Some.is in
    let runs : may_go s.inputs s.quanta c.get.result ≡ true = ap (may_go s.inputs s.quanta) c.get.ensures.number ∙ (picked_may r.order (may_go s.inputs s.quanta) s.inputs.settings.harts c.in-Some.hart next).0 in
    subst (λ h. r.ready ≡ ready_of (or_hart (may_go new.inputs new.quanta) h) r.harts) c.get.ensures.number
    (takes_others s new c.get.result r.harts r.turns r.ready c.in_ok-taken.taken e.inputs runs e.taken e.asked (c.requires.ready few) idle)

pub returns-clause-at : goal.returns-clause-at
returns-clause-at c =
    let r = c.args.self.now in
    let s = c.args.session.now in
    let new = c.next_quantum.new.self in
    let e = c.in_ok-taken.ensures in
    let test = c.if-quanta.false in
    let all = ap (λ (l : List Quantum). length l) c.quanta.ensures in
    let few : length s.quanta < MAX_QUANTA = omega arith in
    let next = next_of r s c.pick.result (Some c.in-Some.hart) c.requires few c.pick.ensures c.in-Some.is in
    let here : picked r.order (may_go s.inputs s.quanta) s.inputs.settings.harts ≡ Some c.get.result = next ∙ ap Some (sym c.get.ensures.number) in
    let more = stand_next r s new c.after-self.result c.refresh.new.ready c.get.result c.in_ok-taken.taken c.requires here e.closed e.inputs e.taken e.asked
    (ap (order_after r.order) c.get.ensures.number ∙ sym c.after-self.ensures) c.in_ok-refresh.ensures in
    more
