use Rattle.std.proofs.Common.{◌≡◌, ◌+◌, ◌-◌, ◌∙◌, None, Some, suc, zero, refl, ap, arith, sym}
use Rattle.pn_types.specs.declared.limits.TheConstants.{MAX_QUANTA}
use Rattle.machine.specs.Replays.{replay}
use Rattle.machine.specs.States.{quantum_turns}
use Rattle.machine.specs.Turns.{is_runnable}
use Rattle.turn_order.proofs.Picks.{picked_may}
use Rattle.block_count.specs.Course.{Pace}
use Rattle.block_count.proofs.Quanta.{behind, behind_all, behind_none, behind_one, behind_zero, next_is}
use Rattle.block_count.proofs.turns.take_quanta.Goals as goal

pub quanta-init : goal.quanta-init
quanta-init c =
    let p : Pace = record { harts = c.args.harts; turns = c.args.turns; seed = c.args.seed } in
    record {
      harts = refl;
      ready = c.in_ok-ready.ensures;
      all = ap (λ o. behind MAX_QUANTA p o c.args.machine.now.core) c.of_seed-order.ensures ∙ behind_all p c.args.machine.now.core;
    }

pub returns-in_default-clause-taken : goal.returns-in_default-clause-taken
returns-in_default-clause-taken c =
    let p : Pace = record { harts = c.args.harts; turns = c.args.turns; seed = c.args.seed } in
    let k = c.quanta.invariant in
    let none = next_is c.quanta.order c.quanta.ready (is_runnable c.quanta.machine.core) c.args.harts c.pick.result None k.ready c.pick.ensures c.in_default.is in
    sym (behind_none (MAX_QUANTA - c.quanta.counter) p c.quanta.order c.quanta.machine.core none) ∙ k.all

pub take_quantum-requires-clause-hart : goal.take_quantum-requires-clause-hart
take_quantum-requires-clause-hart c =
    let k = c.quanta.invariant in
    let may = is_runnable c.quanta.machine.core in
    let next = next_is c.quanta.order c.quanta.ready may c.args.harts c.pick.result (Some c.in-Some.hart) k.ready c.pick.ensures c.in-Some.is in
    let few = (picked_may c.quanta.order may c.args.harts c.in-Some.hart next).1 in
    omega (arith, few, k.harts, c.requires.harts)

pub take_quantum-requires-clause-runs : goal.take_quantum-requires-clause-runs
take_quantum-requires-clause-runs c =
    let k = c.quanta.invariant in
    let may = is_runnable c.quanta.machine.core in
    (picked_may c.quanta.order may c.args.harts c.in-Some.hart (next_is c.quanta.order c.quanta.ready may c.args.harts c.pick.result (Some c.in-Some.hart) k.ready c.pick.ensures c.in-Some.is)).0

pub quanta-preserved : goal.quanta-preserved
quanta-preserved c =
    let p : Pace = record { harts = c.args.harts; turns = c.args.turns; seed = c.args.seed } in
    let k = c.quanta.invariant in
    let n = c.quanta.counter in
    let core = c.quanta.machine.core in
    let may = is_runnable core in
    let next = next_is c.quanta.order c.quanta.ready may c.args.harts c.pick.result (Some c.in-Some.hart) k.ready c.pick.ensures c.in-Some.is in
    let e : MAX_QUANTA - n ≡ suc (MAX_QUANTA - (n + 1)) = omega (arith, c.quanta-test.true) in
    record {
      harts = c.take_quantum.ensures.harts ∙ k.harts;
      ready = c.take_quantum.ensures.ready;
      all = ap (λ d. behind (MAX_QUANTA - (n + 1)) p c.after-order.result d) c.take_quantum.ensures.taken
          ∙ ap (λ o. behind (MAX_QUANTA - (n + 1)) p o (replay (quantum_turns c.args.turns c.in-Some.hart core) core)) c.after-order.ensures
          ∙ sym (behind_one (MAX_QUANTA - (n + 1)) p c.quanta.order core c.in-Some.hart next)
          ∙ ap (λ m. behind m p c.quanta.order core) (sym e) ∙ k.all;
    }

pub returns-clause-taken : goal.returns-clause-taken
returns-clause-taken c =
    let p : Pace = record { harts = c.args.harts; turns = c.args.turns; seed = c.args.seed } in
    let e : MAX_QUANTA - c.quanta.counter ≡ zero = omega (arith, c.quanta-test.false) in
    sym (ap (λ m. behind m p c.quanta.order c.quanta.machine.core) e ∙ behind_zero p c.quanta.order c.quanta.machine.core) ∙ c.quanta.invariant.all
