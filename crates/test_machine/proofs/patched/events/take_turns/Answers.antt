use Rattle.std.proofs.Common.{◌≡◌, suc, ◌+◌, ◌-◌, ◌<◌, length, refl, sym, ap, ◌∙◌, subst, arith}
use Rattle.std.specs.Prelude.{IsTrue}
use Rattle.test_examples.specs.FirstTurns.{turns}
use Rattle.machine.specs.Replays.{Legal, replay}
use Rattle.machine.specs.States.{Machine}
use Rattle.machine.specs.Turns.{is_runnable, turn}
use Rattle.test_machine.proofs.Turning.{within_first, goes, leads, ended}
use Rattle.test_machine.proofs.patched.events.take_turns.Goals as goal

pub loop-init : goal.loop-init
loop-init c =
    let d = c.args.machine.now.core in
    let all : c.args.count ≡ c.args.count - 0 = omega arith in
    record {
      legal = subst (λ n. Legal (turns n) d) all c.requires;
      rest = ap (λ n. replay (turns n) d) (sym all);
      room = refl;
    }

pub turn-requires-clause-hart : goal.turn-requires-clause-hart
turn-requires-clause-hart c =
    let d = c.loop.machine.core in
    let test = c.loop-test.true in
    let one : c.args.count - c.loop.counter ≡ suc (c.args.count - (c.loop.counter + 1)) = omega arith in
    subst (λ h. h < length d.harts) (sym c.first.ensures) (within_first d (goes _ _ d one c.loop.invariant.legal).0)

pub turn-requires-clause-runnable : goal.turn-requires-clause-runnable
turn-requires-clause-runnable c =
    let d = c.loop.machine.core in
    let test = c.loop-test.true in
    let one : c.args.count - c.loop.counter ≡ suc (c.args.count - (c.loop.counter + 1)) = omega arith in
    subst (λ h. IsTrue (is_runnable d h)) (sym c.first.ensures) (goes _ _ d one c.loop.invariant.legal).0

pub loop-preserved : goal.loop-preserved
loop-preserved c =
    let d = c.loop.machine.core in
    let test = c.loop-test.true in
    let k = c.args.count - (c.loop.counter + 1) in
    let one : c.args.count - c.loop.counter ≡ suc k = omega arith in
    let new : c.turn.new.self ≡ record { core = turn d 0; room = c.loop.machine.room } = c.turn.ensures.turned ∙ ap (λ h. record { core = turn d h; room = c.loop.machine.room }) c.first.ensures in
    record {
      legal = subst (λ (m : Machine). Legal (turns k) m.core) (sym new) (goes _ _ d one c.loop.invariant.legal).1;
      rest = subst (λ (m : Machine). replay (turns k) m.core ≡ replay (turns c.args.count) c.args.machine.now.core) (sym new) (sym (leads _ _ d one) ∙ c.loop.invariant.rest);
      room = ap (λ (m : Machine). m.room) new ∙ c.loop.invariant.room;
    }

pub returns : goal.returns
returns c =
    let d = c.loop.machine.core in
    let test = c.loop-test.false in
    let none : c.args.count - c.loop.counter ≡ 0 = omega arith in
    let core : d ≡ replay (turns c.args.count) c.args.machine.now.core = sym (ended _ d none) ∙ c.loop.invariant.rest in
    λ i. record { core = core i; room = c.loop.invariant.room i }
