use Rattle.std.proofs.Common.{◌+◌, drop, map, ap, sym, ◌∙◌, subst, arith}
use Rattle.std.specs.List.{flat_map}
use Rattle.machine.specs.Replays.{Legal, replay}
use Rattle.machine.specs.States.{Machine}
use Rattle.machine.proofs.Replaying.{legal-parts, replay-append}
use Rattle.block_count.specs.Course.{placing}
use Rattle.block_count.proofs.Taken.{rest_is}
use Rattle.block_count.proofs.placing.place_all.Goals as goal

pub place-requires-clause-may : goal.place-requires-clause-may
place-requires-clause-may c =
    let left = rest_is (λ k. k.now) c.args.counters.now c.loop-counter.counter-index c.counter-item.result c.loop-counter-test.true c.counter-item.is in
    let rest = flat_map placing (map (λ k. k.now) (drop (c.loop-counter.counter-index + 1) c.args.counters.now)) in
    let core = c.loop-counter.machine.core in
    (legal-parts (placing c.counter-item.result.now) rest core (subst (λ ks. Legal (flat_map placing ks) core) left c.loop-counter.invariant.may)).0

pub loop-counter-preserved : goal.loop-counter-preserved
loop-counter-preserved c =
    let i = c.loop-counter.counter-index in
    let left = rest_is (λ k. k.now) c.args.counters.now i c.counter-item.result c.loop-counter-test.true c.counter-item.is in
    let first = placing c.counter-item.result.now in
    let rest = flat_map placing (map (λ k. k.now) (drop (i + 1) c.args.counters.now)) in
    let core = c.loop-counter.machine.core in
    let k = c.loop-counter.invariant in
    let now = ap (λ (m : Machine). m.core) c.in_ok-place.ensures in
    let room = ap (λ (m : Machine). m.room) c.in_ok-place.ensures in
    record {
      may = subst (λ d. Legal rest d) (sym now) (legal-parts first rest core (subst (λ ks. Legal (flat_map placing ks) core) left k.may)).1;
      room = omega (arith, room, k.room, c.loop-counter-test.true);
      all = ap (replay rest) now ∙ sym (replay-append first rest core) ∙ ap (λ ks. replay (flat_map placing ks) core) (sym left) ∙ k.all;
    }
