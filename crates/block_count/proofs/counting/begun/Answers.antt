use Rattle.std.proofs.Common.{ap, sym, ◌∙◌, subst, map}
use Rattle.std.specs.List.{flat_map}
use Rattle.machine.specs.Cores.{start_core}
use Rattle.machine.specs.Replays.{Legal, replay}
use Rattle.machine.specs.States.{Machine}
use Rattle.machine.proofs.Replaying.{legal-parts, replay-append}
use Rattle.block_count.specs.Course.{arming, placing}
use Rattle.block_count.proofs.counting.begun.Goals as goal

pub place_all-requires-clause-may : goal.place_all-requires-clause-may
place_all-requires-clause-may c =
    let ks = map (λ k. k.now) c.args.counters.now in
    let first = start_core c.args.image.now c.args.harts c.args.budget in
    let now = ap (λ (m : Machine). m.core) c.in_ok-reserve.ensures.ok ∙ ap (λ (m : Machine). m.core) c.in_ok-machine.ensures in
    subst (λ d. Legal (flat_map placing ks) d) (sym now) (legal-parts (flat_map placing ks) (map arming ks) first c.requires.may).0

pub arm_all-requires : goal.arm_all-requires
arm_all-requires c =
    let ks = map (λ k. k.now) c.args.counters.now in
    let first = start_core c.args.image.now c.args.harts c.args.budget in
    let now = c.in_ok-place_all.ensures ∙ ap (replay (flat_map placing ks)) (ap (λ (m : Machine). m.core) c.in_ok-reserve.ensures.ok ∙ ap (λ (m : Machine). m.core) c.in_ok-machine.ensures) in
    record { may = subst (λ d. Legal (map arming ks) d) (sym now) (legal-parts (flat_map placing ks) (map arming ks) first c.requires.may).1 }

pub returns : goal.returns
returns c =
    let ks = map (λ k. k.now) c.args.counters.now in
    let first = start_core c.args.image.now c.args.harts c.args.budget in
    let now = c.in_ok-place_all.ensures ∙ ap (replay (flat_map placing ks)) (ap (λ (m : Machine). m.core) c.in_ok-reserve.ensures.ok ∙ ap (λ (m : Machine). m.core) c.in_ok-machine.ensures) in
    record { begun = c.in_ok-arm_all.ensures ∙ ap (replay (map arming ks)) now ∙ sym (replay-append (flat_map placing ks) (map arming ks) first) }
