use Rattle.std.proofs.Common.{◌≡◌, ◌∙◌, Bool, ap, arith}
use Rattle.std.specs.Prelude.{if◌then◌else◌, ◌↔◌, IsTrue}
use Rattle.machine.specs.Cores.{Core}
use Rattle.machine.specs.Effects.{after_event}
use Rattle.machine.specs.Events.{Free, May}
use Rattle.machine.specs.Replays.{replay}
use Rattle.machine.specs.States.{Machine, with_core, settling}
use Rattle.test_examples.specs.ThreeCounters.{mini_on, fourth, passed_by, gone_on}
use Rattle.test_examples.proofs.ThreeCounters.{minis_unlinked}
use Rattle.test_machine.specs.Linkings.{adding_of}
use Rattle.test_machine.proofs.Linked.{add_legal, added_so, arm_legal, armed_so}
use Rattle.test_machine.proofs.Unlinked.{goes_to, held_so, freed_so}
use Rattle.test_machine.proofs.patched.unlinking.renew.Goals as goal

abbrev settle : Core → Core
settle d = replay (settling d) d

abbrev freed : Core
freed = after_event gone_on (Free 0x10000)

-- after the first try, the settling and the second try
tried : (m1 m2 m3 m4 : Machine) (a b : Bool) → m1 ≡ record { core = passed_by; room = 1 }
    → IsTrue a ↔ May m1.core (Free 0x10000) → m2 ≡ (if a then with_core m1 (after_event m1.core (Free 0x10000)) else m1)
    → m3 ≡ with_core m2 (settle m2.core)
    → IsTrue b ↔ May m3.core (Free 0x10000) → m4 ≡ (if b then with_core m3 (after_event m3.core (Free 0x10000)) else m3)
    → m4 ≡ record { core = freed; room = 1 }
tried m1 m2 m3 m4 a b e may h s again g =
    let two = held_so m1 m2 passed_by 1 0x10000 a e may h minis_unlinked.held in
    let settled = goes_to settle m2 m3 passed_by 1 two s in
    let three : m3 ≡ record { core = gone_on; room = 1 } = settled ∙ ap (λ es. record { core = replay es passed_by; room = 1 }) minis_unlinked.settles in
    freed_so m3 m4 gone_on 1 0x10000 b three again g minis_unlinked.renews.0

pub add_mini-requires-clause-may : goal.add_mini-requires-clause-may
add_mini-requires-clause-may c =
    let m = tried c.args.machine.now c.free-held.new.self c.settle-settled.new.self c.free-freed.new.self c.free-held.result c.free-freed.result c.requires.machine c.free-held.ensures.may c.free-held.ensures.state c.settle-settled.ensures.settled c.free-freed.ensures.may c.free-freed.ensures.state in
    let r = minis_unlinked.renews in
    add_legal c.args.mini.now (mini_on 2 0x11010 0x11038) c.free-freed.new.self freed 1 c.requires.mini m (r.1.0, (r.1.1.0, tt))

pub add_mini-requires-clause-room : goal.add_mini-requires-clause-room
add_mini-requires-clause-room c =
    let m = tried c.args.machine.now c.free-held.new.self c.settle-settled.new.self c.free-freed.new.self c.free-held.result c.free-freed.result c.requires.machine c.free-held.ensures.may c.free-held.ensures.state c.settle-settled.ensures.settled c.free-freed.ensures.may c.free-freed.ensures.state in
    let room = ap (λ (k : Machine). k.room) m in
    omega arith

pub arm-requires-clause-may : goal.arm-requires-clause-may
arm-requires-clause-may c =
    let m = tried c.args.machine.now c.free-held.new.self c.settle-settled.new.self c.free-freed.new.self c.free-held.result c.free-freed.result c.requires.machine c.free-held.ensures.may c.free-held.ensures.state c.settle-settled.ensures.settled c.free-freed.ensures.may c.free-freed.ensures.state in
    let n = added_so c.args.mini.now (mini_on 2 0x11010 0x11038) c.free-freed.new.self c.add_mini.new.machine freed 1 c.requires.mini m c.add_mini.ensures in
    arm_legal c.args.counter.now fourth c.add_mini.new.machine (replay (adding_of (mini_on 2 0x11010 0x11038)) freed) 0 c.requires.counter n minis_unlinked.renews.1.1.1.0

pub returns : goal.returns
returns c =
    let m = tried c.args.machine.now c.free-held.new.self c.settle-settled.new.self c.free-freed.new.self c.free-held.result c.free-freed.result c.requires.machine c.free-held.ensures.may c.free-held.ensures.state c.settle-settled.ensures.settled c.free-freed.ensures.may c.free-freed.ensures.state in
    let n = added_so c.args.mini.now (mini_on 2 0x11010 0x11038) c.free-freed.new.self c.add_mini.new.machine freed 1 c.requires.mini m c.add_mini.ensures in
    armed_so c.args.counter.now fourth c.add_mini.new.machine c.arm.new.machine (replay (adding_of (mini_on 2 0x11010 0x11038)) freed) 0 c.requires.counter n c.arm.ensures
