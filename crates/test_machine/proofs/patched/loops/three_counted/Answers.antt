use Rattle.machine.specs.Cores.{Core}
use Rattle.machine.specs.Effects.{after_event}
use Rattle.machine.specs.Events.{Arm}
use Rattle.machine.specs.Replays.{replay}
use Rattle.test_examples.specs.ThreeCounters.{adding, first, second, third}
use Rattle.test_machine.proofs.Linked.{arm_legal, armed_so, linked, arms_all}
use Rattle.test_machine.proofs.patched.loops.three_counted.Goals as goal

abbrev all : Core
all = replay adding linked

pub arm-requires-clause-may : goal.arm-requires-clause-may
arm-requires-clause-may c = arm_legal c.in_ok-first.first first c.in_ok-machine.machine all 1 c.in_ok-first.ensures c.in_ok-machine.ensures arms_all.0

pub arm-requires-2-clause-may : goal.arm-requires-2-clause-may
arm-requires-2-clause-may c =
    let m = armed_so c.in_ok-first.first first c.in_ok-machine.machine c.arm.new.machine all 1 c.in_ok-first.ensures c.in_ok-machine.ensures c.arm.ensures in
    arm_legal c.in_ok-second.second second c.arm.new.machine (after_event all (Arm first)) 1 c.in_ok-second.ensures m arms_all.1.0

pub arm-requires-3-clause-may : goal.arm-requires-3-clause-may
arm-requires-3-clause-may c =
    let m = armed_so c.in_ok-first.first first c.in_ok-machine.machine c.arm.new.machine all 1 c.in_ok-first.ensures c.in_ok-machine.ensures c.arm.ensures in
    let n = armed_so c.in_ok-second.second second c.arm.new.machine c.arm-2.new.machine (after_event all (Arm first)) 1 c.in_ok-second.ensures m c.arm-2.ensures in
    arm_legal c.in_ok-third.third third c.arm-2.new.machine (after_event (after_event all (Arm first)) (Arm second)) 1 c.in_ok-third.ensures n arms_all.1.1.0

pub returns : goal.returns
returns c =
    let m = armed_so c.in_ok-first.first first c.in_ok-machine.machine c.arm.new.machine all 1 c.in_ok-first.ensures c.in_ok-machine.ensures c.arm.ensures in
    let n = armed_so c.in_ok-second.second second c.arm.new.machine c.arm-2.new.machine (after_event all (Arm first)) 1 c.in_ok-second.ensures m c.arm-2.ensures in
    armed_so c.in_ok-third.third third c.arm-2.new.machine c.arm-3.new.machine (after_event (after_event all (Arm first)) (Arm second)) 1 c.in_ok-third.ensures n c.arm-3.ensures
