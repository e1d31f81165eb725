use Rattle.machine.specs.Cores.{Core}
use Rattle.machine.specs.Replays.{replay}
use Rattle.test_examples.specs.ThreeCounters.{mini_on}
use Rattle.test_machine.specs.Linkings.{adding_of}
use Rattle.test_machine.proofs.Linked.{add_legal, added_so, linked, adds}
use Rattle.test_machine.proofs.patched.loops.three_linked.Goals as goal

abbrev two_linked : Core
two_linked = replay (adding_of (mini_on 3 0x11024 0x11010)) linked

pub add_mini-requires-clause-may : goal.add_mini-requires-clause-may
add_mini-requires-clause-may c =
    add_legal c.in_ok-second.second (mini_on 3 0x11024 0x11010) c.in_ok-machine.machine linked 3 c.in_ok-second.ensures c.in_ok-machine.ensures (adds.0, (adds.1.0, tt))

pub add_mini-requires-2-clause-may : goal.add_mini-requires-2-clause-may
add_mini-requires-2-clause-may c =
    let m = added_so c.in_ok-second.second (mini_on 3 0x11024 0x11010) c.in_ok-machine.machine c.add_mini.new.machine linked 3 c.in_ok-second.ensures c.in_ok-machine.ensures c.add_mini.ensures in
    add_legal c.in_ok-third.third (mini_on 4 0x11038 0x11024) c.add_mini.new.machine two_linked 2 c.in_ok-third.ensures m adds.1.1

pub returns : goal.returns
returns c =
    let m = added_so c.in_ok-second.second (mini_on 3 0x11024 0x11010) c.in_ok-machine.machine c.add_mini.new.machine linked 3 c.in_ok-second.ensures c.in_ok-machine.ensures c.add_mini.ensures in
    added_so c.in_ok-third.third (mini_on 4 0x11038 0x11024) c.add_mini.new.machine c.add_mini-2.new.machine two_linked 2 c.in_ok-third.ensures m c.add_mini-2.ensures
