use Rattle.std.proofs.Common.{sym, subst}
use Rattle.machine.specs.Cores.{Live}
use Rattle.machine.specs.Effects.{after_event}
use Rattle.machine.specs.Events.{HasMini, UnlinkMini}
use Rattle.test_examples.specs.FirstTurns.{turns}
use Rattle.machine.specs.Replays.{Legal, replay}
use Rattle.machine.specs.States.{Machine}
use Rattle.test_examples.specs.ThreeCounters.{counted, at_second}
use Rattle.test_examples.proofs.ThreeCounters.{minis_unlinked}
use Rattle.test_machine.proofs.Unlinked.{goes_to}
use Rattle.test_machine.proofs.patched.unlinking.passed_by.Goals as goal

pub take_turns-requires : goal.take_turns-requires
take_turns-requires c = subst (λ (m : Machine). Legal (turns 8) m.core) (sym c.in_ok-machine.ensures) minis_unlinked.comes

pub unlink_mini-requires : goal.unlink_mini-requires
unlink_mini-requires c =
    let m = goes_to (replay (turns 8)) c.in_ok-machine.machine c.take_turns.new.machine counted 1 c.in_ok-machine.ensures c.take_turns.ensures in
    subst (λ (k : Machine). HasMini k.core 0x10000 0x11024 Live) (sym m) minis_unlinked.unlinks.0

pub unlink_mini-requires-2 : goal.unlink_mini-requires-2
unlink_mini-requires-2 c =
    let m = goes_to (replay (turns 8)) c.in_ok-machine.machine c.take_turns.new.machine counted 1 c.in_ok-machine.ensures c.take_turns.ensures in
    let n = goes_to (λ d. after_event d (UnlinkMini 0x10000 0x11024)) c.take_turns.new.machine c.unlink_mini.new.self at_second 1 m c.unlink_mini.ensures in
    subst (λ (k : Machine). HasMini k.core 0x10000 0x11010 Live) (sym n) minis_unlinked.unlinks.1.0

pub returns : goal.returns
returns c =
    let m = goes_to (replay (turns 8)) c.in_ok-machine.machine c.take_turns.new.machine counted 1 c.in_ok-machine.ensures c.take_turns.ensures in
    let n = goes_to (λ d. after_event d (UnlinkMini 0x10000 0x11024)) c.take_turns.new.machine c.unlink_mini.new.self at_second 1 m c.unlink_mini.ensures in
    goes_to (λ d. after_event d (UnlinkMini 0x10000 0x11010)) c.unlink_mini.new.self c.unlink_mini-2.new.self (after_event at_second (UnlinkMini 0x10000 0x11024)) 1 n c.unlink_mini-2.ensures
