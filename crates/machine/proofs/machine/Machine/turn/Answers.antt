use Rattle.std.proofs.Common.{◌∙◌, ap}
use Rattle.machine.specs.Replays.{replay}
use Rattle.machine.specs.States.{with_core}
use Rattle.machine.proofs.Alone.{one_turn, one_ticks}
use Rattle.machine.proofs.machine.Machine.turn.Goals as goal

pub returns-clause-turned : goal.returns-clause-turned
returns-clause-turned c =
    let m = c.args.self.now in
    c.take_turns.ensures.taken ∙ ap (λ es. with_core m (replay es m.core)) (one_turn c.args.hart m.core c.requires.runnable)

pub returns-clause-tick : goal.returns-clause-tick
returns-clause-tick c = one_ticks c.args.hart c.take_turns.result.ticks c.args.self.now.core c.requires.runnable c.take_turns.ensures.ticks
