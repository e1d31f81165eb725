use Rattle.std.proofs.Common.{ap, sym, ◌∙◌}
use Rattle.machine.specs.Replays.{replay}
use Rattle.machine.specs.States.{Machine, settling}
use Rattle.machine.proofs.Replaying.{replay-append}
use Rattle.block_count.specs.Course.{Pace, all_quanta}
use Rattle.block_count.proofs.turns.take_turns.Goals as goal

pub returns-clause-taken : goal.returns-clause-taken
returns-clause-taken c =
    let p : Pace = record { harts = c.args.harts; turns = c.args.turns; seed = c.args.seed } in
    let first = c.args.machine.now.core in
    let turns = all_quanta p first in
    ap (λ (m : Machine). m.core) c.settle.ensures.settled ∙ ap (λ d. replay (settling d) d) c.in_ok-take_quanta.ensures.taken
    ∙ sym (replay-append turns (settling (replay turns first)) first)
