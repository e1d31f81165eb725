use Rattle.std.proofs.Common.{◌∙◌, ap}
use Rattle.machine.specs.States.{settling}
use Rattle.instrumented.specs.Data.{InstrumentedData, state_of}
use Rattle.instrumented.specs.Instrumented.{Instrumented, after_turns}
use Rattle.instrumented.proofs.Kept.{turns_kept}
use Rattle.instrumented.proofs.Turns.{settling_all, settling_legal}
use Rattle.instrumented.proofs.instrumented_machine.InstrumentedMachine.take_settling.Goals as goal

pub invariant_of-self : goal.invariant_of-self
invariant_of-self c =
    let s = c.self.inside in
    (turns_kept (settling (s.machine).core) s.machine c.take_settling.new.self s.placer c.self.invariant (settling_all (s.machine).core) (settling_legal (state_of s.machine s.placer) c.self.invariant.reached) c.take_settling.ensures.settled).1

pub returns-clause-settled : goal.returns-clause-settled
returns-clause-settled c =
    let s = c.self.inside in
    let kept = turns_kept (settling (s.machine).core) s.machine c.take_settling.new.self s.placer c.self.invariant (settling_all (s.machine).core) (settling_legal (state_of s.machine s.placer) c.self.invariant.reached) c.take_settling.ensures.settled in
    ap (λ (x : Instrumented). record { state = x; ready = (s.placer).ready }) kept.0
    ∙ ap (λ (d : InstrumentedData). record d { state = after_turns (settling d.state.core) d.state }) c.self.view_is
