use Rattle.std.proofs.Common.{◌∙◌, ap}
use Rattle.machine.specs.States.{quantum_turns}
use Rattle.instrumented.specs.Data.{InstrumentedData}
use Rattle.instrumented.specs.Instrumented.{Instrumented, after_turns}
use Rattle.instrumented.proofs.Kept.{turns_kept}
use Rattle.instrumented.proofs.Turns.{quantum_all, quantum_legal}
use Rattle.instrumented.specs.Data.{state_of}
use Rattle.instrumented.proofs.instrumented_machine.InstrumentedMachine.take_turns.Goals as goal

pub invariant_of-self : goal.invariant_of-self
invariant_of-self c =
    let s = c.self.inside in
    let turns = quantum_turns c.args.most c.args.hart (s.machine).core in
    (turns_kept turns s.machine c.take_turns.new.self s.placer c.self.invariant (quantum_all c.args.most c.args.hart (s.machine).core) (quantum_legal c.args.most c.args.hart (state_of s.machine s.placer)) c.take_turns.ensures.taken).1

pub returns-clause-taken : goal.returns-clause-taken
returns-clause-taken c =
    let s = c.self.inside in
    let turns = quantum_turns c.args.most c.args.hart (s.machine).core in
    let kept = turns_kept turns s.machine c.take_turns.new.self s.placer c.self.invariant (quantum_all c.args.most c.args.hart (s.machine).core) (quantum_legal c.args.most c.args.hart (state_of s.machine s.placer)) c.take_turns.ensures.taken in
    ap (λ (x : Instrumented). record { state = x; ready = (s.placer).ready }) kept.0
    ∙ ap (λ (d : InstrumentedData). record d { state = after_turns (quantum_turns c.args.most c.args.hart d.state.core) d.state }) c.self.view_is
