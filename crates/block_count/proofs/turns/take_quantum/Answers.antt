use Rattle.std.proofs.Common.{◌∙◌, ap, sym}
use Rattle.machine.specs.States.{Machine}
use Rattle.machine.specs.Turns.{is_runnable}
use Rattle.block_count.proofs.ReadyHarts.{leaves_ready, others_stay, stays_ready}
use Rattle.block_count.proofs.turns.take_quantum.Goals as goal

pub returns-then-not-runnable-clause-ready : goal.returns-then-not-runnable-clause-ready
returns-then-not-runnable-clause-ready c =
    let old = c.args.machine.now.core in
    let now = ap (λ (m : Machine). m.core) c.take_turns.ensures.taken in
    leaves_ready (is_runnable old) (is_runnable c.take_turns.new.self.core) c.args.hart c.args.harts c.args.ready.now c.remove.new.self c.requires.ready (sym c.runnable.ensures ∙ c.if-not-runnable.true)
    (λ j other. ap (λ d. is_runnable d j) now ∙ others_stay c.args.turns c.args.hart old j other) c.remove.ensures

pub returns-else-not-runnable-clause-ready : goal.returns-else-not-runnable-clause-ready
returns-else-not-runnable-clause-ready c =
    let old = c.args.machine.now.core in
    let now = ap (λ (m : Machine). m.core) c.take_turns.ensures.taken in
    stays_ready (is_runnable old) (is_runnable c.take_turns.new.self.core) c.args.hart c.args.harts c.args.ready.now c.requires.ready c.requires.runs (sym c.runnable.ensures ∙ c.if-not-runnable.false)
    (λ j other. ap (λ d. is_runnable d j) now ∙ others_stay c.args.turns c.args.hart old j other)
