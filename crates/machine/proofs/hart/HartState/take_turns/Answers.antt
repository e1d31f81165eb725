use Rattle.std.proofs.Common.{◌+◌, ◌∙◌, ap, arith}
use Rattle.rv_exec.specs.Shared.{prog_in}
use Rattle.tramp_spec.specs.Harts.{Hart}
use Rattle.machine.specs.Alone.{alone_of}
use Rattle.machine.specs.Performing.{solo_of}
use Rattle.machine.proofs.Alone.{leads_on, leads_ticks}
use Rattle.machine.proofs.hart.HartState.take_turns.Goals as goal

pub take_some-turns-requires-clause-placed : goal.take_some-turns-requires-clause-placed
take_some-turns-requires-clause-placed c = λ k z l.
    let x = c.loop-turns in
    c.requires.placed (x.turns + k) z
    (leads_on c.args.store.now c.args.budget c.args.number x.turns k (solo_of c.args.self.now (prog_in c.args.shared.now)) (alone_of x.progress x.self (prog_in x.shared)) z x.invariant.leads l)

pub loop-turns-preserved : goal.loop-turns-preserved
loop-turns-preserved c =
    let x = c.loop-turns in
    let t = c.take_some-turns.new in
    let first = solo_of c.args.self.now (prog_in c.args.shared.now) in
    let here = alone_of x.progress x.self (prog_in x.shared) in
    let next = alone_of t.progress t.hart (prog_in t.shared) in
    let few = c.take_some-turns.ensures.bound in
    let high = few.1 in
    let bound = x.invariant.bound in
    record {
      leads = leads_on c.args.store.now c.args.budget c.args.number x.turns c.take_some-turns.result first here next x.invariant.leads c.take_some-turns.ensures.leads;
      bound = omega arith;
      harts = c.take_some-turns.ensures.harts ∙ x.invariant.harts;
    }

pub returns-clause-ticks : goal.returns-clause-ticks
returns-clause-ticks c =
    let x = c.loop-turns in
    let k = leads_ticks c.args.store.now c.args.budget c.args.number x.turns (solo_of c.args.self.now (prog_in c.args.shared.now)) (alone_of x.progress x.self (prog_in x.shared)) x.invariant.leads in
    let t = ap (λ (y : Hart). y.ticks) c.set_progress.ensures in
    let low = k.0 in
    let high = k.1 in
    (omega arith, omega arith)
