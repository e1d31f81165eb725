use Rattle.std.proofs.Common.{refl, subst}
use Rattle.rv_exec.specs.Shared.{prog_in}
use Rattle.tramp_spec.specs.Harts.{Hart}
use Rattle.code_store.specs.Operations.{IsOperationOf}
use Rattle.machine.specs.Alone.{alone_of}
use Rattle.machine.specs.Performing.{Performs}
use Rattle.machine.specs.contracts.hart.HartState.{the_view}
use Rattle.machine.proofs.Performed.{runs}
use Rattle.machine.proofs.performing.perform.Goals as goal

pub returns-in-Run-clause-performed : goal.returns-in-Run-clause-performed
returns-in-Run-clause-performed c =
    let a = c.args.progress.now in
    let i = c.hart.inside in
    let t = c.run.new in
    let p = prog_in c.args.shared.now in
    let y : Hart = the_view (record i { stop = t.stop; regs = t.regs }) in
    let z = alone_of (record a { pc = t.pc }) y (prog_in t.shared) in
    subst (λ (h : Hart). Performs c.args.slot.now c.args.number (alone_of a h p) z) c.hart.view_is
    (runs c.args.slot.now c.in-Run.flat c.in-Run.instr c.args.number (alone_of a (the_view i) p) z
    (subst (λ o. IsOperationOf c.args.slot.now o) c.in-Run.is c.operation.ensures) refl c.run.ensures.state.state)
