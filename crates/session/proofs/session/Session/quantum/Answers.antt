use Rattle.std.proofs.Common.{sym, subst}
use Rattle.machine.specs.Quanta.{KeepsBudget}
use Rattle.instrumented.specs.Instrumented.{Instrumented}
use Rattle.session.proofs.Halting.{not_halted}
use Rattle.session.proofs.session.Session.quantum.Goals as goal

pub returns-then-not-runnable-clause-budget : goal.returns-then-not-runnable-clause-budget
returns-then-not-runnable-clause-budget c =
    subst (λ (m : Instrumented). KeepsBudget m.core) (sym c.laws.ensures.machine) c.laws.ensures.run.budget

pub returns-clause-going_on : goal.returns-clause-going_on
returns-clause-going_on c halted =
    not_halted c.args.self.now.inputs c.args.self.now.quanta c.args.self.now.closed c.args.hart c.requires.going (c.runnable.ensures.open c.if-not-runnable.false) (c.runnable.ensures.few c.if-not-runnable.false) halted
