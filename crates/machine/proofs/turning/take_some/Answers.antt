use Rattle.std.proofs.Common.{subst}
use Rattle.std.specs.Prelude.{IsTrue}
use Rattle.rv_exec.specs.Shared.{prog_in}
use Rattle.tramp_spec.specs.Harts.{Hart}
use Rattle.machine.specs.Alone.{alone_of, may_alone}
use Rattle.machine.proofs.Alone.{leads_one}
use Rattle.machine.proofs.turning.take_some.Goals as goal

pub returns-clause-leads : goal.returns-clause-leads
returns-clause-leads c =
    let w = c.take_words-words.new in
    let x = alone_of c.args.progress.now c.args.hart.now (prog_in c.args.shared.now) in
    let y = alone_of w.progress w.hart (prog_in w.shared) in
    let z = alone_of c.take_turn.new.progress c.take_turn.new.hart (prog_in c.take_turn.new.shared) in
    let may = subst (λ b. IsTrue b) c.may_turn.ensures c.if-not-may_turn.false in
    leads_one c.args.store.now c.args.budget c.args.number c.take_words-words.result x y z c.take_words-words.ensures.leads
    (subst (λ (h : Hart). IsTrue (may_alone c.args.budget (alone_of w.progress h (prog_in w.shared)))) c.hart.view_is may) c.take_turn.ensures.turned
