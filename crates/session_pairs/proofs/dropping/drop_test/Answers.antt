use Rattle.std.proofs.Common.{◌∙◌, ap, sym, Some, None}
use Rattle.instrumented.specs.Instrumented.{Instrumented}
use Rattle.session_pairs.proofs.Dropped.{dropped_as, tester_stands}
use Rattle.session_pairs.proofs.dropping.drop_test.Goals as goal

pub drop-requires : goal.drop-requires
drop-requires c = tester_stands c.args.machine.now.state c.args.node c.args.pairs.now.all.items c.in-Some.number (sym c.in-Some.is ∙ c.find_tester.ensures)

pub returns-in-Some-clause-machine : goal.returns-in-Some-clause-machine
returns-in-Some-clause-machine c =
    let d = c.args.machine.now in
    c.drop.ensures.state
    ∙ ap (λ (x : Instrumented). record d { state = x }) (dropped_as d.state c.args.node c.args.pairs.now.all.items (Some c.in-Some.number) (sym c.in-Some.is ∙ c.find_tester.ensures))

pub returns-in_default-clause-machine : goal.returns-in_default-clause-machine
returns-in_default-clause-machine c =
    let d = c.args.machine.now in
    ap (λ (x : Instrumented). record d { state = x }) (dropped_as d.state c.args.node c.args.pairs.now.all.items None (sym c.in_default.is ∙ c.find_tester.ensures))
