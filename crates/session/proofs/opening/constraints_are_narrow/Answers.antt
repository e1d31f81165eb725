use Rattle.std.proofs.Common.{◌≡◌, Some, refl, sym, subst, length}
use Rattle.std.specs.Prelude.{slice_get}
use Rattle.std.specs.List.{AllByRecursion}
use Rattle.std.proofs.lemmas.Option.{slice_get_read}
use Rattle.session.specs.Given.{IsNarrowConstraint}
use Rattle.session.proofs.Readiness.{drop_all, drop_step}
use Rattle.session.proofs.opening.constraints_are_narrow.Goals as goal

pub loop-constraint-preserved : goal.loop-constraint-preserved
loop-constraint-preserved c rest =
    let all = c.args.constraints.now in
    let at : slice_get all c.loop-constraint.constraint-index ≡ Some c.constraint-item.result = slice_get_read all (length all) c.loop-constraint.constraint-index c.constraint-item.result refl c.loop-constraint-test.true c.constraint-item.is in
    c.loop-constraint.invariant (subst (AllByRecursion IsNarrowConstraint) (sym (drop_step all c.loop-constraint.constraint-index c.constraint-item.result at)) (c.begun_at-first.ensures, rest))

pub returns : goal.returns
returns c =
    let all = c.args.constraints.now in
    c.loop-constraint.invariant (subst (AllByRecursion IsNarrowConstraint) (sym (drop_all all c.loop-constraint.constraint-index c.loop-constraint-test.false)) tt)
