use Rattle.std.specs.Prelude.{drop}
use Rattle.std.specs.List.{AllByRecursion}
use Rattle.session.specs.Given.{IsNarrowConstraint}
use Rattle.session.proofs.opening.constraints_are_narrow.Given as goal

abbrev pub invariant-loop-constraint : goal.invariant-loop-constraint
invariant-loop-constraint l = AllByRecursion IsNarrowConstraint (drop l.constraint-index l.fn.constraints) → AllByRecursion IsNarrowConstraint l.fn.constraints
