use Rattle.std.proofs.Common.{List, sym, subst}
use Rattle.std.proofs.lemmas.Result.{err_from_is_err_and}
use Rattle.line_table.specs.Paths.{listed}
use Rattle.line_table.specs.declared.paths.Path.{Path}
use Rattle.line_table.proofs.ListLemmas.{refused}
use Rattle.line_table.proofs.ListedLemmas.{ListedLeft, listed_first, listed_more, listed_fault}
use Rattle.line_table.proofs.listed.listed.Goals as goal

pub loop-paths-init : goal.loop-paths-init
loop-paths-init c =
    let b = c.args.bytes.now in
    let Begins : List Path → Type 0 = λ paths. ListedLeft c.args.is_file b paths c.args.at (listed c.args.is_file b c.args.at) in
    record { within = c.requires; left = subst Begins (sym c.new-paths.ensures.items) (listed_first c.args.is_file b c.args.at) }

pub returns-in_err-path-clause-exact : goal.returns-in_err-path-clause-exact
returns-in_err-path-clause-exact c =
    let p = err_from_is_err_and c.from_residual.result c.from_residual.ensures.1 in
    refused _ c.from_residual.result _ c.in_err-path.field-0.0 p.0 p.1 p.2
    (listed_fault c.args.is_file c.args.bytes.now c.loop-paths.paths.items c.loop-paths.next _ c.in_err-path.field-0.0 (sym c.in_err-path.ensures.exact) c.loop-paths.invariant.left)

pub loop-paths-preserved : goal.loop-paths-preserved
loop-paths-preserved c = record {
  within = c.in_ok-path.ensures.within.1;
  left =
      listed_more c.args.is_file c.args.bytes.now c.loop-paths.paths.items c.push.new.self.items c.loop-paths.next c.in_ok-path.end _ c.in_ok-path.path c.in-Some.path
      (sym c.in_ok-path.ensures.exact) c.in-Some.is c.in_ok-path.ensures.within.0 c.in_ok-path.ensures.within.1 c.in_ok-push.ensures.items c.loop-paths.invariant.left;
}
