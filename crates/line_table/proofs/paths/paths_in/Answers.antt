use Rattle.std.proofs.Common.{sym, arith}
use Rattle.std.proofs.lemmas.Result.{err_from_is_err_and}
use Rattle.line_table.specs.Paths.{path_at}
use Rattle.line_table.proofs.ListLemmas.{many_more, many_fault, refused}
use Rattle.line_table.proofs.paths.paths_in.Goals as goal

pub returns-in_err-path-clause-exact : goal.returns-in_err-path-clause-exact
returns-in_err-path-clause-exact c =
    let p = err_from_is_err_and c.from_residual.result c.from_residual.ensures.1 in
    refused _ c.from_residual.result _ c.in_err-path.field-0.0 p.0 p.1 p.2
    (many_fault (path_at c.args.ends.now c.args.formats.now c.args.bytes.now) c.args.count c.loop.counter c.loop.next c.loop.paths.items c.in_err-path.field-0.0 _
    c.loop-test.true (sym c.in_err-path.ensures.exact) c.loop.invariant.left)

pub loop-preserved : goal.loop-preserved
loop-preserved c = record {
  within = omega (arith, c.in_ok-path.ensures.within);
  left =
      many_more (path_at c.args.ends.now c.args.formats.now c.args.bytes.now) c.args.count c.loop.counter c.loop.next c.loop.paths.items c.push.new.self.items (c.in_ok-path.path, c.in_ok-path.end) _
      c.loop-test.true (sym c.in_ok-path.ensures.exact) c.in_ok-push.ensures.items c.loop.invariant.left;
}
