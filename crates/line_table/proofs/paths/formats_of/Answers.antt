use Rattle.std.proofs.Common.{sym, arith}
use Rattle.std.proofs.lemmas.Result.{err_from_is_err_and}
use Rattle.line_table.specs.Paths.{format_at}
use Rattle.line_table.proofs.ListLemmas.{many_more, many_fault, refused}
use Rattle.line_table.proofs.paths.formats_of.Goals as goal

pub returns-in_err-format-clause-exact : goal.returns-in_err-format-clause-exact
returns-in_err-format-clause-exact c =
    let p = err_from_is_err_and c.from_residual.result c.from_residual.ensures.1 in
    refused _ c.from_residual.result _ c.in_err-format.field-0.0 p.0 p.1 p.2
    (many_fault (format_at c.args.bytes.now) c.args.count c.loop.counter c.loop.next c.loop.formats.items c.in_err-format.field-0.0 _
    c.loop-test.true (sym c.in_err-format.ensures.exact) c.loop.invariant.left)

pub loop-preserved : goal.loop-preserved
loop-preserved c = record {
  within = omega (arith, c.in_ok-format.ensures.within);
  left =
      many_more (format_at c.args.bytes.now) c.args.count c.loop.counter c.loop.next c.loop.formats.items c.push.new.self.items (c.in_ok-format.format, c.in_ok-format.end) _
      c.loop-test.true (sym c.in_ok-format.ensures.exact) c.in_ok-push.ensures.items c.loop.invariant.left;
}
