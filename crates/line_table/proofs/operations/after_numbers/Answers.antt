use Rattle.std.proofs.Common.{sym, arith}
use Rattle.line_table.proofs.NumberLemmas.{skipped_more}
use Rattle.line_table.proofs.operations.after_numbers.Goals as goal

pub loop-preserved : goal.loop-preserved
loop-preserved c = record {
  forward = omega (arith, c.in_ok-next.ensures.within);
  within = omega (arith, c.in_ok-next.ensures.within);
  left = skipped_more c.args.count c.loop.counter c.args.bytes.now c.loop.next c.in_ok-next.field-0 _ c.loop-test.true (sym c.in_ok-next.ensures.exact) c.loop.invariant.left;
}
