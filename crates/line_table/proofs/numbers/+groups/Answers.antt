use Rattle.std.proofs.Common.{arith}
use Rattle.line_table.proofs.NumberLemmas.{scale_fits, scale_more, scale_one}
use Rattle.line_table.proofs.numbers.+groups.Goals as goal

pub returns-then-byte-lt128-clause-scale : goal.returns-then-byte-lt128-clause-scale
returns-then-byte-lt128-clause-scale t c = scale_one c.args.most (omega arith)

pub overflow_mul-all : goal.overflow_mul-all
overflow_mul-all t c = omega (arith, c.in_ok-high.ensures.below, scale_fits c.args.most (omega arith), scale_more c.args.most c.in_ok-high.high.scale (omega arith) c.in_ok-high.ensures.scale)

pub overflow_add-all : goal.overflow_add-all
overflow_add-all t c = omega (arith, c.in_ok-high.ensures.below, scale_fits c.args.most (omega arith), scale_more c.args.most c.in_ok-high.high.scale (omega arith) c.in_ok-high.ensures.scale)

pub overflow_mul-all-2 : goal.overflow_mul-all-2
overflow_mul-all-2 t c = omega (arith, scale_fits c.args.most (omega arith), scale_more c.args.most c.in_ok-high.high.scale (omega arith) c.in_ok-high.ensures.scale)

pub returns-clause-scale : goal.returns-clause-scale
returns-clause-scale t c = scale_more c.args.most c.in_ok-high.high.scale (omega arith) c.in_ok-high.ensures.scale
