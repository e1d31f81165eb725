use Rattle.std.proofs.Common.{◌-◌, arith, rules}
use Rattle.rv_mem.proofs.Powers.{more_bytes}
use Rattle.rv_mem.proofs.mem.Mem.+load_bytes.Goals as goal

pub overflow_mul-result : goal.overflow_mul-result
overflow_mul-result t c =
    let m = more_bytes c.args.n (c.args.n - 1) c.in_ok-low.low c.in_ok-high.high (omega arith) c.requires (search rules) c.in_ok-high.ensures.bound in
    omega (arith, m.1)

pub overflow_add-result : goal.overflow_add-result
overflow_add-result t c =
    let m = more_bytes c.args.n (c.args.n - 1) c.in_ok-low.low c.in_ok-high.high (omega arith) c.requires (search rules) c.in_ok-high.ensures.bound in
    omega (arith, m.1)

pub returns-clause-bound : goal.returns-clause-bound
returns-clause-bound t c =
    (more_bytes c.args.n (c.args.n - 1) c.in_ok-low.low c.in_ok-high.high (omega arith) c.requires (search rules) c.in_ok-high.ensures.bound).0
