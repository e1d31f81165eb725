use Rattle.std.proofs.Common.{◌≤◌, ◌^◌, arith}
use Rattle.std.proofs.Math.Nat.{pow-le-pow_right}
use Rattle.rv_asm.proofs.layout.unit.Goals as goal

pub returns-clause-small : goal.returns-clause-small
returns-clause-small c =
    let least : c.min.result ≤ 12 = omega arith in
    let h : 2 ^ c.min.result ≤ 2 ^ 12 = pow-le-pow_right {n = 2} (omega arith) {i = c.min.result} {j = 12} least in
    omega arith
