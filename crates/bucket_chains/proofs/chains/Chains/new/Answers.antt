use Rattle.std.proofs.Common.{arith}
use Rattle.bucket_chains.proofs.Places.{blank}
use Rattle.bucket_chains.proofs.chains.Chains.new.Goals as goal

pub invariant_of-result : goal.invariant_of-result
invariant_of-result c = (
  blank c.new.ensures.items c.new-2.ensures.items c.new-3.ensures.items c.new-4.ensures.items c.new-5.ensures.items,
  record { buckets = omega (arith, c.new.ensures.len); nexts = omega (arith, c.new-2.ensures.len); befores = omega (arith, c.new-3.ensures.len) },
  record { firsts = λ some. absurd (omega (arith, some, c.new.ensures.len)); lasts = λ some. absurd (omega (arith, some, c.new.ensures.len)) },
)
