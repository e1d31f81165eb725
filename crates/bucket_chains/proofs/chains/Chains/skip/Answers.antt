use Rattle.std.proofs.Common.{ap, arith}
use Rattle.bucket_chains.proofs.Pushed.{skipped}
use Rattle.bucket_chains.proofs.chains.Chains.skip.Goals as goal

pub invariant_of-self : goal.invariant_of-self
invariant_of-self c = (
  rw c.push_reserved.ensures.items (rw c.push_reserved-2.ensures.items (rw c.push_reserved-3.ensures.items (skipped c.self.inside.buckets.items c.self.invariant.0))),
  record {
    buckets = omega (arith, c.self.invariant.1.buckets, c.requires, c.push_reserved.ensures.len, c.push_reserved.ensures.capacity);
    nexts = omega (arith, c.self.invariant.1.nexts, c.requires, c.push_reserved.ensures.len, c.push_reserved-2.ensures.capacity);
    befores = omega (arith, c.self.invariant.1.befores, c.requires, c.push_reserved.ensures.len, c.push_reserved-3.ensures.capacity);
  },
  record {
    firsts = λ _. c.self.invariant.2.firsts (omega (arith, c.requires, ap (λ v. v.room) c.self.view_is));
    lasts = λ _. c.self.invariant.2.lasts (omega (arith, c.requires, ap (λ v. v.room) c.self.view_is));
  },
)
