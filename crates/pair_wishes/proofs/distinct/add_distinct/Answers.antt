use Rattle.std.proofs.Common.{◌≡◌, true, false, arith}
use Rattle.pair_wishes.proofs.Mentions.{taken, left_out}
use Rattle.pair_wishes.proofs.distinct.add_distinct.Goals as goal

-- src/distinct.rt:10:1
pub returns-in_ok-push-clause-distinct : goal.returns-in_ok-push-clause-distinct
returns-in_ok-push-clause-distinct c =
    let new : c.in_ok-known.known ≡ false = let t = c.if-not-known.true in grind arith in
    taken c.args.seen.now c.push.new.self c.args.distinct.now.items c.push-then-not-known.new.self.items c.args.text c.bytes.result.now c.in_ok-known.known
    c.bytes.ensures c.in_ok-known.ensures.before new c.requires c.in_ok-push.ensures.items c.in_ok-known.ensures.pushed

-- src/distinct.rt:10:1
pub returns-else-not-known-clause-distinct : goal.returns-else-not-known-clause-distinct
returns-else-not-known-clause-distinct c =
    let known : c.in_ok-known.known ≡ true = let t = c.if-not-known.false in grind arith in
    left_out c.args.seen.now c.push.new.self c.args.distinct.now.items c.bytes.result.now c.in_ok-known.known
    c.in_ok-known.ensures.before known c.requires c.in_ok-known.ensures.pushed
