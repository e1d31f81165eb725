use Rattle.std.proofs.Common.{◌≡◌, eqb, take}
use Rattle.std.specs.List.{filter}
use Rattle.session.proofs.later.first.Given as goal

abbrev pub invariant-loop-wish : goal.invariant-loop-wish
invariant-loop-wish l = l.list.items ≡ filter (λ w. eqb w.at 0) (take l.wish-index l.wishes)
