use Rattle.std.proofs.Common.{◌≡◌, ◌++◌, drop, map}
use Rattle.first_places.specs.Groups.{first_mentions}
use Rattle.pair_wishes.specs.Wishes.{pairs_at}
use Rattle.pair_wishes.proofs.wishes.add_pairs.Given as goal

-- the pairs that were seen, and those of the metrics that are left, are all, and of those seen each is taken once
abbrev pub invariant-loop-metric : goal.invariant-loop-metric
invariant-loop-metric l =
    (l.seen ++ pairs_at (map (λ metric. metric.now) (drop l.metric-index l.metrics)) l.focus
    ≡ l.initial.seen ++ pairs_at (map (λ metric. metric.now) l.metrics) l.focus)
    × (l.distinct.items ≡ first_mentions l.seen)
