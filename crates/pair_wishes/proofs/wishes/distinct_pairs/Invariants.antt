use Rattle.std.proofs.Common.{◌≡◌, ◌++◌, drop, flat_map, map}
use Rattle.first_places.specs.Groups.{first_mentions}
use Rattle.pair_wishes.specs.Wishes.{pairs_at}
use Rattle.pair_wishes.proofs.wishes.distinct_pairs.Given as goal

-- the pairs that were seen, and those of the foci that are left, are all, and of those seen each is taken once
abbrev pub invariant-loop-focus : goal.invariant-loop-focus
invariant-loop-focus l =
    (l.seen ++ flat_map (pairs_at (map (λ metric. metric.now) l.metrics)) (drop l.focus-index l.foci)
    ≡ flat_map (pairs_at (map (λ metric. metric.now) l.metrics)) l.foci)
    × (l.distinct.items ≡ first_mentions l.seen)
