use Rattle.std.proofs.Common.{◌≡◌, ◌++◌, drop, flat_map}
use Rattle.pair_wishes.specs.Wishes.{wish_line}
use Rattle.pair_wishes.proofs.wishes.add_wishes.Given as goal

-- what is written, and the lines that are left, make all the lines
abbrev pub invariant-loop-pair : goal.invariant-loop-pair
invariant-loop-pair l =
    l.out.items ++ flat_map (wish_line l.at l.verb) (drop l.pair-index l.pairs) ≡ l.initial.out.items ++ flat_map (wish_line l.at l.verb) l.pairs
