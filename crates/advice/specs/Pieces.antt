-- For proofs alone: the parts of a text that are left.
use Rattle.std.specs.Prelude.{ℕ, List, []}
use Rattle.std.specs.Option.{option_map_or}
use Rattle.advice.specs.Words.{parts}
use Rattle.advice.specs.declared.pieces.Pieces.TheInside.{Inside}

abbrev pub parts_left : Inside → List (List ℕ)
parts_left p = option_map_or (λ rest. parts p.separator rest.now) p.rest []
