-- For proofs alone: the pieces that have statements.
use Rattle.std.specs.Prelude.{◌&&◌, nat_lt, Bool, if◌then◌else◌, List, length}
use Rattle.std.specs.List.{filter}
use Rattle.mdl_plan.specs.Pieces.{Piece, is_before, is_behind}

-- a piece that has statements
abbrev pub has_some : Piece → Bool
has_some p = nat_lt 0 (length p.insertion.stmts)

-- the pieces that have statements
abbrev pub busy : List Piece → List Piece
busy ps = filter has_some ps

-- a piece that has statements and goes there: before what is there, or after it
abbrev pub is_put_there : Bool → Piece → Bool
is_put_there prepend p = (if prepend then is_before p else is_behind p) && has_some p
