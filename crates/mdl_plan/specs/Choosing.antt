-- The insertions that are chosen at a point.
use Rattle.std.specs.Prelude.{ℕ, ◌==◌, ◌&&◌, Bool, true, false, List, [], ◌∷◌, ◌++◌, if◌then◌else◌}
use Rattle.std.specs.List.{list_any}
use Rattle.std.specs.Str.{bytes_eq}
use Rattle.pn_types.specs.declared.code.Point.{Point}
use Rattle.pn_types.specs.declared.code.Proc.{Proc}
use Rattle.mdl_ast.specs.declared.block.EventKind.{EventKind}
use Rattle.mdl_ast.specs.declared.block.EventKind.TheVariants.{Entry, After, Return, Call}
use Rattle.mdl_ast.specs.declared.block.Set.{Set}
use Rattle.mdl_ast.specs.declared.block.Set.TheVariants.{Focus, All, Names}
use Rattle.mdl_plan.specs.Pieces.{Piece}

-- procedure number q, which is p, is one of a set, where the focus selects the procedures of these numbers
abbrev pub in_set : List ℕ → Set → ℕ → Proc → Bool
in_set selected Focus q p = list_any (λ r. r == q) selected
in_set selected All q p = true
in_set selected (Names names) q p = list_any (bytes_eq p.name) names

-- the same kind of points
abbrev pub is_kind : EventKind → EventKind → Bool
is_kind Entry Entry = true
is_kind After After = true
is_kind Return Return = true
is_kind Call Call = true
is_kind a b = false

-- the insertion is one for the points of this kind of the procedure
abbrev pub is_chosen : List ℕ → EventKind → ℕ → Proc → Piece → Bool
is_chosen selected kind q p piece = is_kind kind piece.insertion.kind && in_set selected piece.set q p

abbrev pub kind_if : Bool → EventKind → List EventKind
kind_if b kind = if b then kind ∷ [] else []

-- the kinds of a point, in the order of their statements
abbrev pub kinds_of : Point → List EventKind
kinds_of p = kind_if p.entry Entry ++ (kind_if p.after After ++ (kind_if p.ret Return ++ kind_if p.call Call))
