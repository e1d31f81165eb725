-- The insertions of a metric at a focus, in the order in which their statements stand at a point.
use Rattle.std.specs.Prelude.{ℕ, ◌+◌, not, Bool, if◌then◌else◌, Option, Some, None, List, [], ◌∷◌, ◌++◌, map, flat_map}
use Rattle.std.specs.List.{filter}
use Rattle.std.specs.Option.{option_or}
use Rattle.mdl_ast.specs.declared.block.Set.{Set}
use Rattle.mdl_ast.specs.declared.block.Block.{Block}
use Rattle.mdl_ast.specs.declared.block.Insertion.{Insertion}
use Rattle.mdl_ast.specs.declared.metric.Metric.{Metric}
use Rattle.mdl_ast.specs.declared.metric.Constraint.{Constraint}
use Rattle.mdl_plan.specs.Active.{Active}

-- an insertion, the procedures that it is for, and the number of the variable that its statements use
pub record Piece : Type 0 where
  pub variable : ℕ
  pub set : Set
  pub insertion : Insertion

abbrev pub piece : ℕ → Set → Insertion → Piece
piece v set i = record { variable = v; set = set; insertion = i }

-- the insertions of blocks, whose statements use variable number v
abbrev pub pieces_of : ℕ → List Block → List Piece
pieces_of v blocks = flat_map (λ b. map (piece v b.set) b.insertions) blocks

-- ---- replacements and counters

abbrev pub replacing : Option Constraint → Option Constraint
replacing None = None
replacing (Some c) = if c.replace then Some c else None

-- what stands in the place of the metric's own blocks: the object's replacement before the code's
abbrev pub replacement : Active → Option Constraint
replacement a = option_or (replacing a.object) (replacing a.code)

abbrev pub counting : Option Constraint → List Constraint
counting None = []
counting (Some c) = if c.replace then [] else c ∷ []

-- the active counters, the code's first
abbrev pub counters : Active → List Constraint
counters a = counting a.code ++ counting a.object

abbrev pub base_blocks : Metric → Option Constraint → List Block
base_blocks m None = m.blocks
base_blocks m (Some c) = c.blocks

abbrev pub base_initially : Metric → Option Constraint → Option ℕ
base_initially m None = m.initially
base_initially m (Some c) = c.initially

-- the insertions of counters, of which the first has variable number v
abbrev pub counter_pieces : ℕ → List Constraint → List Piece
counter_pieces v [] = []
counter_pieces v (c ∷ cs) = pieces_of v c.blocks ++ counter_pieces (v + 1) cs

-- ---- the order

abbrev pub is_before : Piece → Bool
is_before p = p.insertion.prepend

abbrev pub is_behind : Piece → Bool
is_behind p = not p.insertion.prepend

-- before what is there come the counters' insertions and then the base's, and after it the base's and then the counters'
abbrev pub in_order : List Piece → List Piece → List Piece
in_order counters base = filter is_before (counters ++ base) ++ filter is_behind (base ++ counters)

-- the insertions of a metric with its active constraints, in the order of their statements
abbrev pub pieces : Metric → Active → List Piece
pieces m a = in_order (counter_pieces 1 (counters a)) (pieces_of 0 (base_blocks m (replacement a)))
