-- What statements use.
use Rattle.std.specs.Prelude.{ℕ, ◌&&◌, ◌||◌, not, nat_lt, Bool, true, false, Option, is_none, List}
use Rattle.std.specs.List.{list_any}
use Rattle.mdl_ast.specs.declared.action.VarName.{VarName}
use Rattle.mdl_ast.specs.declared.action.VarName.TheVariants.{Named, TheMetric}
use Rattle.mdl_ast.specs.declared.action.LeftName.{LeftName}
use Rattle.mdl_ast.specs.declared.action.LeftName.TheVariants.{Variable, Argument}
use Rattle.mdl_ast.specs.declared.action.RightSide.{RightSide}
use Rattle.mdl_ast.specs.declared.action.RightSide.TheVariants.{Value}
use Rattle.mdl_ast.specs.declared.action.Condition.{Condition}
use Rattle.mdl_ast.specs.declared.action.Action.{Action}
use Rattle.mdl_ast.specs.declared.action.Action.TheVariants.{Up, Down, Put, Start, Stop}
use Rattle.mdl_ast.specs.declared.action.Statement.{Statement}
use Rattle.mdl_ast.specs.declared.block.Block.{Block}
use Rattle.mdl_check.specs.Names.{is_named}
use Rattle.mdl_check.specs.declared.uses.Use.{Use}
use Rattle.mdl_check.specs.declared.uses.Use.TheVariants as uses

-- a variable is the item's own: the one of its name, or `$metric` where the item has none
abbrev pub is_own : Option (List ℕ) → VarName → Bool
is_own own TheMetric = is_none own
is_own own (Named name) = is_named name own

-- the variable of an action
abbrev pub variable_of : Action → VarName
variable_of (Up v) = v
variable_of (Down v) = v
variable_of (Put v n) = v
variable_of (Start v) = v
variable_of (Stop v) = v

-- timers are started and stopped, and nothing else
abbrev pub is_timing : Action → Bool
is_timing (Up v) = false
is_timing (Down v) = false
is_timing (Put v n) = false
is_timing (Start v) = true
is_timing (Stop v) = true

abbrev pub action_has : Use → Option (List ℕ) → Action → Bool
action_has uses.OtherName own a = not (is_own own (variable_of a))
action_has uses.AsCounter own a = not (is_timing a) && is_own own (variable_of a)
action_has uses.AsTimer own a = is_timing a && is_own own (variable_of a)
action_has uses.ObjectValue own a = false
action_has uses.HighArgument own a = false

abbrev pub left_has : Use → Option (List ℕ) → LeftName → Bool
left_has uses.OtherName own (Variable v) = not (is_own own v)
left_has uses.AsCounter own (Variable v) = is_own own v
left_has uses.HighArgument own (Argument n) = nat_lt 7 n
left_has u own left = false

abbrev pub right_has : Use → RightSide → Bool
right_has uses.ObjectValue Value = true
right_has u right = false

abbrev pub condition_has : Use → Option (List ℕ) → Condition → Bool
condition_has u own c = left_has u own c.left || right_has u c.right

-- the statement has such a use: of a variable that isn't the item's own, of the own one as a counter or as a timer, of
-- the object's value, or of an argument above 7
abbrev pub statement_has : Use → Option (List ℕ) → Statement → Bool
statement_has u own s = action_has u own s.act || list_any (condition_has u own) s.conds

-- one of the statements of the blocks has such a use
abbrev pub have : Use → Option (List ℕ) → List Block → Bool
have u own blocks = list_any (λ b. list_any (λ i. list_any (statement_has u own) i.stmts) b.insertions) blocks
