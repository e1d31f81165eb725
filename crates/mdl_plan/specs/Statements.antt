-- The statements of a plan.
use Rattle.std.specs.Prelude.{ℕ, ◌+◌, ◌%◌, if◌then◌else◌, List, [], ◌∷◌, ◌++◌, map}
use Rattle.pn_types.specs.declared.compare.Cmp.TheVariants.{Ne}
use Rattle.pn_types.specs.declared.plan.Act.{Act}
use Rattle.pn_types.specs.declared.plan.Act.TheVariants as act
use Rattle.pn_types.specs.declared.plan.Cond.{Cond}
use Rattle.pn_types.specs.declared.plan.Left.{Left}
use Rattle.pn_types.specs.declared.plan.Left.TheVariants as left
use Rattle.pn_types.specs.declared.plan.Stmt.{Stmt}
use Rattle.mdl_ast.specs.declared.action.Action.{Action}
use Rattle.mdl_ast.specs.declared.action.Action.TheVariants.{Up, Down, Put, Start, Stop}
use Rattle.mdl_ast.specs.declared.action.Condition.{Condition}
use Rattle.mdl_ast.specs.declared.action.LeftName.{LeftName}
use Rattle.mdl_ast.specs.declared.action.LeftName.TheVariants.{Variable, Argument}
use Rattle.mdl_ast.specs.declared.action.RightSide.{RightSide}
use Rattle.mdl_ast.specs.declared.action.RightSide.TheVariants.{Number, Value}
use Rattle.mdl_ast.specs.declared.action.Statement.{Statement}
use Rattle.mdl_ast.specs.declared.metric.Constraint.{Constraint}
use Rattle.mdl_plan.specs.Pieces.{Piece}

-- a counter isn't 0
abbrev pub guard : ℕ → Cond
guard v = record { left = left.Counter v; cmp = Ne; right = 0 }

-- none of the counters, of which the first has variable number v, is 0
abbrev pub guards : ℕ → List Constraint → List Cond
guards v [] = []
guards v (c ∷ cs) = guard v ∷ guards (v + 1) cs

-- what the statements of a plan have in common: the conditions of a constrained insertion, the outermost first, and the
-- address of the object
pub record Terms : Type 0 where
  pub guards : List Cond
  pub value : ℕ

-- the variable of a statement is that of its insertion; the check lets no argument above 7 through
abbrev pub left_of : ℕ → LeftName → Left
left_of v (Variable name) = left.Counter v
left_of v (Argument n) = left.Argument (n % 256)

abbrev pub right_of : ℕ → RightSide → ℕ
right_of value (Number n) = n
right_of value Value = value

abbrev pub cond_of : ℕ → ℕ → Condition → Cond
cond_of v value c = record { left = left_of v c.left; cmp = c.cmp; right = right_of value c.right }

abbrev pub act_of : ℕ → Action → Act
act_of v (Up name) = act.Up v
act_of v (Down name) = act.Down v
act_of v (Put name n) = act.Put v n
act_of v (Start name) = act.Start v
act_of v (Stop name) = act.Stop v

-- a statement of an insertion: what is constrained stands under the guards
abbrev pub stmt_of : Terms → Piece → Statement → Stmt
stmt_of t p s = record {
  conds = (if p.insertion.constrained then t.guards else []) ++ map (cond_of p.variable t.value) s.conds;
  act = act_of p.variable s.act;
}

abbrev pub stmts_of : Terms → Piece → List Stmt
stmts_of t p = map (stmt_of t p) p.insertion.stmts
