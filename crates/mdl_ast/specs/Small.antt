-- How large the numbers of statements are, and how many conditions they have.
use Rattle.std.specs.Prelude.{ℕ, ◌≤◌, List, length}
use Rattle.std.specs.List.{AllByRecursion}
use Rattle.mdl_ast.specs.declared.action.Action.{Action}
use Rattle.mdl_ast.specs.declared.action.Action.TheVariants.{Up, Down, Put, Start, Stop}
use Rattle.mdl_ast.specs.declared.action.RightSide.{RightSide}
use Rattle.mdl_ast.specs.declared.action.RightSide.TheVariants.{Number, Value}
use Rattle.mdl_ast.specs.declared.action.Statement.{Statement}
use Rattle.mdl_ast.specs.declared.block.Block.{Block}
use Rattle.mdl_ast.specs.declared.items.Item.{Item}
use Rattle.mdl_ast.specs.declared.items.Item.TheVariants as item

-- the greatest number that a configuration can write
abbrev pub greatest_number : ℕ
greatest_number = 2147483647

abbrev pub IsSmallRight : RightSide → Type 0
IsSmallRight (Number n) = n ≤ greatest_number
IsSmallRight Value = Unit {0}

abbrev pub IsSmallAction : Action → Type 0
IsSmallAction (Up var) = Unit {0}
IsSmallAction (Down var) = Unit {0}
IsSmallAction (Put var n) = n ≤ greatest_number
IsSmallAction (Start var) = Unit {0}
IsSmallAction (Stop var) = Unit {0}

-- at most 16 conditions, and numbers that can be written
pub record IsSmall (s : Statement) : Type 0 where
  pub few : length s.conds ≤ 16
  pub rights : AllByRecursion (λ c. IsSmallRight c.right) s.conds
  pub act : IsSmallAction s.act

abbrev pub AreSmall : List Block → Type 0
AreSmall = AllByRecursion (λ b. AllByRecursion (λ i. AllByRecursion IsSmall i.stmts) b.insertions)

-- the statements of an item are small
abbrev pub HasSmall : Item → Type 0
HasSmall (item.Include i) = Unit {0}
HasSmall (item.Sync s) = Unit {0}
HasSmall (item.Metric m) = AreSmall m.blocks
HasSmall (item.Constraint c) = AreSmall c.blocks
HasSmall (item.Hypothesis h) = Unit {0}
HasSmall (item.Search s) = Unit {0}
HasSmall (item.Phase p) = Unit {0}
HasSmall (item.Wish w) = Unit {0}
