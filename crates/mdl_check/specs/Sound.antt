-- What the statements of a checked configuration are within.
use Rattle.std.specs.Prelude.{◌≡◌, ◌<◌, ◌≤◌, Bool, true, false, Some, Ok, List, length}
use Rattle.std.specs.List.{AllByRecursion}
use Rattle.mdl_ast.specs.Small.{HasSmall, IsSmallRight, greatest_number}
use Rattle.mdl_ast.specs.declared.action.Action.{Action}
use Rattle.mdl_ast.specs.declared.action.Action.TheVariants.{Up, Down, Put, Start, Stop}
use Rattle.mdl_ast.specs.declared.action.LeftName.{LeftName}
use Rattle.mdl_ast.specs.declared.action.LeftName.TheVariants.{Variable, Argument}
use Rattle.mdl_ast.specs.declared.action.Statement.{Statement}
use Rattle.mdl_ast.specs.declared.block.Block.{Block}
use Rattle.mdl_ast.specs.declared.items.Item.{Item}
use Rattle.mdl_ast.specs.declared.metric.Metric.{Metric}
use Rattle.mdl_ast.specs.declared.metric.Constraint.{Constraint}
use Rattle.mdl_check.specs.Checking.{IsAnswer}
use Rattle.mdl_check.specs.Names.{constraint_named}
use Rattle.mdl_check.specs.declared.checked.Checked.{Checked}
use Rattle.resource_tree.specs.Resources.{Resources}

-- a condition on a variable that is a counter, or on one of the arguments 0 to 7
abbrev pub LeftFits : Bool → LeftName → Type 0
LeftFits timer (Variable var) = timer ≡ false
LeftFits timer (Argument n) = n < 8

-- counters are counted, and timers are started and stopped
abbrev pub ActFits : Bool → Action → Type 0
ActFits timer (Up var) = timer ≡ false
ActFits timer (Down var) = timer ≡ false
ActFits timer (Put var n) = (timer ≡ false) × (n ≤ greatest_number)
ActFits timer (Start var) = timer ≡ true
ActFits timer (Stop var) = timer ≡ true

-- a statement that fits a timer, or a counter
pub record Fits (timer : Bool) (s : Statement) : Type 0 where
  pub few : length s.conds ≤ 16
  pub lefts : AllByRecursion (λ c. LeftFits timer c.left) s.conds
  pub rights : AllByRecursion (λ c. IsSmallRight c.right) s.conds
  pub act : ActFits timer s.act

-- it holds of each statement of the blocks
abbrev pub OfEach : (Statement → Type 0) → List Block → Type 0
OfEach P = AllByRecursion (λ b. AllByRecursion (λ i. AllByRecursion P i.stmts) b.insertions)

-- a metric's own statements fit it
abbrev pub IsSoundMetric : Metric → Type 0
IsSoundMetric m = OfEach (Fits m.timer) m.blocks

-- a constraint's statements fit a counter, unless it is a replacement
abbrev pub IsSoundConstraint : Constraint → Type 0
IsSoundConstraint c = c.replace ≡ false → OfEach (Fits false) c.blocks

-- the statements of each replacement that the metric takes fit it
abbrev pub TakesFitting : List Constraint → Metric → Type 0
TakesFitting cs m =
    AllByRecursion (λ name. (c : Constraint) → constraint_named cs name ≡ Some c → c.replace ≡ true
    → OfEach (Fits m.timer) c.blocks) m.constraints

pub record IsSoundCheck (c : Checked) : Type 0 where
  pub metrics : AllByRecursion IsSoundMetric c.metrics
  pub constraints : AllByRecursion IsSoundConstraint c.constraints
  pub replacements : AllByRecursion (TakesFitting c.constraints) c.metrics

-- what the check accepts is sound, where the numbers of its statements are small, as those of parsed and shipped items are
abbrev pub CheckedIsSound : Type 0
CheckedIsSound = (t : Resources) (shipped items : List Item) (checked : Checked) → IsAnswer t shipped items (Ok checked)
    → AllByRecursion HasSmall shipped → AllByRecursion HasSmall items → IsSoundCheck checked
