-- The shipped configuration: its metrics with their constraints, and then its hypotheses. Every line is 0.
use Rattle.std.specs.Prelude.{ℕ, Bool, true, false, Option, Some, None, List, [], ◌∷◌, ◌++◌, codes}
use Rattle.pn_types.specs.declared.compare.Cmp.{Cmp}
use Rattle.pn_types.specs.declared.compare.Cmp.TheVariants.{Eq, Lt}
use Rattle.mdl_ast.specs.declared.action.VarName.TheVariants.{Named, TheMetric}
use Rattle.mdl_ast.specs.declared.action.LeftName.TheVariants.{Argument}
use Rattle.mdl_ast.specs.declared.action.RightSide.{RightSide}
use Rattle.mdl_ast.specs.declared.action.RightSide.TheVariants.{Number, Value}
use Rattle.mdl_ast.specs.declared.action.Action.{Action}
use Rattle.mdl_ast.specs.declared.action.Action.TheVariants as act
use Rattle.mdl_ast.specs.declared.action.Statement.{Statement}
use Rattle.mdl_ast.specs.declared.block.Set.{Set}
use Rattle.mdl_ast.specs.declared.block.Set.TheVariants as set
use Rattle.mdl_ast.specs.declared.block.EventKind.{EventKind}
use Rattle.mdl_ast.specs.declared.block.EventKind.TheVariants.{Entry, Return, Call}
use Rattle.mdl_ast.specs.declared.block.Insertion.{Insertion}
use Rattle.mdl_ast.specs.declared.block.Block.{Block}
use Rattle.mdl_ast.specs.declared.metric.Metric.{Metric}
use Rattle.mdl_ast.specs.declared.metric.Constraint.{Constraint}
use Rattle.mdl_ast.specs.declared.items.Conf.{Conf}
use Rattle.mdl_ast.specs.declared.items.Item.{Item}
use Rattle.mdl_ast.specs.declared.items.Item.TheVariants as item
use Rattle.mdl_ast.specs.declared.items.SyncDecl.{SyncDecl}
use Rattle.mdl_ast.specs.declared.items.Hypothesis.{Hypothesis}

-- ---- statements and blocks

abbrev pub plain : Action → Statement
plain action = record { line = 0; conds = []; act = action }

-- a statement under a condition on an argument
abbrev pub when_arg : ℕ → Cmp → RightSide → Action → Statement
when_arg n cmp right action = record { line = 0; conds = record { left = Argument n; cmp = cmp; right = right } ∷ []; act = action }

abbrev pub inserted : Bool → EventKind → Bool → Statement → Insertion
inserted prepend kind constrained s = record { line = 0; prepend = prepend; kind = kind; constrained = constrained; stmts = s ∷ [] }

-- one insertion before what stands at points of one kind
abbrev pub before : Set → EventKind → Bool → Statement → List Block
before s kind constrained statement = record { line = 0; set = s; insertions = inserted true kind constrained statement ∷ [] } ∷ []

-- one insertion before the entries, and one after the returns
abbrev pub around : Set → Bool → Statement → Statement → List Block
around s constrained first last =
    record { line = 0; set = s; insertions = inserted true Entry constrained first ∷ inserted false Return false last ∷ [] } ∷ []

-- the procedures that wait for locks and barriers
unfoldable pub locks : List (List ℕ)
locks = codes "lock_acquire" ∷ codes "barrier_wait" ∷ []

-- those that read and write
unfoldable pub transfers : List (List ℕ)
transfers = codes "read" ∷ codes "write" ∷ []

-- ---- constraints

abbrev pub constraint : List ℕ → List ℕ → Bool → List Block → Constraint
constraint name path replace blocks = record { line = 0; name = name; path = path; replace = replace; initially = None; blocks = blocks }

unfoldable pub in_proc : Constraint
in_proc = constraint (codes "in_proc") (codes "/Code") false
    (around set.Focus false (plain (act.Up (Named (codes "in_proc")))) (plain (act.Down (Named (codes "in_proc")))))

unfoldable pub proc_entries : Constraint
proc_entries = constraint (codes "proc_entries") (codes "/Code") true (before set.Focus Entry true (plain (act.Up TheMetric)))

unfoldable pub proc_calls : Constraint
proc_calls = constraint (codes "proc_calls") (codes "/Code") true (before set.Focus Call true (plain (act.Up TheMetric)))

unfoldable pub proc_time : Constraint
proc_time = constraint (codes "proc_time") (codes "/Code") true
    (around set.Focus false (plain (act.Start TheMetric)) (plain (act.Stop TheMetric)))

unfoldable pub on_object : Constraint
on_object = constraint (codes "on_object") (codes "/SyncObject") false
    (around (set.Names locks) false (when_arg 0 Eq Value (act.Put (Named (codes "on_object")) 1))
    (plain (act.Put (Named (codes "on_object")) 0)))

-- ---- metrics

abbrev pub metric : List ℕ → List ℕ → List (List ℕ) → Bool → Option ℕ → List Block → Metric
metric name units constraints timer initially blocks =
    record { line = 0; name = name; units = units; constraints = constraints; timer = timer; initially = initially; blocks = blocks }

-- a timer of this name, from the entry of these procedures to their return
abbrev pub waiting : List ℕ → Set → List (List ℕ) → Metric
waiting name procs constraints =
    metric name (codes "ticks") constraints true None (around procs true (plain (act.Start (Named name))) (plain (act.Stop (Named name))))

unfoldable pub procedure_calls : Metric
procedure_calls = metric (codes "procedure_calls") (codes "calls") (codes "proc_entries" ∷ []) false None
    (before set.All Entry false (plain (act.Up (Named (codes "procedure_calls")))))

unfoldable pub calls_made : Metric
calls_made = metric (codes "calls_made") (codes "calls") (codes "proc_calls" ∷ []) false None
    (before set.All Call false (plain (act.Up (Named (codes "calls_made")))))

unfoldable pub cpu_inclusive : Metric
cpu_inclusive = metric (codes "cpu_inclusive") (codes "ticks") (codes "proc_time" ∷ []) true (Some 1) []

unfoldable pub cpu : Metric
cpu = metric (codes "cpu") (codes "ticks") (codes "proc_time" ∷ []) true (Some 1)
    (around (set.Names (locks ++ transfers)) false (plain (act.Stop (Named (codes "cpu")))) (plain (act.Start (Named (codes "cpu")))))

unfoldable pub sync_wait : Metric
sync_wait = waiting (codes "sync_wait") (set.Names locks) (codes "in_proc" ∷ codes "on_object" ∷ [])

unfoldable pub io_wait : Metric
io_wait = waiting (codes "io_wait") (set.Names transfers) (codes "in_proc" ∷ [])

unfoldable pub small_io : Metric
small_io = metric (codes "small_io") (codes "operations") (codes "in_proc" ∷ []) false None
    (before (set.Names transfers) Entry true (when_arg 2 Lt (Number 64) (act.Up (Named (codes "small_io")))))

-- ---- hypotheses

abbrev pub hypothesis : List ℕ → Option (List ℕ) → List ℕ → ℕ → List (List ℕ) → Hypothesis
hypothesis name parent tested threshold axes =
    record { line = 0; name = name; parent = parent; metric = tested; threshold = threshold; axes = axes }

abbrev pub two_axes : List (List ℕ)
two_axes = codes "Code" ∷ codes "Machine" ∷ []

unfoldable pub cpu_bound : Hypothesis
cpu_bound = hypothesis (codes "CPUbound") None (codes "cpu") 600 two_axes

unfoldable pub excessive_sync : Hypothesis
excessive_sync = hypothesis (codes "ExcessiveSyncWaitingTime") None (codes "sync_wait") 200
    (codes "Code" ∷ codes "Machine" ∷ codes "SyncObject" ∷ [])

unfoldable pub excessive_io : Hypothesis
excessive_io = hypothesis (codes "ExcessiveIOBlockingTime") None (codes "io_wait") 200 two_axes

unfoldable pub small_operations : Hypothesis
small_operations = hypothesis (codes "TooManySmallIOOps") (Some (codes "ExcessiveIOBlockingTime")) (codes "small_io") 5 two_axes

-- ---- the whole

unfoldable pub lock_objects : SyncDecl
lock_objects = record { line = 0; name = codes "lock_" }

abbrev pub constraint_items : List Item
constraint_items =
    item.Constraint in_proc ∷ item.Constraint proc_entries ∷ item.Constraint proc_calls ∷ item.Constraint proc_time
    ∷ item.Constraint on_object ∷ []

abbrev pub first_metrics : List Item
first_metrics = item.Metric procedure_calls ∷ item.Metric calls_made ∷ item.Metric cpu_inclusive ∷ item.Metric cpu ∷ []

abbrev pub waiting_metrics : List Item
waiting_metrics = item.Metric sync_wait ∷ item.Metric io_wait ∷ item.Metric small_io ∷ []

abbrev pub metric_items : List Item
metric_items = first_metrics ++ waiting_metrics

abbrev pub hypothesis_items : List Item
hypothesis_items =
    item.Hypothesis cpu_bound ∷ item.Hypothesis excessive_sync ∷ item.Hypothesis excessive_io ∷ item.Hypothesis small_operations ∷ []

unfoldable pub shipped_conf : Conf
shipped_conf = record { items = item.Sync lock_objects ∷ (constraint_items ++ (metric_items ++ hypothesis_items)) }
