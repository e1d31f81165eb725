-- The shipped configuration with the lines that it has in its text.
use Rattle.std.proofs.Common.{[], ◌∷◌}
use Rattle.std.specs.Prelude.{true, false, Some, None, codes}
use Rattle.pn_types.specs.declared.compare.Cmp.TheVariants.{Eq, Lt}
use Rattle.mdl_ast.specs.declared.action.VarName.TheVariants.{Named, TheMetric}
use Rattle.mdl_ast.specs.declared.action.LeftName.TheVariants.{Argument}
use Rattle.mdl_ast.specs.declared.action.RightSide.TheVariants.{Number, Value}
use Rattle.mdl_ast.specs.declared.action.Action.TheVariants as act
use Rattle.mdl_ast.specs.declared.block.Set.TheVariants as set
use Rattle.mdl_ast.specs.declared.block.EventKind.TheVariants.{Entry, Return, Call}
use Rattle.mdl_ast.specs.declared.items.Conf.{Conf}
use Rattle.mdl_ast.specs.declared.items.Item.{Item}
use Rattle.mdl_ast.specs.declared.items.Item.TheVariants as item

abbrev lock_item : Item
lock_item =
    item.Sync (record { line = 1; name = codes "lock_" })

abbrev in_proc_item : Item
in_proc_item =
    item.Constraint (record {
      line = 2;
      name = codes "in_proc";
      path = codes "/Code";
      replace = false;
      initially = None;
      blocks = record { line = 3; set = set.Focus; insertions = record { line = 4; prepend = true; kind = Entry; constrained = false; stmts = record { line = 4; conds = []; act = act.Up (Named (codes "in_proc")) } ∷ [] } ∷ record { line = 5; prepend = false; kind = Return; constrained = false; stmts = record { line = 5; conds = []; act = act.Down (Named (codes "in_proc")) } ∷ [] } ∷ [] } ∷ [];
    })

abbrev proc_entries_item : Item
proc_entries_item =
    item.Constraint (record {
      line = 6;
      name = codes "proc_entries";
      path = codes "/Code";
      replace = true;
      initially = None;
      blocks = record { line = 7; set = set.Focus; insertions = record { line = 7; prepend = true; kind = Entry; constrained = true; stmts = record { line = 7; conds = []; act = act.Up TheMetric } ∷ [] } ∷ [] } ∷ [];
    })

abbrev proc_calls_item : Item
proc_calls_item =
    item.Constraint (record {
      line = 8;
      name = codes "proc_calls";
      path = codes "/Code";
      replace = true;
      initially = None;
      blocks = record { line = 9; set = set.Focus; insertions = record { line = 9; prepend = true; kind = Call; constrained = true; stmts = record { line = 9; conds = []; act = act.Up TheMetric } ∷ [] } ∷ [] } ∷ [];
    })

abbrev proc_time_item : Item
proc_time_item =
    item.Constraint (record {
      line = 10;
      name = codes "proc_time";
      path = codes "/Code";
      replace = true;
      initially = None;
      blocks = record { line = 11; set = set.Focus; insertions = record { line = 12; prepend = true; kind = Entry; constrained = false; stmts = record { line = 12; conds = []; act = act.Start TheMetric } ∷ [] } ∷ record { line = 13; prepend = false; kind = Return; constrained = false; stmts = record { line = 13; conds = []; act = act.Stop TheMetric } ∷ [] } ∷ [] } ∷ [];
    })

abbrev on_object_item : Item
on_object_item =
    item.Constraint (record {
      line = 14;
      name = codes "on_object";
      path = codes "/SyncObject";
      replace = false;
      initially = None;
      blocks = record { line = 15; set = set.Names (codes "lock_acquire" ∷ codes "barrier_wait" ∷ []); insertions = record { line = 16; prepend = true; kind = Entry; constrained = false; stmts = record { line = 16; conds = record { left = Argument 0; cmp = Eq; right = Value } ∷ []; act = act.Put (Named (codes "on_object")) 1 } ∷ [] } ∷ record { line = 17; prepend = false; kind = Return; constrained = false; stmts = record { line = 17; conds = []; act = act.Put (Named (codes "on_object")) 0 } ∷ [] } ∷ [] } ∷ [];
    })

abbrev procedure_calls_item : Item
procedure_calls_item =
    item.Metric (record {
      line = 18;
      name = codes "procedure_calls";
      units = codes "calls";
      constraints = codes "proc_entries" ∷ [];
      timer = false;
      initially = None;
      blocks = record { line = 19; set = set.All; insertions = record { line = 20; prepend = true; kind = Entry; constrained = false; stmts = record { line = 20; conds = []; act = act.Up (Named (codes "procedure_calls")) } ∷ [] } ∷ [] } ∷ [];
    })

abbrev calls_made_item : Item
calls_made_item =
    item.Metric (record {
      line = 21;
      name = codes "calls_made";
      units = codes "calls";
      constraints = codes "proc_calls" ∷ [];
      timer = false;
      initially = None;
      blocks = record { line = 22; set = set.All; insertions = record { line = 22; prepend = true; kind = Call; constrained = false; stmts = record { line = 22; conds = []; act = act.Up (Named (codes "calls_made")) } ∷ [] } ∷ [] } ∷ [];
    })

abbrev cpu_inclusive_item : Item
cpu_inclusive_item =
    item.Metric (record {
      line = 23;
      name = codes "cpu_inclusive";
      units = codes "ticks";
      constraints = codes "proc_time" ∷ [];
      timer = true;
      initially = Some 1;
      blocks = [];
    })

abbrev cpu_item : Item
cpu_item =
    item.Metric (record {
      line = 25;
      name = codes "cpu";
      units = codes "ticks";
      constraints = codes "proc_time" ∷ [];
      timer = true;
      initially = Some 1;
      blocks = record { line = 27; set = set.Names (codes "lock_acquire" ∷ codes "barrier_wait" ∷ codes "read" ∷ codes "write" ∷ []); insertions = record { line = 28; prepend = true; kind = Entry; constrained = false; stmts = record { line = 28; conds = []; act = act.Stop (Named (codes "cpu")) } ∷ [] } ∷ record { line = 29; prepend = false; kind = Return; constrained = false; stmts = record { line = 29; conds = []; act = act.Start (Named (codes "cpu")) } ∷ [] } ∷ [] } ∷ [];
    })

abbrev sync_wait_item : Item
sync_wait_item =
    item.Metric (record {
      line = 30;
      name = codes "sync_wait";
      units = codes "ticks";
      constraints = codes "in_proc" ∷ codes "on_object" ∷ [];
      timer = true;
      initially = None;
      blocks = record { line = 31; set = set.Names (codes "lock_acquire" ∷ codes "barrier_wait" ∷ []); insertions = record { line = 32; prepend = true; kind = Entry; constrained = true; stmts = record { line = 32; conds = []; act = act.Start (Named (codes "sync_wait")) } ∷ [] } ∷ record { line = 33; prepend = false; kind = Return; constrained = false; stmts = record { line = 33; conds = []; act = act.Stop (Named (codes "sync_wait")) } ∷ [] } ∷ [] } ∷ [];
    })

abbrev io_wait_item : Item
io_wait_item =
    item.Metric (record {
      line = 34;
      name = codes "io_wait";
      units = codes "ticks";
      constraints = codes "in_proc" ∷ [];
      timer = true;
      initially = None;
      blocks = record { line = 35; set = set.Names (codes "read" ∷ codes "write" ∷ []); insertions = record { line = 36; prepend = true; kind = Entry; constrained = true; stmts = record { line = 36; conds = []; act = act.Start (Named (codes "io_wait")) } ∷ [] } ∷ record { line = 37; prepend = false; kind = Return; constrained = false; stmts = record { line = 37; conds = []; act = act.Stop (Named (codes "io_wait")) } ∷ [] } ∷ [] } ∷ [];
    })

abbrev small_io_item : Item
small_io_item =
    item.Metric (record {
      line = 38;
      name = codes "small_io";
      units = codes "operations";
      constraints = codes "in_proc" ∷ [];
      timer = false;
      initially = None;
      blocks = record { line = 39; set = set.Names (codes "read" ∷ codes "write" ∷ []); insertions = record { line = 40; prepend = true; kind = Entry; constrained = true; stmts = record { line = 40; conds = record { left = Argument 2; cmp = Lt; right = Number 64 } ∷ []; act = act.Up (Named (codes "small_io")) } ∷ [] } ∷ [] } ∷ [];
    })

abbrev cpubound_item : Item
cpubound_item =
    item.Hypothesis (record {
      line = 41;
      name = codes "CPUbound";
      parent = None;
      metric = codes "cpu";
      threshold = 600;
      axes = codes "Code" ∷ codes "Machine" ∷ [];
    })

abbrev excessivesyncwaitingtime_item : Item
excessivesyncwaitingtime_item =
    item.Hypothesis (record {
      line = 42;
      name = codes "ExcessiveSyncWaitingTime";
      parent = None;
      metric = codes "sync_wait";
      threshold = 200;
      axes = codes "Code" ∷ codes "Machine" ∷ codes "SyncObject" ∷ [];
    })

abbrev excessiveioblockingtime_item : Item
excessiveioblockingtime_item =
    item.Hypothesis (record {
      line = 44;
      name = codes "ExcessiveIOBlockingTime";
      parent = None;
      metric = codes "io_wait";
      threshold = 200;
      axes = codes "Code" ∷ codes "Machine" ∷ [];
    })

abbrev toomanysmallioops_item : Item
toomanysmallioops_item =
    item.Hypothesis (record {
      line = 46;
      name = codes "TooManySmallIOOps";
      parent = Some (codes "ExcessiveIOBlockingTime");
      metric = codes "small_io";
      threshold = 5;
      axes = codes "Code" ∷ codes "Machine" ∷ [];
    })

abbrev pub lined : Conf
lined = record { items = lock_item ∷ in_proc_item ∷ proc_entries_item ∷ proc_calls_item ∷ proc_time_item ∷ on_object_item ∷ procedure_calls_item ∷ calls_made_item ∷ cpu_inclusive_item ∷ cpu_item ∷ sync_wait_item ∷ io_wait_item ∷ small_io_item ∷ cpubound_item ∷ excessivesyncwaitingtime_item ∷ excessiveioblockingtime_item ∷ toomanysmallioops_item ∷ [] }
