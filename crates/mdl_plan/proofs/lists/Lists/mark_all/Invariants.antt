use Rattle.std.proofs.Common.{take}
use Rattle.mdl_plan.specs.Numbers.{Marked}
use Rattle.mdl_plan.proofs.lists.Lists.mark_all.Given as goal

abbrev pub invariant-loop-proc_no : goal.invariant-loop-proc_no
invariant-loop-proc_no l = Marked l.number (take l.proc_no-index l.procs) l.fn.self l.self
